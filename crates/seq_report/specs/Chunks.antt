-- Bookkeeping: how a report is made chunk by chunk: the text of some lines, and the first of them
-- that fails.
use Rattle.std.specs.Prelude.{ℕ, List, [], ◌∷◌, flat_map, Option, None, option_map}
use Rattle.std.specs.Option.{option_or}
use Rattle.criteria.specs.declared.criterion.Criterion.{Criterion}
use Rattle.seq_report.specs.Report.{Line, first_of, text_of}

-- a text of some lines, and the first of them that fails
pub record Part : Type 0 where
  pub text : List ℕ
  pub first : Option (ℕ × Criterion)

abbrev pub part_of : List Line → Part
part_of lines = record { text = flat_map text_of lines; first = first_of lines }

-- parts in their order
abbrev pub first_in : List Part → Option (ℕ × Criterion)
first_in [] = None
first_in (p ∷ ps) = option_or p.first (first_in ps)

abbrev pub text_in : List Part → List ℕ
text_in parts = flat_map (λ p. p.text) parts

-- the step of the first of some lines that fails
abbrev pub step_of_first : List Line → Option ℕ
step_of_first lines = option_map (λ first. first.0) (first_of lines)

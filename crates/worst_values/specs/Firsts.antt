-- The first of some lines that doesn't meet some criterion, with the first that it doesn't meet.
use Rattle.std.specs.Prelude.{ℕ, suc, List, [], ◌∷◌, Bool, Option, None, Some}
use Rattle.std.specs.Prelude.{option_map, if◌then◌else◌}
use Rattle.std.specs.Option.{option_or}
use Rattle.criteria.specs.Criteria.{criteria}
use Rattle.criteria.specs.declared.criterion.Criterion.{Criterion}

-- the criterion of the first mark; the marks behind those of the criteria are of causes
abbrev pub first_marked : List Criterion → List Bool → Option Criterion
first_marked [] marks = None
first_marked (c ∷ more) [] = None
first_marked (c ∷ more) (is_marked ∷ marks) =
    if is_marked then Some c else first_marked more marks

-- of lines from line k on
abbrev pub first_unmet : ℕ → List (List Bool) → Option (ℕ × Criterion)
first_unmet k [] = None
first_unmet k (marks ∷ lines) =
    option_or (option_map (λ c. (k, c)) (first_marked criteria marks)) (first_unmet (suc k) lines)

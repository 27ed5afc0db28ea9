-- What an edits file orders, line by line, or the number of its first line that is of no form. The
-- lines count from 1.
use Rattle.std.specs.Prelude.{ℕ, ◌+◌, List, [], ◌∷◌, ◌++◌, length, Result, Ok, Err}
use Rattle.units_core.specs.Outcome.{◌>>=◌, or_fault}
use Rattle.edits_file.specs.declared.files.EditsFault.{EditsFault}
use Rattle.edits_file.specs.declared.files.EditsFault.TheVariants.{Line}
use Rattle.edits_file.specs.declared.forms.EditLine.{EditLine}
use Rattle.edits_file.specs.Forms.{line_in}
use Rattle.edits_file.specs.Words.{lines_in}

-- these orders, and those of the lines behind them
abbrev pub edits_from : List EditLine → List (List ℕ) → Result (List EditLine) EditsFault
edits_from before [] = Ok before
edits_from before (line ∷ more) =
    or_fault (Line (length before + 1)) (line_in line)
    >>= (λ edit. edits_from (before ++ edit ∷ []) more)

-- the orders of a text
abbrev pub edits_of : List ℕ → Result (List EditLine) EditsFault
edits_of text = edits_from [] (lines_in text)

-- what was read; nothing of a text that has a line of no form
abbrev pub edits_left : Result (List EditLine) EditsFault → List EditLine
edits_left (Ok edits) = edits
edits_left (Err fault) = []

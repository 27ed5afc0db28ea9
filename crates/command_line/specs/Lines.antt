-- The line that words are, by the definition that `clap` gives of the command.
use Rattle.std.specs.Prelude.{◌≡◌, ◌≤◌, codes, List, Option, None, Some, false, option_map}
use Rattle.clap.specs.Words.{first_of, one_of, matches_of, takes, Row, Text}
use Rattle.command_line.specs.Words.{asked, command_of, IsNumberOf}
use Rattle.command_line.specs.declared.lines.Task.{Task}
use Rattle.command_line.specs.declared.lines.Task.TheVariants.{Check, First, WhatIf}
use Rattle.command_line.specs.declared.lines.Line.{Line}
use Rattle.command_line.specs.declared.lines.LineFault.{LineFault}
use Rattle.command_line.specs.declared.lines.LineFault.TheVariants.{Usage, NoMemory}

-- the edits file is named exactly for `whatif`, by the word that the command's definition gives it
abbrev pub IsEditsWord : List Row → Task → Option Text → Type 0
IsEditsWord rows WhatIf (Some edits) = first_of (codes "EDITS") rows ≡ Some edits
IsEditsWord rows WhatIf None = ⊥
IsEditsWord rows Check edits = edits ≡ None
IsEditsWord rows First edits = edits ≡ None

-- each field is the word that the command's definition gives it, and there is a steps file exactly
-- where it gives one
pub record IsLineOf (words : List Text) (line : Line) : Type 0 where
  pub folder : first_of (codes "FOLDER") (matches_of (command_of line.task) words)
      ≡ Some line.folder.now
  pub baplie : first_of (codes "BAPLIE") (matches_of (command_of line.task) words)
      ≡ Some line.baplie.now
  pub movins : first_of (codes "MOVINS") (matches_of (command_of line.task) words)
      ≡ Some line.movins.now
  pub edits : IsEditsWord (matches_of (command_of line.task) words) line.task
      (option_map (λ s. s.now) line.edits)
  pub steps : first_of (codes "steps") (matches_of (command_of line.task) words)
      ≡ option_map (λ s. s.now) line.steps
  pub workers : IsNumberOf
      (one_of (codes "workers") (matches_of (command_of line.task) words)) 4 line.workers
  pub some_workers : 1 ≤ line.workers
  pub few_workers : line.workers ≤ 16
  pub chunk : IsNumberOf
      (one_of (codes "chunk") (matches_of (command_of line.task) words)) 256 line.chunk
  pub at_least : 1 ≤ line.chunk
  pub at_most : line.chunk ≤ 200_000

abbrev pub IsUsage : LineFault → Type 0
IsUsage (Usage text) = Unit {0}
IsUsage NoMemory = ⊥

-- there is no such command, or its definition doesn't take the words behind its name
abbrev pub IsNotTakenBy : Option (Task × List Text) → Type 0
IsNotTakenBy None = Unit {0}
IsNotTakenBy (Some (task, words)) = takes (command_of task) words ≡ false

abbrev pub IsNotTaken : List Text → Type 0
IsNotTaken words = IsNotTakenBy (asked words)

-- the first word asks for what the line is to print, and the others are its fields
abbrev pub IsLineBy : Option (Task × List Text) → Line → Type 0
IsLineBy None line = ⊥
IsLineBy (Some (task, words)) line = (line.task ≡ task) × IsLineOf words line

abbrev pub IsLine : List Text → Line → Type 0
IsLine words line = IsLineBy (asked words) line

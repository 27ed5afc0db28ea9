-- What a parse of the command promises of its words.
use Rattle.std.specs.Prelude.{◌≡◌, ⊤, ℕ, codes, true, false, List, Option, Some, None, is_some}
use Rattle.clap.specs.Words.{Accepts, first_value, found_of, one_text, read_as, reading_of}
use Rattle.clap.specs.declared.builder.value_parser.ValueParser.{ValueParser}
use Rattle.clap.specs.declared.parser.matches.ArgMatches.{ArgMatches}
use Rattle.command_line.specs.Words.{within}
use Rattle.command_line.specs.declared.lines.Task.{Task}
use Rattle.command_line.specs.declared.lines.Task.TheVariants.{WhatIf}

abbrev pub HasWord : ArgMatches → List ℕ → Type 0
HasWord matches name = is_some (first_value (found_of matches) name) ≡ true

-- an option that is given has a text that its parser takes, and is read as that parser reads it
abbrev pub IsAccepted : ArgMatches → List ℕ → ValueParser → Type 0
IsAccepted matches name parser = HasWord matches name
    → (text : List ℕ)
    × (one_text (found_of matches) name ≡ Some (read_as (reading_of parser) text))
    × Accepts false parser text

-- the word that names the edits file, which is there for `whatif` alone
abbrev pub HasEdits : Task → ArgMatches → Type 0
HasEdits WhatIf matches = HasWord matches (codes "EDITS")
HasEdits task matches = ⊤

abbrev pub edits_in : Task → ArgMatches → Option (List ℕ)
edits_in WhatIf matches = first_value (found_of matches) (codes "EDITS")
edits_in task matches = None

-- each word that has to be there is, and the numbers lie within their limits
pub record HasWords (task : Task) (matches : ArgMatches) : Type 0 where
  pub folder : HasWord matches (codes "FOLDER")
  pub baplie : HasWord matches (codes "BAPLIE")
  pub movins : HasWord matches (codes "MOVINS")
  pub edits : HasEdits task matches
  pub workers : IsAccepted matches (codes "workers") (within 1 16)
  pub chunk : IsAccepted matches (codes "chunk") (within 1 200_000)

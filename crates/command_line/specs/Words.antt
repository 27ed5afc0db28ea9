-- The words of a command line: the first names the command, and the command reads those behind it.
use Rattle.std.specs.Str.{bytes_eq}
use Rattle.std.specs.Str.Parse.{digits_value, without_leading_plus}
use Rattle.std.specs.Prelude.{◌≡◌, codes, if◌then◌else◌, ℕ, pos, true, List, [], ◌∷◌, ◌++◌, Option}
use Rattle.std.specs.Prelude.{Some, None, option_map}
use Rattle.clap.specs.Words.{App, Rule, Text, new_app, new_rule, with_rule}
use Rattle.command_line.specs.declared.lines.Task.{Task}
use Rattle.command_line.specs.declared.lines.Task.TheVariants.{Check, First, WhatIf}
use Rattle.clap.specs.declared.builder.ArgAction.TheVariants.{Set}
use Rattle.clap.specs.declared.builder.value_parser.ValueParser.{ValueParser}
use Rattle.clap.specs.declared.builder.value_parser.ValueParser.TheVariants.{Signed}

-- a word that has to be there
abbrev pub positional : Text → Rule
positional name = record (new_rule name) { required = true; action = Some Set }

-- an option that takes one word, by its name behind two dashes; help has one name for that word
abbrev pub option_of : Text → Rule
option_of name = record (new_rule name) { long = Some name; action = Some Set; value_names = 1 }

-- a whole number from one limit to another, both taken
abbrev pub within : ℕ → ℕ → ValueParser
within least most = Signed (pos least) (pos most)

-- an option that takes a number within limits
abbrev pub number_option : Text → ℕ → ℕ → Rule
number_option name least most = record (option_of name) { parser = Some (within least most) }

-- the number of such an option: the one that its text spells, or the default where it isn't given
abbrev pub IsNumberOf : Option Text → ℕ → ℕ → Type 0
IsNumberOf None default number = number ≡ default
IsNumberOf (Some text) default number = number ≡ digits_value 10 (without_leading_plus text)

-- a command that is handed the words behind its name
abbrev pub without_name : App → App
without_name app = record app { top = record app.top { no_binary_name = true } }

-- what the commands are called in help
abbrev pub title_of : Task → Text
title_of Check = codes "loadseq check"
title_of First = codes "loadseq first"
title_of WhatIf = codes "loadseq whatif"

-- the word that names the edits file, which has to be there for `whatif` alone
abbrev pub edits_word : Task → List Rule
edits_word WhatIf = positional (codes "EDITS") ∷ []
edits_word task = []

-- the words that have to be there for every command, and the options
abbrev pub plain_words : List Rule
plain_words =
    positional (codes "FOLDER") ∷ positional (codes "BAPLIE") ∷ positional (codes "MOVINS") ∷ []

abbrev pub options : List Rule
options = option_of (codes "steps") ∷ number_option (codes "workers") 1 16 ∷ number_option
    (codes "chunk") 1 200_000 ∷ []

-- what a command takes, in this order
abbrev pub arguments_of : Task → List Rule
arguments_of task = plain_words ++ (edits_word task ++ options)

-- a command that takes these behind what it takes already
abbrev pub with_rules : App → List Rule → App
with_rules app [] = app
with_rules app (rule ∷ rules) = with_rules (with_rule app rule) rules

-- a command that takes nothing yet
abbrev pub bare : Task → App
bare task = without_name (new_app (title_of task))

-- `loadseq check FOLDER BAPLIE MOVINS [--steps FILE] [--workers N] [--chunk N]`, `loadseq first`
-- with the same words, and `loadseq whatif` with a fourth word, `FOLDER BAPLIE MOVINS EDITS`
abbrev pub command_of : Task → App
command_of task = with_rules (bare task) (arguments_of task)

-- what a first word asks for
abbrev pub task_named : Text → Option Task
task_named word =
    if bytes_eq word (codes "check") then Some Check
    else if bytes_eq word (codes "first") then Some First
    else if bytes_eq word (codes "whatif") then Some WhatIf
    else None

-- what the words of a command line ask for, with the words behind the command's name
abbrev pub asked : List Text → Option (Task × List Text)
asked [] = None
asked (word ∷ words) = option_map (λ task. (task, words)) (task_named word)

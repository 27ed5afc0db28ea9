-- The commands: clap's definition gives their matches, and a parse promises their words.
use Rattle.std.proofs.Common.{◌≡◌, ◌∙◌, ◌++◌, sym, refl, true, [], ◌∷◌, List, map, codes, Result, Ok, Err, IfOk, IfErr, ap, inl, inr}
use Rattle.clap.specs.Built.{IsParsedFrom}
use Rattle.clap.specs.Words.{App, Rule, Text, fault_of, found_of, is_simple, is_simple_and_free, kind_of, matches_of, rows_of, takes, FailsBy, HasMatchesOf}
use Rattle.clap.specs.declared.error.ErrorKind.TheVariants.{OutOfMemory}
use Rattle.clap.specs.declared.builder.command.Command.{Command}
use Rattle.clap.specs.declared.error.Error.{Error}
use Rattle.clap.specs.declared.parser.matches.ArgMatches.{ArgMatches}
use Rattle.clap.proofs.OnLiterals.{clap_on_literals}
use Rattle.command_line.specs.Chains.{TakesRules}
use Rattle.command_line.specs.Promised.{HasEdits, HasWords}
use Rattle.command_line.specs.Words.{arguments_of, bare, command_of, edits_word, number_option, options, plain_words, positional, within}
use Rattle.command_line.specs.declared.lines.Task.{Task}
use Rattle.command_line.specs.declared.lines.Task.TheVariants.{Check, First, WhatIf}
use Rattle.command_line.proofs.Chain.{among_behind, are_distinct, are_own, has_number, has_word}

pub simple : (task : Task) → is_simple (command_of task) ≡ true
unfolding clap_on_literals
simple Check = refl
simple First = refl
simple WhatIf = refl

pub simple_and_free : (task : Task) → is_simple_and_free (command_of task) ≡ true
unfolding clap_on_literals
simple_and_free Check = refl
simple_and_free First = refl
simple_and_free WhatIf = refl

-- What clap says of the matches of a command it says of the definition that the command is. The definition stands as a variable: to compute
-- with it written out takes too long.
pub rows_by : (r : Result ArgMatches Error) (a b : App) (words : List Text) → a ≡ b → is_simple b ≡ true → IfOk r (HasMatchesOf a words)
    → IfOk r (λ m. rows_of (found_of m) ≡ matches_of b words)
rows_by (Ok m) a b words e s h = (h (ap is_simple e ∙ s)).0 ∙ ap (λ (x : App). matches_of x words) e
rows_by (Err x) a b words e s h = tt

pub taken_by : (r : Result ArgMatches Error) (a b : App) (words : List Text) → a ≡ b → is_simple_and_free b ≡ true
    → (is_simple_and_free a ≡ true → FailsBy (fault_of a words) r) → IfOk r (λ _. fault_of b words ≡ [])
taken_by (Ok m) a b words e s h = sym (ap (λ (x : App). fault_of x words) e) ∙ h (ap is_simple_and_free e ∙ s)
taken_by (Err x) a b words e s h = tt

pub refused_by : (r : Result ArgMatches Error) (a b : App) (words : List Text) → a ≡ b → IfErr r (λ x. takes a words ≡ true → kind_of x ≡ OutOfMemory)
    → IfErr r (λ x. takes b words ≡ true → kind_of x ≡ OutOfMemory)
refused_by (Ok m) a b words e h = tt
refused_by (Err x) a b words e h = λ t. h (ap (λ (y : App). takes y words) e ∙ t)

own : (task : Task) → are_own (arguments_of task) ≡ true
own Check = refl
own First = refl
own WhatIf = refl

apart : (task : Task) → are_distinct (map (λ (r : Rule). r.id) (arguments_of task)) ≡ true
apart Check = refl
apart First = refl
apart WhatIf = refl

-- the options, one after another
pub in_order : (task : Task) (steps workers chunk : Rule)
    → (((plain_words ++ edits_word task) ++ steps ∷ []) ++ workers ∷ []) ++ chunk ∷ [] ≡ plain_words ++ (edits_word task ++ (steps ∷ workers ∷ chunk ∷ []))
in_order Check steps workers chunk = refl
in_order First steps workers chunk = refl
in_order WhatIf steps workers chunk = refl

has_edits : (task : Task) (command : Command) (m : ArgMatches) → TakesRules (bare task) (arguments_of task) command → IsParsedFrom command m → HasEdits task m
has_edits Check command m t p = tt
has_edits First command m t p = tt
has_edits WhatIf command m t p =
    has_word (bare WhatIf) (arguments_of WhatIf) command m t (own WhatIf) (apart WhatIf) p (positional (codes "EDITS")) (inr (inr (inr (inl refl)))) refl

pub has_words : (task : Task) (command : Command) (m : ArgMatches) → TakesRules (bare task) (arguments_of task) command → IsParsedFrom command m → HasWords task m
has_words task command m t p =
    let word = has_word (bare task) (arguments_of task) command m t (own task) (apart task) p in
    let number = has_number (bare task) (arguments_of task) command m t (own task) (apart task) p in
    let workers = number_option (codes "workers") 1 16 in
    let chunk = number_option (codes "chunk") 1 200_000 in
    record {
      folder = word (positional (codes "FOLDER")) (inl refl) refl;
      baplie = word (positional (codes "BAPLIE")) (inr (inl refl)) refl;
      movins = word (positional (codes "MOVINS")) (inr (inr (inl refl))) refl;
      edits = has_edits task command m t p;
      workers = number workers (within 1 16) (inr (inr (inr (among_behind workers (edits_word task) options (inr (inl refl)))))) refl refl;
      chunk = number chunk (within 1 200_000) (inr (inr (inr (among_behind chunk (edits_word task) options (inr (inr (inl refl))))))) refl refl;
    }

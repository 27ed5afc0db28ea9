-- What a line reads of its matches.
use Rattle.std.proofs.Common.{◌≡◌, ◌∙◌, ◌<◌, ◌≤◌, ◌^◌, codes, ℕ, Bool, true, false, List, Option, Some, None, Result, Ok, refl, sym, ap, inl, inr, Bor}
use Rattle.std.specs.Prelude.{option_map, is_some, slice_get, unwrap_or}
use Rattle.std.specs.Option.{option_and_then}
use Rattle.std.specs.Str.Parse.{ParsesUnsigned}
use Rattle.std.proofs.lemmas.Bool.{cases_Bool, true≢false}
use Rattle.clap.specs.Lexer.{without_minus}
use Rattle.clap.specs.Walk.{row_text}
use Rattle.clap.specs.Words.{Row, Text, ReadsOne, found_of, first_value, first_of, one_of, one_text, read_as, rows_of}
use Rattle.clap.specs.declared.builder.value_parser.Reading.{Reading}
use Rattle.clap.specs.declared.parser.matches.ArgMatches.{ArgMatches}
use Rattle.clap.specs.declared.parser.matches.Found.{Found}
use Rattle.clap.proofs.CallerReads.{signed_reads}
use Rattle.clap.proofs.WalkLemmas.{first_value-rows, one_text-rows}
use Rattle.command_line.specs.Lines.{IsEditsWord}
use Rattle.command_line.specs.Promised.{HasEdits, IsAccepted, edits_in}
use Rattle.command_line.specs.Words.{IsNumberOf, within}
use Rattle.command_line.specs.declared.lines.Task.{Task}
use Rattle.command_line.specs.declared.lines.Task.TheVariants.{Check, First, WhatIf}

pub not_true : (b : Bool) → (b ≡ true → ⊥) → b ≡ false
not_true true h = absurd (h refl)
not_true false h = refl

pub option_is : (m : ArgMatches) (rows : List Row) (id : Text) (r : Option (Bor (List ℕ))) → rows_of (found_of m) ≡ rows
    → option_map (λ x. x.now) r ≡ first_value (found_of m) id → first_of id rows ≡ option_map (λ x. x.now) r
option_is m rows id r e f = rw (← e) (sym (first_value-rows (found_of m) id) ∙ sym f)

pub word_is : (m : ArgMatches) (rows : List Row) (id : Text) (r : Option (Bor (List ℕ))) (s : Bor (List ℕ)) → rows_of (found_of m) ≡ rows
    → option_map (λ x. x.now) r ≡ first_value (found_of m) id → r ≡ Some s → first_of id rows ≡ Some s.now
word_is m rows id r s e f g = option_is m rows id r e f ∙ ap (option_map (λ x. x.now)) g

pub edits_are : (task : Task) (m : ArgMatches) (rows : List Row) (r : Option (Bor (List ℕ))) → rows_of (found_of m) ≡ rows
    → option_map (λ x. x.now) r ≡ edits_in task m → HasEdits task m → IsEditsWord rows task (option_map (λ x. x.now) r)
edits_are Check m rows r e is has = is
edits_are First m rows r e is has = is
edits_are WhatIf m rows None e is has =
    let bad : false ≡ true = rw (← is) at has in
    absurd (true≢false (sym bad))
edits_are WhatIf m rows (Some word) e is has = option_is m rows (codes "EDITS") (Some word) e is

-- where an id has no value, it has no text to be read as a number
no_text_in_row : (how : Reading) (o : Option Text) → is_some o ≡ false → option_map (read_as how) o ≡ None
no_text_in_row how None h = refl
no_text_in_row how (Some x) h = absurd (true≢false h)

no_text_in_rows : (o : Option Row) → is_some (option_and_then (λ (r : Row). slice_get r.values 0) o) ≡ false → option_and_then row_text o ≡ None
no_text_in_rows None h = refl
no_text_in_rows (Some r) h = no_text_in_row r.reading (slice_get r.values 0) h

no_text : (f : Found) (id : Text) → is_some (first_value f id) ≡ false → one_text f id ≡ None
no_text f id h = one_text-rows f id ∙ no_text_in_rows _ (rw (← first_value-rows f id) h)

digits_of : {E : Type 0} (bits default : ℕ) (G : List ℕ → Result ℕ E → Type 0) (u : List ℕ) (n : ℕ) (o : Option Text) (r : Option ℕ)
    → ((v : List ℕ) (x : Result ℕ E) → G v x → ParsesUnsigned bits 10 v x) → o ≡ Some u → r ≡ Some n → ReadsOne G u r → IsNumberOf o default n
digits_of bits default G u n o r only e f read = rw e (only u (Ok n) (rw f at read)).1

-- the number of an option with limits and a default, by what `get_one` gives for its name
pub number_is : (E : Type 0) (bits least most default : ℕ) (id : Text) (G : List ℕ → Result ℕ E → Type 0) (m : ArgMatches) (rows : List Row)
    (r : Option ℕ) (n : ℕ) → most < 2 ^ bits → least ≤ default → default ≤ most → rows_of (found_of m) ≡ rows
    → ((v : List ℕ) (x : Result ℕ E) → G v x → ParsesUnsigned bits 10 v x)
    → n ≡ unwrap_or r default → (one_text (found_of m) id ≡ None → r ≡ None)
    → ((t : List ℕ) → one_text (found_of m) id ≡ Some t → ReadsOne G t r) → IsAccepted m id (within least most)
    → IsNumberOf (one_of id rows) default n × (least ≤ n) × (n ≤ most)
number_is E bits least most default id G m rows r n wide low high same only is none value accepted =
    rw (← same, ← one_text-rows (found_of m) id)
    (elim (cases_Bool (is_some (first_value (found_of m) id))) [
      | inl given ↦
          let p = accepted given in
          let read = value (without_minus p.0) p.1 in
          let s = signed_reads E G bits least most p.0 r read only wide p.2 in
          let n_is : n ≡ s.0 = is ∙ ap (λ (o : Option ℕ). unwrap_or o default) s.1 in
          (digits_of bits default G (without_minus p.0) n _ r only p.1 (s.1 ∙ ap Some (sym n_is)) read, rw n_is s.2, rw n_is s.3)
      | inr absent ↦
          let gone = no_text (found_of m) id absent in
          let n_is : n ≡ default = is ∙ ap (λ (o : Option ℕ). unwrap_or o default) (none gone) in
          (rw gone n_is, rw n_is low, rw n_is high)
    ])

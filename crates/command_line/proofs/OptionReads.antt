-- What a parse says of an argument that was given: its text passed the argument's parser, and is read as that parser reads it.
-- clap's own lemma says so of required arguments alone.
use Rattle.std.proofs.Common.{◌≡◌, ◌∙◌, ◌<◌, ap, ℕ, Bool, true, false, List, [], ◌∷◌, length, is_some, Option, Some, None, refl, sym, subst, inl, inr, arith}
use Rattle.std.specs.List.{All, slice_index_or}
use Rattle.std.specs.Str.{bytes_eq}
use Rattle.std.specs.Prelude.{option_map, slice_get}
use Rattle.std.specs.Borrow.{Bor}
use Rattle.std.proofs.lemmas.Slice.Eq.{bytes_eq-Decides}
use Rattle.std.proofs.lemmas.List.Elements.{All-get_or}
use Rattle.clap.specs.Facts.{args_of, Entry, EntryPasses, PassesArg, HasReading, parser_of, parser_of_value}
use Rattle.clap.specs.Built.{IsPlain, IsParsedFrom, IsAuto}
use Rattle.clap.specs.Matches.{matched_of, first_value, one_text, found_of}
use Rattle.clap.specs.Values.{Accepts, read_as, reading_of}
use Rattle.clap.specs.declared.builder.value_parser.Reading.{Reading}
use Rattle.clap.specs.declared.builder.value_parser.ValueParser.{ValueParser}
use Rattle.clap.specs.declared.builder.arg.Arg.{Arg}
use Rattle.clap.specs.declared.builder.command.Command.{Command}
use Rattle.clap.specs.declared.builder.command.Command.TheViews.{out-Command}
use Rattle.clap.specs.declared.parser.matches.ArgMatches.{ArgMatches}
use Rattle.clap.specs.declared.parser.matches.Found.{Found}
use Rattle.clap.specs.declared.parser.matches.MatchedArg.{MatchedArg}
use Rattle.clap.proofs.CallerLemmas.{entry_by_id, same_rules_by_id}

first_passes : (P : Bor (List ℕ) → Type 0) (how : Reading) (values : List (Bor (List ℕ))) → All P values
    → is_some (option_map (λ s. s.now) (slice_get values 0)) ≡ true
    → (v : Bor (List ℕ)) × (option_map (λ s. read_as how s.now) (slice_get values 0) ≡ Some (read_as how v.now)) × P v
first_passes P how [] all some = cc
first_passes P how (v ∷ values) all some = (v, refl, All-get_or P (v ∷ values) 0 v (omega arith) all)

text_of_entry : (f : Found) (id : List ℕ) (x : MatchedArg) (how : Reading) (t : List ℕ) → matched_of f id ≡ Some x → x.reading ≡ how
    → option_map (λ s. read_as how s.now) (slice_get x.vals.items 0) ≡ Some t → one_text f id ≡ Some t
text_of_entry f id x how t found is v = rw (found, is) v

-- the k-th argument of a command, with its parser
module _ (command : Command) (m : ArgMatches) (p : IsParsedFrom command m) (k : ℕ) (d : Arg) (lt : k < length (args_of command))
    (unique : (j : ℕ) (e : Arg) → j < length (args_of command)
    → bytes_eq (slice_index_or (args_of command) j e).id.now (slice_index_or (args_of command) k d).id.now ≡ true → j ≡ k)
    (named : (slice_index_or (args_of command) k d).id.now ≡ [] → ⊥)
    (own : IsAuto (slice_index_or (args_of command) k d) → ⊥)
    (parser : ValueParser) (is_parser : (slice_index_or (args_of command) k d).value_parser ≡ Some parser) where
  read_by_parser : (how : Reading) → HasReading p.built (slice_index_or (args_of command) k d).id.now how → how ≡ reading_of parser
  read_by_parser how any =
      let same = same_rules_by_id command m p k d lt unique own any.0 any.1 any.2 any.3 any.4.0 in
      let is : parser_of any.1 ≡ parser = ap parser_of_value (same.parser parser is_parser) in
      sym any.4.1 ∙ ap reading_of is

  taken_by_parser : (t : List ℕ) → PassesArg p.built (slice_index_or (args_of command) k d).id.now t
      → Accepts (slice_index_or (args_of command) k d).ignore_case parser t
  taken_by_parser t pass =
      let same = same_rules_by_id command m p k d lt unique own pass.0 pass.1 pass.2 pass.3 pass.4.0 in
      let is : parser_of pass.1 ≡ parser = ap parser_of_value (same.parser parser is_parser) in
      subst (λ (b : Bool). Accepts b parser t) same.ignore_case (subst (λ (q : ValueParser). Accepts pass.1.ignore_case q t) is pass.4.1)

  abbrev pub IsRead : Type 0
  IsRead = (t : List ℕ) × (one_text (found_of m) (slice_index_or (args_of command) k d).id.now ≡ Some (read_as (reading_of parser) t))
      × Accepts (slice_index_or (args_of command) k d).ignore_case parser t

  -- the entry of the argument's name
  read_of_entry : IsPlain p.built → (x : MatchedArg) (e : Entry) → matched_of (found_of m) (slice_index_or (args_of command) k d).id.now ≡ Some x
      → is_some (option_map (λ s. s.now) (slice_get x.vals.items 0)) ≡ true → e.1 ≡ x → e.0.now ≡ (slice_index_or (args_of command) k d).id.now
      → EntryPasses p.built e → IsRead
  read_of_entry plain x e found first same key pass =
      let no_group : e.1.is_group ≡ true → ⊥ = λ g. elim (pass.3 g) [
        | inl empty ↦ named (sym key ∙ empty)
        | inr groups ↦
            let bad : 0 < 0 = rw plain.1 at groups in
            absurd (omega arith)
      ] in
      let all : All (λ v. PassesArg p.built (slice_index_or (args_of command) k d).id.now v.now) x.vals.items = elim pass.0 [
        | inl g ↦ absurd (no_group g)
        | inr values ↦ subst (λ (w : List ℕ). All (λ v. PassesArg p.built w v.now) x.vals.items) key (rw same at values)
      ] in
      let is : e.1.reading ≡ reading_of parser = elim pass.4 [
        | inl g ↦ absurd (no_group g)
        | inr h ↦ read_by_parser e.1.reading (subst (λ (w : List ℕ). HasReading p.built w e.1.reading) key h)
      ] in
      finish (first_passes _ (reading_of parser) x.vals.items all first) (ap (λ (y : MatchedArg). y.reading) (sym same) ∙ is)
    where
      finish : ((v : Bor (List ℕ)) × (option_map (λ s. read_as (reading_of parser) s.now) (slice_get x.vals.items 0) ≡ Some (read_as (reading_of parser) v.now))
          × PassesArg p.built (slice_index_or (args_of command) k d).id.now v.now) → x.reading ≡ reading_of parser → IsRead
      finish head is = (head.0.now, text_of_entry (found_of m) _ x (reading_of parser) _ found is head.1, taken_by_parser head.0.now head.2)

  pub given_is_read : IsPlain command → (out-Command command).has_globals ≡ false
      → is_some (first_value (found_of m) (slice_index_or (args_of command) k d).id.now) ≡ true → IsRead
  given_is_read plain globals has = go (matched_of (found_of m) (slice_index_or (args_of command) k d).id.now) refl has
    where
      go : (o : Option MatchedArg) → matched_of (found_of m) (slice_index_or (args_of command) k d).id.now ≡ o
          → is_some (first_value (found_of m) (slice_index_or (args_of command) k d).id.now) ≡ true → IsRead
      go None e h =
          let bad : false ≡ true = rw e at h in
          cc
      go (Some x) e h =
          let parsed = p.parsed (p.from.globals ∙ globals) in
          let got = entry_by_id (EntryPasses p.built) (found_of m).entries.items (slice_index_or (args_of command) k d).id.now x parsed.values e in
          read_of_entry (p.from.plain plain) x got.0 e (rw e at h) got.1 ((bytes_eq-Decides got.0.0.now _).0 got.2) got.3

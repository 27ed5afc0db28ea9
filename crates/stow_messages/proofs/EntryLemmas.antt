-- A walk over the parts of a message gives their entries, or the first fault.
use Rattle.std.proofs.Common.{◌≡◌, ◌∙◌, ◌⊎◌, inl, inr, ℕ, ◌<◌, ◌≤◌, List, [], ◌∷◌, ◌++◌, append_assoc, append-nil, length, length-append, Option, Some, None, Result, Ok, Err, Bool, true, false, refl, sym, ap, subst, arith}
use Rattle.std.specs.Prelude.{is_ok, flat_map, nat_lt, option_to_list}
use Rattle.std.specs.List.{list_all}
use Rattle.std.proofs.lemmas.Bool.{cases_lt}
use Rattle.std.proofs.lemmas.Bool.Decides.{nat_tests}
use Rattle.edifact_text.specs.Interchange.{Numbered}
use Rattle.stow_messages.specs.declared.faults.StowFault.{StowFault}
use Rattle.stow_messages.specs.declared.faults.StowCode.TheVariants.{TooMany}
use Rattle.units_core.specs.Outcome.{◌>>=◌}
use Rattle.stow_messages.specs.Entries.{fault_at, with_entry, entries_of, AreEntries}
use Rattle.stow_messages.specs.Faults.{IsRefused, IsFirstFault}

-- what follows from one step of a chain, whatever the rest makes of it
pub followed : {A B E : Type 0} (r : Result A E) (f : A → Result B E) (all : B) (P : Type 0) → (r >>= f) ≡ Ok all
    → ((a : A) → r ≡ Ok a → f a ≡ Ok all → P) → P
followed (Ok a) f all P e go = go a refl e
followed (Err x) f all P e go = cc e

-- what a result is, where one of two claims is true, each of which determines it
pub told : {A E : Type 0} (r : Result A E) (P : A → Type 0) (Q : E → Type 0) → ((a : A) → P a → r ≡ Ok a) → ((e : E) → Q e → r ≡ Err e)
    → ((a : A) × P a) ⊎ ((e : E) × Q e) → (a : A) → r ≡ Ok a → P a
told r P Q good bad (inl h) a e =
    let is = good h.0 h.1 in
    let same : h.0 ≡ a = cc in
    subst P same h.1
told r P Q good bad (inr h) a e = let is = bad h.0 h.1 in cc

-- an entry, or none, and whether there is room for it
module _ {X : Type 0} (most : ℕ) (entries : List X) (location : Numbered) where
  fits : (o : Option X) → length (entries ++ option_to_list o) ≤ most
      → with_entry most entries location o ≡ Ok (entries ++ option_to_list o)
  fits None few = ap Ok (sym (append-nil entries))
  fits (Some x) few =
      let test : nat_lt (length entries) most ≡ true = grind (arith, nat_tests, length-append entries (x ∷ [])) in
      rw test refl

  too_many : (x : X) → length entries ≡ most → with_entry most entries location (Some x) ≡ Err (fault_at TooMany location)
  too_many x full =
      let test : nat_lt (length entries) most ≡ false = grind (arith, nat_tests) in
      rw test refl

room : {X : Type 0} (most : ℕ) (entries : List X) (o : Option X) → length entries ≤ most
    → (length (entries ++ option_to_list o) ≤ most) ⊎ ((x : X) × (o ≡ Some x) × (length entries ≡ most))
room most entries None few = inl (rw append-nil few)
room most entries (Some x) few = go (cases_lt (length entries) most)
  where
    go : (length entries < most) ⊎ (most ≤ length entries)
        → (length (entries ++ option_to_list (Some x)) ≤ most) ⊎ ((y : _) × (Some x ≡ Some y) × (length entries ≡ most))
    go (inl h) = inl (grind (arith, length-append entries (x ∷ [])))
    go (inr h) = inr (x, refl, omega (arith, few, h))

module _ {X P : Type 0} (most : ℕ) (location : P → Numbered) (gives : P → Result (Option X) StowFault) where
  abbrev pub walk : List X → List P → Result (List X) StowFault
  walk entries [] = Ok entries
  walk entries (p ∷ more) = gives p >>= with_entry most entries (location p) >>= (λ longer. walk longer more)

  abbrev pub entries_in : List P → List X
  entries_in parts = flat_map (λ p. entries_of (gives p)) parts

  abbrev pub AreSound : List P → Type 0
  AreSound parts = list_all (λ p. is_ok (gives p)) parts ≡ true

  -- one part, and those behind it
  one_more : (start : List X) (p : P) (behind : List P) (o : Option X) → gives p ≡ Ok o
      → (start ++ option_to_list o) ++ entries_in behind ≡ start ++ entries_in (p ∷ behind)
  one_more start p behind o is =
      append_assoc start (option_to_list o) (entries_in behind)
      ∙ ap (λ (l : List X). start ++ (l ++ entries_in behind)) (sym (ap entries_of is))

  -- parts without a fault
  walks_on : (start : List X) (parts : List P) → AreSound parts → length (start ++ entries_in parts) ≤ most
      → walk start parts ≡ Ok (start ++ entries_in parts)
  walks_on start [] sound few = ap Ok (sym (append-nil start))
  walks_on start (p ∷ behind) sound few = go (gives p) refl (λ longer. walks_on longer behind)
    where
      go : (r : Result (Option X) StowFault) → gives p ≡ r
          → ((longer : List X) → AreSound behind → length (longer ++ entries_in behind) ≤ most → walk longer behind ≡ Ok (longer ++ entries_in behind))
          → walk start (p ∷ behind) ≡ Ok (start ++ entries_in (p ∷ behind))
      go (Err f) is on = let no : ◌≡◌ {A = Bool} false true = rw is at sound in cc no
      go (Ok o) is on =
          let all = one_more start p behind o is in
          let fewer : length ((start ++ option_to_list o) ++ entries_in behind) ≤ most = subst (λ (l : List X). length l ≤ most) (sym all) few in
          let here : length (start ++ option_to_list o) ≤ most = omega (arith, fewer, length-append (start ++ option_to_list o) (entries_in behind)) in
          let rest = on (start ++ option_to_list o) (rw is at sound) fewer in
          rw (is, fits most start (location p) o here) (rest ∙ ap Ok (append_assoc start (option_to_list o) (entries_in behind)))

  walks_past : (start entries : List X) (before rest : List P) → walk start before ≡ Ok entries
      → walk start (before ++ rest) ≡ walk entries rest
  walks_past start entries [] rest h = let same : start ≡ entries = cc in rw same refl
  walks_past start entries (p ∷ before) rest h =
      followed (gives p >>= with_entry most start (location p)) (λ longer. walk longer before) entries (walk start ((p ∷ before) ++ rest) ≡ walk entries rest) h
      (λ longer is on. rw is (walks_past longer entries before rest on))

  -- a part that is refused
  stops : (entries : List X) (p : P) (behind : List P) (f : StowFault) → IsRefused most entries (location p) (gives p) f
      → walk entries (p ∷ behind) ≡ Err f
  stops entries p behind f (inl is) = rw is refl
  stops entries p behind f (inr h) = rw (h.1, too_many most entries (location p) h.0 h.2, h.3) refl

  pub entries_walk : (parts : List P) (entries : List X) → AreEntries gives parts entries → length entries ≤ most
      → walk [] parts ≡ Ok entries
  entries_walk parts entries h few =
      walks_on [] parts h.sound (subst (λ (l : List X). length l ≤ most) h.each few) ∙ ap Ok (sym h.each)

  pub fault_walks : (parts : List P) (f : StowFault) → IsFirstFault most location gives parts f → walk [] parts ≡ Err f
  fault_walks parts f h =
      ap (walk []) h.parts_are
      ∙ walks_past [] h.entries h.before (h.part ∷ h.behind) (entries_walk h.before h.entries h.given_before h.few)
      ∙ stops h.entries h.part h.behind f h.refused

  -- behind some entries, parts without a fault, or the first fault among them
  record AreFew (start : List X) (parts : List P) : Type 0 where
    sound : AreSound parts
    few : length (start ++ entries_in parts) ≤ most

  record AreStopped (start : List X) (parts : List P) : Type 0 where
    fault : StowFault
    before : List P
    part : P
    behind : List P
    parts_are : parts ≡ before ++ part ∷ behind
    few_before : AreFew start before
    refused : IsRefused most (start ++ entries_in before) (location part) (gives part) fault

  one_less : (start : List X) (p : P) (parts : List P) (o : Option X) → gives p ≡ Ok o → AreFew (start ++ option_to_list o) parts
      → AreFew start (p ∷ parts)
  one_less start p parts o is h = record {
    sound = rw is h.sound;
    few = subst (λ (l : List X). length l ≤ most) (one_more start p parts o is) h.few;
  }

  none_yet : (start : List X) → length start ≤ most → AreFew start []
  none_yet start few = record { sound = refl; few = rw append-nil few }

  stopped_here : (start : List X) (p : P) (behind : List P) (f : StowFault) → length start ≤ most
      → IsRefused most start (location p) (gives p) f → AreStopped start (p ∷ behind)
  stopped_here start p behind f few refused = record {
    fault = f;
    before = [];
    part = p;
    behind = behind;
    parts_are = refl;
    few_before = none_yet start few;
    refused = subst (λ (l : List X). IsRefused most l (location p) (gives p) f) (sym (append-nil start)) refused;
  }

  stopped_behind : (start : List X) (p : P) (parts : List P) (o : Option X) → gives p ≡ Ok o → AreStopped (start ++ option_to_list o) parts
      → AreStopped start (p ∷ parts)
  stopped_behind start p parts o is h = record {
    fault = h.fault;
    before = p ∷ h.before;
    part = h.part;
    behind = h.behind;
    parts_are = ap (λ (l : List P). p ∷ l) h.parts_are;
    few_before = one_less start p h.before o is h.few_before;
    refused = subst (λ (l : List X). IsRefused most l (location h.part) (gives h.part) h.fault) (one_more start p h.before o is) h.refused;
  }

  either_from : (start : List X) (parts : List P) → length start ≤ most → AreFew start parts ⊎ AreStopped start parts
  either_from start [] few = inl (none_yet start few)
  either_from start (p ∷ behind) few = go (gives p) refl (λ longer. either_from longer behind)
    where
      go : (r : Result (Option X) StowFault) → gives p ≡ r
          → ((longer : List X) → length longer ≤ most → AreFew longer behind ⊎ AreStopped longer behind)
          → AreFew start (p ∷ behind) ⊎ AreStopped start (p ∷ behind)
      go (Err f) is on = inr (stopped_here start p behind f few (inl is))
      go (Ok o) is on =
          elim (room most start o few) [
            | inl fit ↦ elim (on (start ++ option_to_list o) fit) [
              | inl h ↦ inl (one_less start p behind o is h)
              | inr h ↦ inr (stopped_behind start p behind o is h)
            ]
            | inr h ↦ inr (stopped_here start p behind _ few (inr (h.0, is ∙ ap Ok h.1, h.2, refl)))
          ]

  pub either_is : (parts : List P)
      → ((entries : List X) × AreEntries gives parts entries × (length entries ≤ most)) ⊎ ((f : StowFault) × IsFirstFault most location gives parts f)
  either_is parts =
      elim (either_from [] parts (omega arith)) [
        | inl h ↦ inl (entries_in parts, record { sound = h.sound; each = refl }, h.few)
        | inr h ↦ inr (
          h.fault,
          record {
            before = h.before;
            part = h.part;
            behind = h.behind;
            entries = entries_in h.before;
            parts_are = h.parts_are;
            given_before = record { sound = h.few_before.sound; each = refl };
            few = h.few_before.few;
            refused = h.refused;
          },
        )
      ]

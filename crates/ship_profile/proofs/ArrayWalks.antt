-- Elements that are made one after another give all of them, or the fault of the first that is refused.
use Rattle.std.proofs.Common.{◌≡◌, ◌∙◌, ◌⊎◌, inl, inr, ℕ, zero, suc, ◌<◌, ◌≤◌, nat_le, true, false, List, [], ◌∷◌, ◌++◌, length, take, append_assoc, append-nil, Option, Some, None, Result, Ok, Err, refl, ap, sym, subst, arith}
use Rattle.std.specs.Prelude.{slice_get}
use Rattle.std.proofs.lemmas.Bool.{cases_lt}
use Rattle.std.proofs.lemmas.Bool.Decides.{nat_tests}
use Rattle.toml.specs.Data.{Data, Items, Members, get_member, as_array}
use Rattle.units_core.specs.Outcome.{◌>>=◌, demand}
use Rattle.ship_tables.specs.declared.faults.File.TheVariants as file
use Rattle.ship_profile.specs.declared.faults.Key.{Key}
use Rattle.ship_profile.specs.declared.faults.ProfileFault.{ProfileFault}
use Rattle.ship_profile.specs.declared.faults.ProfileFault.TheVariants.{MissingKey, BadKey, OutOfLimits, TooFewRows}
use Rattle.ship_profile.specs.Keys.{name_of, items_in, elements_of, elements_at, optional_of}
use Rattle.ship_profile.specs.Outcome.{one_by_one}
use Rattle.ship_profile.specs.Faults.{HasOneAnswer, AreMadeOf, IsFirstRefused, AreElements, IsArrayFault, AreElementsAt, IsArrayFaultAt, AreOptionalAt, IsOptionalFaultAt}

-- one answer of a result, where each of two claims determines it
pub one_answer : {A : Type 0} (r : Result A ProfileFault) (P : A → Type 0) (Q : ProfileFault → Type 0) → ((a : A) → P a → r ≡ Ok a)
    → ((f : ProfileFault) → Q f → r ≡ Err f) → ((a : A) × P a) ⊎ ((f : ProfileFault) × Q f) → HasOneAnswer r P Q
one_answer r P Q good bad either = record {
  sound = good;
  fault = bad;
  either = either;
  not_both = λ a f p q.
      let x = good a p in
      let y = bad f q in
      cc;
}

module _ {A B : Type 0} (next : List B → A → Result B ProfileFault) where
  -- each gives its value after those that are done, one by one
  abbrev Made : List B → List A → List B → Type 0
  Made done [] [] = Unit {0}
  Made done (x ∷ xs) (y ∷ ys) = (next done x ≡ Ok y) × Made (done ++ y ∷ []) xs ys
  Made _ _ _ = ⊥

  -- the same by their numbers
  record AreMadeAfter (done : List B) (xs : List A) (ys : List B) : Type 0 where
    as_many : length ys ≡ length xs
    each : (k : ℕ) (x : A) (y : B) → slice_get xs k ≡ Some x → slice_get ys k ≡ Some y → next (done ++ take k ys) x ≡ Ok y

  made : (done : List B) (xs : List A) (ys : List B) → AreMadeAfter done xs ys → Made done xs ys
  made done [] [] h = tt
  made done [] (y ∷ ys) h = absurd (omega (arith, h.as_many))
  made done (x ∷ xs) [] h = absurd (omega (arith, h.as_many))
  made done (x ∷ xs) (y ∷ ys) h = (
    subst (λ (l : List B). next l x ≡ Ok y) (append-nil done) (h.each zero x y refl refl),
    made (done ++ y ∷ []) xs ys (record {
      as_many = omega (arith, h.as_many);
      each = λ k a b at is. subst (λ (l : List B). next l a ≡ Ok b) (sym (append_assoc done (y ∷ []) (take k ys))) (h.each (suc k) a b at is);
    }),
  )

  are_made : (done : List B) (xs : List A) (ys : List B) → Made done xs ys → AreMadeAfter done xs ys
  are_made done [] [] h = record { as_many = refl; each = λ k a b at is. cc }
  are_made done [] (y ∷ ys) h = absurd h
  are_made done (x ∷ xs) [] h = absurd h
  are_made done (x ∷ xs) (y ∷ ys) h =
      let rest = are_made (done ++ y ∷ []) xs ys h.1 in
      record { as_many = ap suc rest.as_many; each = numbered rest }
    where
      numbered : AreMadeAfter (done ++ y ∷ []) xs ys
          → (k : ℕ) (a : A) (b : B) → slice_get (x ∷ xs) k ≡ Some a → slice_get (y ∷ ys) k ≡ Some b → next (done ++ take k (y ∷ ys)) a ≡ Ok b
      numbered rest zero a b at is =
          let same : x ≡ a = cc in
          let same_value : y ≡ b = cc in
          rw (← same, ← same_value) (subst (λ (l : List B). next l x ≡ Ok y) (sym (append-nil done)) h.0)
      numbered rest (suc k) a b at is =
          subst (λ (l : List B). next l a ≡ Ok b) (append_assoc done (y ∷ []) (take k ys)) (rest.each k a b at is)

  made_of : (xs : List A) (ys : List B) → AreMadeOf next xs ys → Made [] xs ys
  made_of xs ys h = made [] xs ys (record { as_many = h.as_many; each = h.each })

  are_made_of : (xs : List A) (ys : List B) → Made [] xs ys → AreMadeOf next xs ys
  are_made_of xs ys h =
      let all = are_made [] xs ys h in
      record { as_many = all.as_many; each = all.each }

  -- those that are made, and what is behind them
  walks_past : (done : List B) (xs rest : List A) (ys : List B) → Made done xs ys → one_by_one next done (xs ++ rest) ≡ one_by_one next (done ++ ys) rest
  walks_past done [] rest [] h = ap (λ (l : List B). one_by_one next l rest) (sym (append-nil done))
  walks_past done [] rest (y ∷ ys) h = absurd h
  walks_past done (x ∷ xs) rest [] h = absurd h
  walks_past done (x ∷ xs) rest (y ∷ ys) h =
      ap (λ r. r >>= (λ z. one_by_one next (done ++ z ∷ []) (xs ++ rest))) h.0 ∙ walks_past (done ++ y ∷ []) xs rest ys h.1
      ∙ ap (λ (l : List B). one_by_one next l rest) (append_assoc done (y ∷ []) ys)

  pub made_sound : (xs : List A) (ys : List B) → AreMadeOf next xs ys → one_by_one next [] xs ≡ Ok ys
  made_sound xs ys h = ap (one_by_one next []) (sym (append-nil xs)) ∙ walks_past [] xs [] ys (made_of xs ys h)

  pub made_fault : (xs : List A) (f : ProfileFault) → IsFirstRefused next xs f → one_by_one next [] xs ≡ Err f
  made_fault xs f h =
      ap (one_by_one next []) h.xs_are ∙ walks_past [] h.before (h.x ∷ h.behind) h.ys (made_of h.before h.ys h.made_before)
      ∙ ap (λ r. r >>= (λ z. one_by_one next (h.ys ++ z ∷ []) h.behind)) h.refused

  -- all are made, or one is refused
  record Stopped (done : List B) (xs : List A) : Type 0 where
    fault : ProfileFault
    before : List A
    x : A
    behind : List A
    ys : List B
    xs_are : xs ≡ before ++ x ∷ behind
    made_before : Made done before ys
    refused : next (done ++ ys) x ≡ Err fault

  abbrev Either : List B → List A → Type 0
  Either done xs = ((ys : List B) × Made done xs ys) ⊎ Stopped done xs

  stopped_here : (done : List B) (x : A) (behind : List A) (f : ProfileFault) → next done x ≡ Err f → Stopped done (x ∷ behind)
  stopped_here done x behind f h = record {
    fault = f;
    before = [];
    x = x;
    behind = behind;
    ys = [];
    xs_are = refl;
    made_before = tt;
    refused = subst (λ (l : List B). next l x ≡ Err f) (sym (append-nil done)) h;
  }

  stopped_behind : (done : List B) (x : A) (y : B) (xs : List A) → next done x ≡ Ok y → Stopped (done ++ y ∷ []) xs → Stopped done (x ∷ xs)
  stopped_behind done x y xs is h = record {
    fault = h.fault;
    before = x ∷ h.before;
    x = h.x;
    behind = h.behind;
    ys = y ∷ h.ys;
    xs_are = ap (λ (l : List A). x ∷ l) h.xs_are;
    made_before = (is, h.made_before);
    refused = subst (λ (l : List B). next l h.x ≡ Err h.fault) (append_assoc done (y ∷ []) h.ys) h.refused;
  }

  either_from : (done : List B) (xs : List A) → Either done xs
  either_from done [] = inl ([], tt)
  either_from done (x ∷ behind) = go (next done x) refl (λ longer. either_from longer behind)
    where
      go : (r : Result B ProfileFault) → next done x ≡ r → ((longer : List B) → Either longer behind) → Either done (x ∷ behind)
      go (Err f) is on = inr (stopped_here done x behind f is)
      go (Ok y) is on =
          elim (on (done ++ y ∷ [])) [
            | inl h ↦ inl (y ∷ h.0, (is, h.1))
            | inr h ↦ inr (stopped_behind done x y behind is h)
          ]

  pub made_either : (xs : List A) → ((ys : List B) × AreMadeOf next xs ys) ⊎ ((f : ProfileFault) × IsFirstRefused next xs f)
  made_either xs =
      elim (either_from [] xs) [
        | inl h ↦ inl (h.0, are_made_of xs h.0 h.1)
        | inr h ↦ inr (
          h.fault,
          record {
            before = h.before;
            x = h.x;
            behind = h.behind;
            ys = h.ys;
            xs_are = h.xs_are;
            made_before = are_made_of h.before h.ys h.made_before;
            refused = h.refused;
          },
        )
      ]

module _ {A : Type 0} (key : Key) (least most : ℕ) (next : List A → Data → Result A ProfileFault) where
  module _ (d : Data) (items : Items) (array : as_array d ≡ Some items) where
    too_many : most < length (items_in items) → elements_of key least most next d ≡ Err (OutOfLimits file.Ship 0)
    too_many h = let many : nat_le (length (items_in items)) most ≡ false = grind (arith, nat_tests) in rw (array, many) refl

    few_enough : length (items_in items) ≤ most
        → elements_of key least most next d ≡ one_by_one next [] (items_in items) >>= (λ xs. demand (TooFewRows file.Ship) (nat_le least (length xs)) xs)
    few_enough h = let few : nat_le (length (items_in items)) most ≡ true = grind (arith, nat_tests) in rw (array, few) refl

    all_made : (xs : List A) → length (items_in items) ≤ most → AreMadeOf next (items_in items) xs
        → elements_of key least most next d ≡ demand (TooFewRows file.Ship) (nat_le least (length xs)) xs
    all_made xs few h =
        few_enough few ∙ ap (λ r. r >>= (λ zs. demand (TooFewRows file.Ship) (nat_le least (length zs)) zs)) (made_sound next (items_in items) xs h)

  elements_sound : (d : Data) (xs : List A) → AreElements key least most next d xs → elements_of key least most next d ≡ Ok xs
  elements_sound d xs h =
      let enough : nat_le least (length xs) ≡ true = grind (arith, nat_tests, h.some) in
      all_made d h.items h.array xs h.few h.made ∙ (rw enough refl)

  elements_fault : (d : Data) (f : ProfileFault) → IsArrayFault key least most next d f → elements_of key least most next d ≡ Err f
  elements_fault d f (inl h) = rw (h.0, h.1) refl
  elements_fault d f (inr (items, array, inl h)) = too_many d items array h.0 ∙ ap Err (sym h.1)
  elements_fault d f (inr (items, array, inr (inl h))) =
      few_enough d items array h.0 ∙ ap (λ r. r >>= (λ zs. demand (TooFewRows file.Ship) (nat_le least (length zs)) zs)) (made_fault next (items_in items) f h.1)
  elements_fault d f (inr (items, array, inr (inr h))) =
      let short : nat_le least (length h.0) ≡ false = grind (arith, nat_tests, h.3) in
      all_made d items array h.0 h.1 h.2 ∙ (rw (short, h.4) refl)

  abbrev EitherArray : Data → Type 0
  EitherArray d = ((xs : List A) × AreElements key least most next d xs) ⊎ ((f : ProfileFault) × IsArrayFault key least most next d f)

  by_length : (d : Data) (items : Items) → as_array d ≡ Some items → length (items_in items) ≤ most → (xs : List A) → AreMadeOf next (items_in items) xs
      → (length xs < least) ⊎ (least ≤ length xs) → EitherArray d
  by_length d items array few xs h (inl short) = inr (TooFewRows file.Ship, inr (items, array, inr (inr (xs, few, h, short, refl))))
  by_length d items array few xs h (inr some) = inl (xs, record { items = items; array = array; few = few; made = h; some = some })

  by_items : (d : Data) (items : Items) → as_array d ≡ Some items → (most < length (items_in items)) ⊎ (length (items_in items) ≤ most) → EitherArray d
  by_items d items array (inl many) = inr (OutOfLimits file.Ship 0, inr (items, array, inl (many, refl)))
  by_items d items array (inr few) =
      elim (made_either next (items_in items)) [
        | inl h ↦ by_length d items array few h.0 h.1 (cases_lt (length h.0) least)
        | inr h ↦ inr (h.0, inr (items, array, inr (inl (few, h.1))))
      ]

  elements_either : (d : Data) → EitherArray d
  elements_either d = go (as_array d) refl
    where
      go : (o : Option Items) → as_array d ≡ o → EitherArray d
      go None e = inr (BadKey key, inl (e, refl))
      go (Some items) e = by_items d items e (cases_lt most (length (items_in items)))

  at_sound : (ms : Members) (xs : List A) → AreElementsAt key least most next ms xs → elements_at key least most next ms ≡ Ok xs
  at_sound ms xs h = rw h.1 (elements_sound h.0 xs h.2)

  at_fault : (ms : Members) (f : ProfileFault) → IsArrayFaultAt key least most next ms f → elements_at key least most next ms ≡ Err f
  at_fault ms f (inl h) = rw (h.0, h.1) refl
  at_fault ms f (inr h) = rw h.1 (elements_fault h.0 f h.2)

  at_either : (ms : Members) → ((xs : List A) × AreElementsAt key least most next ms xs) ⊎ ((f : ProfileFault) × IsArrayFaultAt key least most next ms f)
  at_either ms = go (get_member (name_of key) ms) refl
    where
      go : (o : Option Data) → get_member (name_of key) ms ≡ o
          → ((xs : List A) × AreElementsAt key least most next ms xs) ⊎ ((f : ProfileFault) × IsArrayFaultAt key least most next ms f)
      go None e = inr (MissingKey key, inl (e, refl))
      go (Some d) e =
          elim (elements_either d) [
            | inl h ↦ inl (h.0, (d, e, h.1))
            | inr h ↦ inr (h.0, inr (d, e, h.1))
          ]

  pub array_answer : (ms : Members) → HasOneAnswer (elements_at key least most next ms) (AreElementsAt key least most next ms) (IsArrayFaultAt key least most next ms)
  array_answer ms =
      one_answer (elements_at key least most next ms) (AreElementsAt key least most next ms) (IsArrayFaultAt key least most next ms)
      (at_sound ms) (at_fault ms) (at_either ms)

module _ {A : Type 0} (key : Key) (most : ℕ) (next : List A → Data → Result A ProfileFault) (ms : Members) where
  abbrev optional : Result (List A) ProfileFault
  optional = optional_of key most next (get_member (name_of key) ms)

  optional_sound : (xs : List A) → AreOptionalAt key most next ms xs → optional ≡ Ok xs
  optional_sound xs (inl h) = rw (h.0, h.1) refl
  optional_sound xs (inr h) = rw h.1 (elements_sound key 0 most next h.0 xs h.2)

  optional_fault : (f : ProfileFault) → IsOptionalFaultAt key most next ms f → optional ≡ Err f
  optional_fault f h = rw h.1 (elements_fault key 0 most next h.0 f h.2)

  optional_either : ((xs : List A) × AreOptionalAt key most next ms xs) ⊎ ((f : ProfileFault) × IsOptionalFaultAt key most next ms f)
  optional_either = go (get_member (name_of key) ms) refl
    where
      go : (o : Option Data) → get_member (name_of key) ms ≡ o
          → ((xs : List A) × AreOptionalAt key most next ms xs) ⊎ ((f : ProfileFault) × IsOptionalFaultAt key most next ms f)
      go None e = inl ([], inl (e, refl))
      go (Some d) e =
          elim (elements_either key 0 most next d) [
            | inl h ↦ inl (h.0, inr (d, e, h.1))
            | inr h ↦ inr (h.0, (d, e, h.1))
          ]

  pub optional_answer : HasOneAnswer optional (AreOptionalAt key most next ms) (IsOptionalFaultAt key most next ms)
  optional_answer = one_answer optional (AreOptionalAt key most next ms) (IsOptionalFaultAt key most next ms) optional_sound optional_fault optional_either

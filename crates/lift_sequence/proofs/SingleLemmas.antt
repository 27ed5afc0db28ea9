-- One step more or less in a sequence.
use Rattle.std.proofs.Common.{◌≡◌, ℕ, zero, suc, ◌+◌, ◌-◌, ◌<◌, ◌≤◌, List, [], ◌∷◌, ◌++◌, length, take, drop, set, get_or, Option, None, Some, Bool, true, false, cond, nat_eq, nat_lt, refl, sym, ap, ◌∙◌, subst, arith, eqb-true}
use Rattle.std.specs.Prelude.{if◌then◌else◌, slice_get, ◌&&◌}
use Rattle.std.specs.Option.{is_none}
use Rattle.std.specs.List.{insert, remove}
use Rattle.std.specs.Map.{update}
use Rattle.std.specs.Str.{bytes_eq}
use Rattle.std.proofs.lemmas.List.{length-drop, length-take-le, take_all}
use Rattle.std.proofs.Math.Seq.{take-append_seam}
use Rattle.std.proofs.lemmas.List.Edits.{length-insert, length-remove}
use Rattle.std.proofs.lemmas.Option.{none-some, slice_get-get_or}
use Rattle.std.proofs.lemmas.Slice.Eq.{bytes_eq-Decides}
use Rattle.units_core.specs.Bodies.{Mass}
use Rattle.units_core.specs.declared.steps.Step.{Step}
use Rattle.stow_messages.specs.declared.lifts.Lift.TheVariants.{Load, Discharge}
use Rattle.ship_profile.specs.Record.{ProfileRecord, tank_of, tank_body}
use Rattle.lift_sequence.specs.declared.faults.SeqCode.{SeqCode}
use Rattle.lift_sequence.specs.declared.faults.SeqCode.TheVariants.{TooManySteps, UnknownTank}
use Rattle.lift_sequence.specs.declared.faults.SeqFault.{SeqFault}
use Rattle.lift_sequence.specs.declared.operations.Op as operation
use Rattle.lift_sequence.specs.declared.operations.Op.TheVariants.{Lift, Fill, Restow}
use Rattle.lift_sequence.specs.Aboard.{Aboard, after_all, after_step, with_cell, with_item, with_restow, with_tank}
use Rattle.lift_sequence.specs.Arrival.{fault_at}
use Rattle.lift_sequence.specs.Bodies.{filling_in, filling_step, step_of, steps_of}
use Rattle.lift_sequence.specs.Independent.{are_independent, fills}
use Rattle.lift_sequence.specs.Legal.{fault_of, fill_fault}
use Rattle.lift_sequence.specs.Sequence.{first_fault, sequence_fault}
use Rattle.lift_sequence.specs.Singles.{can_come, can_go, handed, handed_by, is_apart, is_apart_there, is_free}
use Rattle.lift_sequence.proofs.ExchangeLemmas.{CanBeDone, can_be_done, no_fault}
use Rattle.lift_sequence.proofs.FollowLemmas.{none_of_both}
use Rattle.lift_sequence.proofs.IndependentLemmas.{both_true, independent_means, number_itself, one_name, passes, tank_first, turned}
use Rattle.lift_sequence.proofs.States.{same}

-- one of two by a test
pub chosen : {X : Type 0} (b : Bool) (x y : X) → b ≡ true → x ≡ (if b then x else y)
chosen true x y h = refl
chosen false x y h = absurd (cc)

pub not_chosen : {X : Type 0} (b : Bool) (x y : X) → b ≡ false → y ≡ (if b then x else y)
not_chosen true x y h = absurd (cc)
not_chosen false x y h = refl

-- the first filling of a tank takes something else out
module _ (name : List ℕ) (out : Option Mass) where
  pub handed_next : (ops : List operation.Op) (steps : List Step) (i n : ℕ) (d : operation.Op) → i < length ops → length steps ≡ length ops → n ≡ i + 1
      → fills (get_or ops i d) name ≡ false
      → take i steps ++ handed name out (drop i ops) (drop i steps) ≡ take n steps ++ handed name out (drop n ops) (drop n steps)
  handed_next [] steps i n d within long is h = absurd (omega arith)
  handed_next (op ∷ ops) [] i n d within long is h = absurd (omega (arith, long))
  handed_next (op ∷ ops) (s ∷ steps) zero n d within long is h =
      let one : suc zero ≡ n = omega (arith, is) in
      sym (not_chosen (fills op name) _ _ h) ∙ ap (λ k. take k (s ∷ steps) ++ handed name out (drop k (op ∷ ops)) (drop k (s ∷ steps))) one
  handed_next (op ∷ ops) (s ∷ steps) (suc i) n d within long is h =
      let next : suc (i + 1) ≡ n = omega (arith, is) in
      let rest = handed_next ops steps i (i + 1) d (omega arith) (omega (arith, long)) refl h in
      (λ j. s ∷ rest j) ∙ ap (λ k. take k (s ∷ steps) ++ handed name out (drop k (op ∷ ops)) (drop k (s ∷ steps))) next

  pub handed_here : (ops : List operation.Op) (steps : List Step) (i : ℕ) (d : operation.Op) (e : Step) → i < length ops → length steps ≡ length ops
      → fills (get_or ops i d) name ≡ true
      → take i steps ++ handed name out (drop i ops) (drop i steps) ≡ set steps i (record { out = out; put = (get_or steps i e).put })
  handed_here [] steps i d e within long h = absurd (omega arith)
  handed_here (op ∷ ops) [] i d e within long h = absurd (omega (arith, long))
  handed_here (op ∷ ops) (s ∷ steps) zero d e within long h = sym (chosen (fills op name) _ _ h)
  handed_here (op ∷ ops) (s ∷ steps) (suc i) d e within long h =
      let rest = handed_here ops steps i d e (omega arith) (omega (arith, long)) h in
      λ j. s ∷ rest j

  pub handed_end : (ops : List operation.Op) (steps : List Step) (n : ℕ) → length ops ≤ n → length steps ≡ length ops
      → take n steps ++ handed name out (drop n ops) (drop n steps) ≡ steps
  handed_end [] [] zero past long = refl
  handed_end [] [] (suc n) past long = refl
  handed_end [] (s ∷ steps) n past long = absurd (omega (arith, long))
  handed_end (op ∷ ops) [] n past long = absurd (omega (arith, long))
  handed_end (op ∷ ops) (s ∷ steps) zero past long = absurd (omega arith)
  handed_end (op ∷ ops) (s ∷ steps) (suc n) past long =
      let rest = handed_end ops steps n (omega arith) (omega (arith, long)) in
      λ j. s ∷ rest j

-- what is before and behind an element that comes in or goes away
module _ {X : Type 0} where
  pub before_put : (xs : List X) (i n : ℕ) (y : X) → i ≤ length xs → n ≡ i + 1 → (zs : List X) → take n (insert xs i y) ++ zs ≡ take i xs ++ (y ∷ zs)
  before_put xs zero n y within is zs = let one : n ≡ suc zero = is ∙ omega arith in ap (λ k. take k (y ∷ xs) ++ zs) one
  before_put [] (suc i) n y within is zs = absurd (omega arith)
  before_put (x ∷ xs) (suc i) n y within is zs =
      let next : n ≡ suc (i + 1) = omega (arith, is) in
      let rest = before_put xs i (i + 1) y (omega arith) refl zs in
      ap (λ k. take k (x ∷ insert xs i y) ++ zs) next ∙ (λ j. x ∷ rest j)

  pub behind_put : (xs : List X) (i n : ℕ) (y : X) → i ≤ length xs → n ≡ i + 1 → drop n (insert xs i y) ≡ drop i xs
  behind_put xs zero n y within is = let one : n ≡ suc zero = is ∙ omega arith in ap (λ k. drop k (y ∷ xs)) one
  behind_put [] (suc i) n y within is = absurd (omega arith)
  behind_put (x ∷ xs) (suc i) n y within is =
      let next : n ≡ suc (i + 1) = omega (arith, is) in
      ap (λ k. drop k (x ∷ insert xs i y)) next ∙ behind_put xs i (i + 1) y (omega arith) refl

  pub before_out : (xs : List X) (i : ℕ) → take i (remove xs i) ≡ take i xs
  before_out xs zero = refl
  before_out [] (suc i) = refl
  before_out (x ∷ xs) (suc i) = let rest = before_out xs i in λ j. x ∷ rest j

  pub behind_out : (xs : List X) (i : ℕ) → drop i (remove xs i) ≡ drop (suc i) xs
  behind_out [] zero = refl
  behind_out (x ∷ xs) zero = refl
  behind_out [] (suc i) = refl
  behind_out (x ∷ xs) (suc i) = behind_out xs i

-- what stands before a place
pub front_stays : {X : Type 0} (xs ys : List X) (i : ℕ) → i ≤ length xs → take i (take i xs ++ ys) ≡ take i xs
front_stays xs ys i h = ap (λ n. take n (take i xs ++ ys)) (sym (length-take-le i xs h)) ∙ take-append_seam (take i xs) ys

pub front_left : {X : Type 0} (xs ys : List X) (i : ℕ) → i < length xs → take i (take i (remove xs i) ++ ys) ≡ take i xs
front_left xs ys i h = ap (λ l. take i (l ++ ys)) (before_out xs i) ∙ front_stays xs ys i (omega (arith, h))

-- a step that can go away, and all that is behind a place
pub apart_there : (ops : List operation.Op) (i : ℕ) (x : operation.Op) → i < length ops → x ≡ get_or ops i x → can_go ops i ≡ true → is_apart x (drop (suc i) ops) ≡ true
apart_there ops i x within is goes =
    let there : slice_get ops i ≡ Some x = slice_get-get_or ops i x within ∙ ap (λ y. Some y) (sym is) in
    let next : suc i ≡ i + 1 = omega arith in
    (λ j. is_apart_there (sym there j) (drop (next j) ops)) ∙ goes

pub rest_is : {X : Type 0} (xs : List X) (i : ℕ) → take (length xs - i) (drop i xs) ≡ drop i xs
rest_is xs i = take_all (length xs - i) (drop i xs) (omega (arith, length-drop i xs))

module _ (ship : ProfileRecord) where
  -- a step before others that it is independent of can go away
  without_free : (at : Aboard) (x : operation.Op) (ms : List operation.Op) → is_free x ms ≡ true → CanBeDone ship at (x ∷ ms)
      → CanBeDone ship at ms × (steps_of ship at ms ≡ steps_of ship (after_step ship at x) ms)
  without_free at x [] free done = (tt, refl)
  without_free at x (m ∷ ms) free done =
      let both = both_true (are_independent x m) (is_free x ms) free in
      let apart = independent_means x m both.0 in
      let forth = passes ship x m at apart in
      let back = passes ship m x at (turned x m apart) in
      let rest = without_free (after_step ship at m) x ms both.1 (back.fault ∙ done.0, subst (λ (s : Aboard). CanBeDone ship s ms) forth.state done.1.1) in (
        (sym forth.fault ∙ done.1.0, rest.0),
        λ i. sym forth.step i ∷ (rest.1 ∙ (λ j. steps_of ship (sym forth.state j) ms)) i,
      )

  -- and can come in
  with_free : (at : Aboard) (x : operation.Op) (ms : List operation.Op) → is_free x ms ≡ true → fault_of ship at x ≡ None → CanBeDone ship at ms
      → CanBeDone ship (after_step ship at x) ms × (steps_of ship (after_step ship at x) ms ≡ steps_of ship at ms)
  with_free at x [] free legal done = (tt, refl)
  with_free at x (m ∷ ms) free legal done =
      let both = both_true (are_independent x m) (is_free x ms) free in
      let apart = independent_means x m both.0 in
      let forth = passes ship x m at apart in
      let back = passes ship m x at (turned x m apart) in
      let rest = with_free (after_step ship at m) x ms both.1 (back.fault ∙ legal) done.1 in (
        (forth.fault ∙ done.0, subst (λ (s : Aboard). CanBeDone ship s ms) (sym forth.state) rest.0),
        λ i. forth.step i ∷ ((λ j. steps_of ship (forth.state j) ms) ∙ rest.1) i,
      )

  -- a tank with what it holds
  abbrev pub filled : ℕ → Aboard → Option ℕ → Aboard
  filled tank at v = record { cells = at.cells; tanks = update nat_eq at.tanks tank v }

  filled_again : (tank : ℕ) (at : Aboard) (v w : Option ℕ) → filled tank (filled tank at v) w ≡ filled tank at w
  filled_again tank at v w = same (filled tank (filled tank at v) w) (filled tank at w) (λ cell. refl) (λ q. by_test q (nat_eq tank q)) where
    by_test : (q : ℕ) (b : Bool) → cond b w (cond b v (at.tanks q)) ≡ cond b w (at.tanks q)
    by_test q true = refl
    by_test q false = refl

  filled_as_is : (tank : ℕ) (at : Aboard) → filled tank at (at.tanks tank) ≡ at
  filled_as_is tank at = same (filled tank at (at.tanks tank)) at (λ cell. refl) (λ q. by_test q (nat_eq tank q) refl) where
    by_test : (q : ℕ) (b : Bool) → nat_eq tank q ≡ b → cond b (at.tanks tank) (at.tanks q) ≡ at.tanks q
    by_test q true e = ap at.tanks (eqb-true tank q e)
    by_test q false e = refl

  pub held_there : (tank : ℕ) (at : Aboard) (v : Option ℕ) → (filled tank at v).tanks tank ≡ v
  held_there tank at v = ap (λ b. cond b v (at.tanks tank)) (number_itself tank)

  -- what steps do behind another filling of a tank
  abbrev pub AreHanded : List ℕ → ℕ → Aboard → Option ℕ → Option ℕ → List operation.Op → Type 0
  AreHanded name tank at v w ms =
      (CanBeDone ship (filled tank at v) ms → CanBeDone ship (filled tank at w) ms)
      × (steps_of ship (filled tank at w) ms ≡ handed name (filling_in ship tank w) ms (steps_of ship (filled tank at v) ms))

  module _ (name : List ℕ) (tank : ℕ) (is : tank_of ship name ≡ Some tank) where
    -- a filling of the same tank, and of another one
    refilled : (at : Aboard) (v w : Option ℕ) (o : Option ℕ) (kg : ℕ) (ms : List operation.Op) → o ≡ Some tank
        → (fill_fault ship o kg ≡ None → CanBeDone ship (with_tank (filled tank at v) o kg) ms
        → (fill_fault ship o kg ≡ None) × CanBeDone ship (with_tank (filled tank at w) o kg) ms)
        × (filling_step ship (filled tank at w) o kg ∷ steps_of ship (with_tank (filled tank at w) o kg) ms
        ≡ record { out = filling_in ship tank w; put = (filling_step ship (filled tank at v) o kg).put } ∷ steps_of ship (with_tank (filled tank at v) o kg) ms)
    refilled at v w None kg ms e = absurd (cc)
    refilled at v w (Some t) kg ms e =
        let t_is : t ≡ tank = some_one e in
        let after : with_tank (filled tank at v) (Some t) kg ≡ with_tank (filled tank at w) (Some t) kg =
        (λ j. with_tank (filled tank at v) (Some (t_is j)) kg) ∙ filled_again tank at v (Some kg) ∙ sym (filled_again tank at w (Some kg)) ∙ (λ j. with_tank (filled tank at w) (Some (sym t_is j)) kg) in (
          λ legal done. (legal, subst (λ (s : Aboard). CanBeDone ship s ms) after done),
          λ j. record { out = (ap (λ q. filling_in ship q ((filled tank at w).tanks q)) t_is ∙ ap (filling_in ship tank) (held_there tank at w)) j; put = tank_body ship t kg } ∷ steps_of ship (sym after j) ms,
        ) where
          or_zero : Option ℕ → ℕ
          or_zero None = 0
          or_zero (Some n) = n

          some_one : {a b : ℕ} → Some a ≡ Some b → a ≡ b
          some_one h = ap or_zero h

    -- of another tank
    pub other_tank : (t : ℕ) (other : List ℕ) → tank_of ship other ≡ Some t → bytes_eq other name ≡ false → nat_eq tank t ≡ false
    other_tank t other k apart = by_test (nat_eq tank t) refl where
      clash : false ≡ true → ⊥
      clash z = cc

      by_test : (b : Bool) → nat_eq tank t ≡ b → nat_eq tank t ≡ false
      by_test true e =
          let named : other ≡ name = one_name (λ t. t.name) other name ship.tables.tanks tank (k ∙ ap (λ n. Some n) (sym (eqb-true tank t e))) is in
          absurd (clash (sym apart ∙ (bytes_eq-Decides other name).1 named))
      by_test false e = e

    beside_tank : (at : Aboard) (v o : Option ℕ) (kg : ℕ) → ((t : ℕ) → o ≡ Some t → nat_eq tank t ≡ false)
        → (filling_step ship (filled tank at v) o kg ≡ filling_step ship at o kg) × (with_tank (filled tank at v) o kg ≡ filled tank (with_tank at o kg) v)
    beside_tank at v None kg apart = (refl, refl)
    beside_tank at v (Some t) kg apart =
        let two = apart t refl in (
          λ i. record { out = filling_in ship t (cond (two i) v (at.tanks t)); put = tank_body ship t kg },
          λ i. record { cells = at.cells; tanks = tank_first at.tanks tank t v (Some kg) two i },
        )

    pub handed_on : (at : Aboard) (v w : Option ℕ) (ms : List operation.Op) → AreHanded name tank at v w ms
    handed_on at v w [] = (λ done. done, refl)
    handed_on at v w (Lift (Load item) ∷ ms) =
        let rest = handed_on (with_item at item) v w ms in
        (λ done. (done.0, rest.0 done.1), λ j. step_of ship at (Lift (Load item)) ∷ rest.1 j)
    handed_on at v w (Lift (Discharge cell id) ∷ ms) =
        let rest = handed_on (with_cell at cell None) v w ms in
        (λ done. (done.0, rest.0 done.1), λ j. step_of ship at (Lift (Discharge cell id)) ∷ rest.1 j)
    handed_on at v w (Restow from to id ∷ ms) =
        let rest = handed_on (with_restow at from to) v w ms in
        (λ done. (done.0, rest.0 done.1), λ j. step_of ship at (Restow from to id) ∷ rest.1 j)
    handed_on at v w (Fill other kg ∷ ms) = by_name (bytes_eq other.items name) refl (handed_on (with_tank at (tank_of ship other.items) kg) v w ms) where
      by_name : (b : Bool) → bytes_eq other.items name ≡ b → AreHanded name tank (with_tank at (tank_of ship other.items) kg) v w ms → AreHanded name tank at v w (Fill other kg ∷ ms)
      by_name true e rest =
          let filled_too : tank_of ship other.items ≡ Some tank = ap (tank_of ship) ((bytes_eq-Decides other.items name).0 e) ∙ is in
          let both = refilled at v w (tank_of ship other.items) kg ms filled_too in
          (λ done. both.0 done.0 done.1, both.1 ∙ chosen (bytes_eq other.items name) _ _ e)
      by_name false e rest =
          let o : Option ℕ = tank_of ship other.items in
          let apart : (t : ℕ) → o ≡ Some t → nat_eq tank t ≡ false = λ t k. other_tank t other.items k e in
          let one = beside_tank at v o kg apart in
          let two = beside_tank at w o kg apart in (
            λ done. (done.0, subst (λ (s : Aboard). CanBeDone ship s ms) (sym two.1) (rest.0 (subst (λ (s : Aboard). CanBeDone ship s ms) one.1 done.1))),
            (λ j. two.0 j ∷ ((λ k. steps_of ship (two.1 k) ms) ∙ rest.1) j)
                ∙ (λ j. sym one.0 j ∷ handed name (filling_in ship tank w) ms (steps_of ship (sym one.1 j) ms))
                ∙ not_chosen (bytes_eq other.items name) _ _ e,
          )

  -- a step that goes away
  one_out : (at : Aboard) (x : operation.Op) (ms : List operation.Op) → is_apart x ms ≡ true → CanBeDone ship at (x ∷ ms)
      → CanBeDone ship at ms × (steps_of ship at ms ≡ handed_by x (step_of ship at x).out ms (steps_of ship (after_step ship at x) ms))
  one_out at (Lift lift) ms apart done = without_free at (Lift lift) ms apart done
  one_out at (Restow from to id) ms apart done = without_free at (Restow from to id) ms apart done
  one_out at (Fill name kg) ms apart done = by_tank (tank_of ship name.items) refl where
    by_tank : (o : Option ℕ) → tank_of ship name.items ≡ o
        → CanBeDone ship at ms × (steps_of ship at ms ≡ handed name.items (filling_step ship at (tank_of ship name.items) kg).out ms (steps_of ship (with_tank at (tank_of ship name.items) kg) ms))
    by_tank None k = absurd (none-some UnknownTank (sym (ap (λ o. fill_fault ship o kg) (sym k) ∙ done.0)))
    by_tank (Some tank) k =
        let start : filled tank at (at.tanks tank) ≡ at = filled_as_is tank at in
        let after : with_tank at (tank_of ship name.items) kg ≡ filled tank at (Some kg) = ap (λ o. with_tank at o kg) k in
        let out : (filling_step ship at (tank_of ship name.items) kg).out ≡ filling_in ship tank (at.tanks tank) = ap (λ o. (filling_step ship at o kg).out) k in
        let rest = handed_on name.items tank k at (Some kg) (at.tanks tank) ms in (
          subst (λ (s : Aboard). CanBeDone ship s ms) start (rest.0 (subst (λ (s : Aboard). CanBeDone ship s ms) after done.1)),
          (λ j. steps_of ship (sym start j) ms) ∙ rest.1 ∙ (λ j. handed name.items (sym out j) ms (steps_of ship (sym after j) ms)),
        )

  -- and one that comes in
  one_put : (at : Aboard) (x : operation.Op) (ms : List operation.Op) → is_apart x ms ≡ true → fault_of ship at x ≡ None → CanBeDone ship at ms
      → CanBeDone ship (after_step ship at x) ms × (steps_of ship (after_step ship at x) ms ≡ handed_by x (step_of ship at x).put ms (steps_of ship at ms))
  one_put at (Lift lift) ms apart legal done = with_free at (Lift lift) ms apart legal done
  one_put at (Restow from to id) ms apart legal done = with_free at (Restow from to id) ms apart legal done
  one_put at (Fill name kg) ms apart legal done = by_tank (tank_of ship name.items) refl where
    by_tank : (o : Option ℕ) → tank_of ship name.items ≡ o
        → CanBeDone ship (with_tank at (tank_of ship name.items) kg) ms
        × (steps_of ship (with_tank at (tank_of ship name.items) kg) ms ≡ handed name.items (filling_step ship at (tank_of ship name.items) kg).put ms (steps_of ship at ms))
    by_tank None k = absurd (none-some UnknownTank (sym (ap (λ o. fill_fault ship o kg) (sym k) ∙ legal)))
    by_tank (Some tank) k =
        let start : filled tank at (at.tanks tank) ≡ at = filled_as_is tank at in
        let after : with_tank at (tank_of ship name.items) kg ≡ filled tank at (Some kg) = ap (λ o. with_tank at o kg) k in
        let put : (filling_step ship at (tank_of ship name.items) kg).put ≡ filling_in ship tank (Some kg) = ap (λ o. (filling_step ship at o kg).put) k in
        let rest = handed_on name.items tank k at (at.tanks tank) (Some kg) ms in (
          subst (λ (s : Aboard). CanBeDone ship s ms) (sym after) (rest.0 (subst (λ (s : Aboard). CanBeDone ship s ms) (sym start) done)),
          (λ j. steps_of ship (after j) ms) ∙ rest.1 ∙ (λ j. handed name.items (sym put j) ms (steps_of ship (start j) ms)),
        )

  -- at any place; d and e are read of no list that has it
  out_at : (at : Aboard) (ops : List operation.Op) (i : ℕ) (d : operation.Op) (e : Step) → i < length ops → is_apart (get_or ops i d) (drop (suc i) ops) ≡ true → CanBeDone ship at ops
      → CanBeDone ship at (remove ops i)
      × (steps_of ship at (remove ops i)
      ≡ take i (steps_of ship at ops) ++ handed_by (get_or ops i d) (get_or (steps_of ship at ops) i e).out (drop (suc i) ops) (drop (suc i) (steps_of ship at ops)))
  out_at at [] i d e within apart done = absurd (omega arith)
  out_at at (op ∷ ops) zero d e within apart done = one_out at op ops apart done
  out_at at (op ∷ ops) (suc i) d e within apart done =
      let rest = out_at (after_step ship at op) ops i d e (omega arith) apart done.1 in
      ((done.0, rest.0), λ j. step_of ship at op ∷ rest.1 j)

  put_at : (at : Aboard) (ops : List operation.Op) (i : ℕ) (x : operation.Op) → i ≤ length ops → is_apart x (drop i ops) ≡ true
      → fault_of ship (after_all ship at (take i ops)) x ≡ None → CanBeDone ship at ops
      → CanBeDone ship at (insert ops i x)
      × (steps_of ship at (insert ops i x)
      ≡ take i (steps_of ship at ops)
      ++ (step_of ship (after_all ship at (take i ops)) x
      ∷ handed_by x (step_of ship (after_all ship at (take i ops)) x).put (drop i ops) (drop i (steps_of ship at ops))))
  put_at at ops zero x within apart legal done =
      let rest = one_put at x ops apart legal done in
      ((legal, rest.0), λ j. step_of ship at x ∷ rest.1 j)
  put_at at [] (suc i) x within apart legal done = absurd (omega arith)
  put_at at (op ∷ ops) (suc i) x within apart legal done =
      let rest = put_at (after_step ship at op) ops i x (omega arith) apart legal done.1 in
      ((done.0, rest.0), λ j. step_of ship at op ∷ rest.1 j)

  -- the same of whole sequences
  too_many : SeqFault
  too_many = fault_at 120001 TooManySteps

  taken_out : (at : Aboard) (ops : List operation.Op) (i : ℕ) (d : operation.Op) (e : Step) → i < length ops → is_apart (get_or ops i d) (drop (suc i) ops) ≡ true
      → sequence_fault ship at ops ≡ None
      → (sequence_fault ship at (remove ops i) ≡ None)
      × (steps_of ship at (remove ops i)
      ≡ take i (steps_of ship at ops) ++ handed_by (get_or ops i d) (get_or (steps_of ship at ops) i e).out (drop (suc i) ops) (drop (suc i) (steps_of ship at ops)))
  unfolding too_many
  taken_out at ops i d e within apart legal =
      let few = none_of_both (nat_lt 120000 (length ops)) too_many (first_fault ship at 1 ops) legal in
      let both = out_at at ops i d e within apart (can_be_done ship at 1 ops few.1) in
      let shorter : length (remove ops i) + 1 ≡ length ops = length-remove ops i within in
      let as_short : nat_lt 120000 (length (remove ops i)) ≡ false = grind (arith, few.0, shorter) in
      let legal_now : first_fault ship at 1 (remove ops i) ≡ None = no_fault ship at 1 (remove ops i) both.0 in
      (λ k. if as_short k then Some too_many else legal_now k, both.1)

  put_in_at : (at : Aboard) (ops : List operation.Op) (i : ℕ) (x : operation.Op) → i ≤ length ops → length ops < 120000 → is_apart x (drop i ops) ≡ true
      → fault_of ship (after_all ship at (take i ops)) x ≡ None → sequence_fault ship at ops ≡ None
      → (sequence_fault ship at (insert ops i x) ≡ None)
      × (steps_of ship at (insert ops i x)
      ≡ take i (steps_of ship at ops)
      ++ (step_of ship (after_all ship at (take i ops)) x
      ∷ handed_by x (step_of ship (after_all ship at (take i ops)) x).put (drop i ops) (drop i (steps_of ship at ops))))
  unfolding too_many
  put_in_at at ops i x within room apart fits legal =
      let few = none_of_both (nat_lt 120000 (length ops)) too_many (first_fault ship at 1 ops) legal in
      let both = put_at at ops i x within apart fits (can_be_done ship at 1 ops few.1) in
      let longer : length (insert ops i x) ≡ length ops + 1 = length-insert ops i x within in
      let as_short : nat_lt 120000 (length (insert ops i x)) ≡ false = grind (arith, room, longer) in
      let legal_now : first_fault ship at 1 (insert ops i x) ≡ None = no_fault ship at 1 (insert ops i x) both.0 in
      (λ k. if as_short k then Some too_many else legal_now k, both.1)

  -- the same as the code has it: a step that goes away, and one that comes in
  pub out_legal : (at : Aboard) (ops : List operation.Op) (i : ℕ) (x : operation.Op) → i < length ops → x ≡ get_or ops i x → is_apart x (drop (suc i) ops) ≡ true
      → sequence_fault ship at ops ≡ None → sequence_fault ship at (remove ops i) ≡ None
  out_legal at ops i x within is apart legal =
      let none : Step = step_of ship at x in
      (taken_out at ops i x none within (ap (λ y. is_apart y (drop (suc i) ops)) (sym is) ∙ apart) legal).0

  pub out_steps : (at : Aboard) (ops : List operation.Op) (steps : List Step) (i : ℕ) (x : operation.Op) (s : Step) → i < length ops → x ≡ get_or ops i x → s ≡ get_or steps i s
      → is_apart x (drop (suc i) ops) ≡ true → sequence_fault ship at ops ≡ None → steps ≡ steps_of ship at ops
      → take i (remove steps i) ++ handed_by x s.out (drop i (remove ops i)) (drop i (remove steps i)) ≡ steps_of ship at (remove ops i)
  out_steps at ops steps i x s within is there apart legal done =
      let all = taken_out at ops i x s within (ap (λ y. is_apart y (drop (suc i) ops)) (sym is) ∙ apart) legal in
      let same_step : s ≡ get_or (steps_of ship at ops) i s = there ∙ ap (λ l. get_or l i s) done in
      (λ j. before_out steps i j ++ handed_by x s.out (behind_out ops i j) (behind_out steps i j))
      ∙ (λ j. take i (done j) ++ handed_by (is j) (same_step j).out (drop (suc i) ops) (drop (suc i) (done j))) ∙ sym all.1

  pub put_legal : (at : Aboard) (ops : List operation.Op) (i : ℕ) (x : operation.Op) → i ≤ length ops → length ops < 120000 → is_apart x (drop i ops) ≡ true
      → fault_of ship (after_all ship at (take i ops)) x ≡ None → sequence_fault ship at ops ≡ None → sequence_fault ship at (insert ops i x) ≡ None
  put_legal at ops i x within room apart fits legal = (put_in_at at ops i x within room apart fits legal).0

  pub put_steps : (at : Aboard) (ops : List operation.Op) (steps : List Step) (i : ℕ) (x : operation.Op) (s : Step) → i ≤ length ops → length ops < 120000
      → is_apart x (drop i ops) ≡ true → fault_of ship (after_all ship at (take i ops)) x ≡ None → s ≡ step_of ship (after_all ship at (take i ops)) x
      → sequence_fault ship at ops ≡ None → steps ≡ steps_of ship at ops
      → take i steps ++ (s ∷ handed_by x s.put (drop i ops) (drop i steps)) ≡ steps_of ship at (insert ops i x)
  put_steps at ops steps i x s within room apart fits does legal done =
      (λ j. take i (done j) ++ (does j ∷ handed_by x (does j).put (drop i ops) (drop i (done j)))) ∙ sym (put_in_at at ops i x within room apart fits legal).1

-- whether a step can come in
not_both : (a b : Bool) → b ≡ false → (a && b) ≡ false
not_both false b h = refl
not_both true b h = h

module _ (ship : ProfileRecord) (at : Aboard) (ops : List operation.Op) (i : ℕ) (op : operation.Op) where
  pub comes : length ops < 120000 → is_apart op (drop i ops) ≡ true → fault_of ship (after_all ship at (take i ops)) op ≡ None → can_come ship at ops i op ≡ true
  comes few apart fits =
      let room : nat_lt (length ops) 120000 ≡ true = grind (arith, few) in
      λ j. room j && (apart j && is_none (fits j))

  pub too_many_already : 120000 ≤ length ops → can_come ship at ops i op ≡ false
  too_many_already full =
      let room : nat_lt (length ops) 120000 ≡ false = grind (arith, full) in
      λ j. room j && (is_apart op (drop i ops) && is_none (fault_of ship (after_all ship at (take i ops)) op))

  pub not_apart : is_apart op (drop i ops) ≡ false → can_come ship at ops i op ≡ false
  not_apart bound =
      not_both (nat_lt (length ops) 120000) _ (λ j. bound j && is_none (fault_of ship (after_all ship at (take i ops)) op))

  pub not_legal : (code : SeqCode) → fault_of ship (after_all ship at (take i ops)) op ≡ Some code → can_come ship at ops i op ≡ false
  not_legal code faulty =
      not_both (nat_lt (length ops) 120000) _ (not_both (is_apart op (drop i ops)) _ (λ j. is_none (faulty j)))

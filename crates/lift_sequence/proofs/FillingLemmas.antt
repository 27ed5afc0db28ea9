-- Two fillings of one tank that are exchanged.
use Rattle.std.proofs.Common.{◌≡◌, ℕ, zero, suc, ◌+◌, ◌<◌, List, [], ◌∷◌, ◌++◌, length, take, drop, set, get_or, Option, None, Some, true, false, nat_lt, refl, sym, ap, ◌∙◌, subst, arith}
use Rattle.std.specs.Prelude.{if◌then◌else◌, slice_get}
use Rattle.std.specs.List.{swap}
use Rattle.std.proofs.lemmas.List.{length-set}
use Rattle.std.proofs.lemmas.List.Edits.{swap_is}
use Rattle.std.proofs.lemmas.Option.{none-some}
use Rattle.std.proofs.lemmas.Slice.Eq.{bytes_eq-Decides}
use Rattle.units_core.specs.Bodies.{Mass}
use Rattle.units_core.specs.declared.steps.Step.{Step}
use Rattle.ship_profile.specs.Record.{ProfileRecord, tank_of}
use Rattle.lift_sequence.specs.declared.faults.SeqCode.TheVariants.{TooManySteps, UnknownTank}
use Rattle.lift_sequence.specs.declared.faults.SeqFault.{SeqFault}
use Rattle.lift_sequence.specs.declared.operations.Op as operation
use Rattle.lift_sequence.specs.declared.operations.Op.TheVariants.{Lift, Fill, Restow}
use Rattle.lift_sequence.specs.Aboard.{Aboard, after_step, nothing, with_tank}
use Rattle.lift_sequence.specs.Arrival.{fault_at}
use Rattle.lift_sequence.specs.Bodies.{filling_step, step_of, steps_of}
use Rattle.lift_sequence.specs.Independent.{fills}
use Rattle.lift_sequence.specs.Legal.{fault_of, fill_fault}
use Rattle.lift_sequence.specs.Sequence.{first_fault, sequence_fault}
use Rattle.lift_sequence.specs.Singles.{handed, refilled}
use Rattle.lift_sequence.proofs.ExchangeLemmas.{CanBeDone, can_be_done, no_fault}
use Rattle.lift_sequence.proofs.FollowLemmas.{none_of_both}
use Rattle.lift_sequence.proofs.SingleLemmas.{filled, handed_on}

-- what a filling changes is set, and handed on from the next place
module _ (name : List ℕ) (put : Option Mass) where
  pub refilled_is : (ops : List operation.Op) (steps : List Step) (i n : ℕ) (e : Step) → i < length ops → length steps ≡ length ops → n ≡ i + 1
      → take n (set steps i (record { out = (get_or steps i e).out; put = put }))
      ++ handed name put (drop n ops) (drop n (set steps i (record { out = (get_or steps i e).out; put = put })))
      ≡ refilled name put i ops steps
  refilled_is [] steps i n e within long is = absurd (omega arith)
  refilled_is (op ∷ ops) [] i n e within long is = absurd (omega (arith, long))
  refilled_is (op ∷ ops) (s ∷ steps) zero n e within long is =
      let one : n ≡ suc zero = is ∙ omega arith in
      let now : Step = record { out = s.out; put = put } in
      ap (λ k. take k (now ∷ steps) ++ handed name put (drop k (op ∷ ops)) (drop k (now ∷ steps))) one
  refilled_is (op ∷ ops) (s ∷ steps) (suc i) n e within long is =
      let next : n ≡ suc (i + 1) = omega (arith, is) in
      let rest = refilled_is ops steps i (i + 1) e (omega arith) (omega (arith, long)) refl in
      let now : List Step = s ∷ set steps i (record { out = (get_or steps i e).out; put = put }) in
      ap (λ k. take k now ++ handed name put (drop k (op ∷ ops)) (drop k now)) next ∙ (λ j. s ∷ rest j)

  -- it is the same where one filling of the tank is another
  handed_same : (ops : List operation.Op) (steps : List Step) (i : ℕ) (d y : operation.Op) → fills (get_or ops i d) name ≡ true → fills y name ≡ true
      → handed name put (set ops i y) steps ≡ handed name put ops steps
  handed_same [] steps i d y was is = refl
  handed_same (op ∷ ops) [] zero d y was is = refl
  handed_same (op ∷ ops) [] (suc i) d y was is = refl
  handed_same (op ∷ ops) (s ∷ steps) zero d y was is =
      λ j. if (is ∙ sym was) j then record { out = put; put = s.put } ∷ steps else s ∷ handed name put ops steps
  handed_same (op ∷ ops) (s ∷ steps) (suc i) d y was is =
      let rest = handed_same ops steps i d y was is in
      λ j. if fills op name then record { out = put; put = s.put } ∷ steps else s ∷ rest j

  pub refilled_same : (ops : List operation.Op) (steps : List Step) (i j : ℕ) (d y : operation.Op) → fills (get_or ops i d) name ≡ true → fills y name ≡ true
      → refilled name put j (set ops i y) steps ≡ refilled name put j ops steps
  refilled_same [] steps i j d y was is = refl
  refilled_same (op ∷ ops) [] zero j d y was is = refl
  refilled_same (op ∷ ops) [] (suc i) j d y was is = refl
  refilled_same (op ∷ ops) (s ∷ steps) zero zero d y was is = refl
  refilled_same (op ∷ ops) (s ∷ steps) (suc i) zero d y was is =
      let rest = handed_same ops steps i d y was is in
      λ k. record { out = s.out; put = put } ∷ rest k
  refilled_same (op ∷ ops) (s ∷ steps) zero (suc j) d y was is = refl
  refilled_same (op ∷ ops) (s ∷ steps) (suc i) (suc j) d y was is =
      let rest = refilled_same ops steps i j d y was is in
      λ k. s ∷ rest k

module _ {X : Type 0} where
  -- an element that isn't set
  pub still_elsewhere : (xs : List X) (i k : ℕ) (x : X) → (k ≡ i → ⊥) → slice_get (set xs i x) k ≡ slice_get xs k
  still_elsewhere [] i k x not = refl
  still_elsewhere (y ∷ ys) zero zero x not = absurd (not refl)
  still_elsewhere (y ∷ ys) zero (suc k) x not = refl
  still_elsewhere (y ∷ ys) (suc i) zero x not = refl
  still_elsewhere (y ∷ ys) (suc i) (suc k) x not = still_elsewhere ys i k x (λ e. not (ap suc e))

  -- the filling at a place, where another one of its tank is exchanged for it
  pub get_set : (xs : List X) (i j : ℕ) (d : X) → get_or (set xs i (get_or xs j d)) j d ≡ get_or xs j d
  get_set [] i j d = refl
  get_set (x ∷ xs) zero zero d = refl
  get_set (x ∷ xs) zero (suc j) d = refl
  get_set (x ∷ xs) (suc i) zero d = refl
  get_set (x ∷ xs) (suc i) (suc j) d = get_set xs i j d

module _ (ship : ProfileRecord) (name : List ℕ) where
  -- a filling puts in the same whatever is aboard, and can be done or not whatever is aboard
  pub same_put : (at other : Aboard) (op : operation.Op) → fills op name ≡ true → (step_of ship at op).put ≡ (step_of ship other op).put
  same_put at other (Lift lift) is = absurd (cc)
  same_put at other (Restow from to id) is = absurd (cc)
  same_put at other (Fill n kg) is = by_tank (tank_of ship n.items) where
    by_tank : (o : Option ℕ) → (filling_step ship at o kg).put ≡ (filling_step ship other o kg).put
    by_tank None = refl
    by_tank (Some tank) = refl

  same_fault : (at other : Aboard) (op : operation.Op) → fills op name ≡ true → fault_of ship at op ≡ None → fault_of ship other op ≡ None
  same_fault at other (Lift lift) is legal = absurd (cc)
  same_fault at other (Restow from to id) is legal = absurd (cc)
  same_fault at other (Fill n kg) is legal = legal

  pub put_there : (at : Aboard) (ops : List operation.Op) (i : ℕ) (d : operation.Op) (e : Step) → i < length ops → fills (get_or ops i d) name ≡ true
      → (get_or (steps_of ship at ops) i e).put ≡ (step_of ship nothing (get_or ops i d)).put
  put_there at [] i d e within is = absurd (omega arith)
  put_there at (op ∷ ops) zero d e within is = same_put at nothing op is
  put_there at (op ∷ ops) (suc i) d e within is = put_there (after_step ship at op) ops i d e (omega arith) is

  pub legal_there : (at other : Aboard) (ops : List operation.Op) (i : ℕ) (d : operation.Op) → i < length ops → fills (get_or ops i d) name ≡ true
      → CanBeDone ship at ops → fault_of ship other (get_or ops i d) ≡ None
  legal_there at other [] i d within is done = absurd (omega arith)
  legal_there at other (op ∷ ops) zero d within is done = same_fault at other op is done.0
  legal_there at other (op ∷ ops) (suc i) d within is done = legal_there (after_step ship at op) other ops i d (omega arith) is done.1

  -- what is so where one filling follows the other's place before some steps
  abbrev IsRefilled : Aboard → List ℕ → ℕ → List ℕ → ℕ → List operation.Op → Type 0
  IsRefilled at n kg m by ms =
      fill_fault ship (tank_of ship n) kg ≡ None → fill_fault ship (tank_of ship m) by ≡ None
      → CanBeDone ship (with_tank at (tank_of ship n) kg) ms
      → CanBeDone ship (with_tank at (tank_of ship m) by) ms
      × (filling_step ship at (tank_of ship m) by ∷ steps_of ship (with_tank at (tank_of ship m) by) ms
      ≡ record { out = (filling_step ship at (tank_of ship n) kg).out; put = (filling_step ship at (tank_of ship m) by).put }
      ∷ handed name (filling_step ship at (tank_of ship m) by).put ms (steps_of ship (with_tank at (tank_of ship n) kg) ms))

  one_tank : (at : Aboard) (kg by : ℕ) (ms : List operation.Op) → IsRefilled at name kg name by ms
  one_tank at kg by ms legal fits done = by_known (tank_of ship name) refl where
    by_known : (o : Option ℕ) → tank_of ship name ≡ o
        → CanBeDone ship (with_tank at (tank_of ship name) by) ms
        × (filling_step ship at (tank_of ship name) by ∷ steps_of ship (with_tank at (tank_of ship name) by) ms
        ≡ record { out = (filling_step ship at (tank_of ship name) kg).out; put = (filling_step ship at (tank_of ship name) by).put }
        ∷ handed name (filling_step ship at (tank_of ship name) by).put ms (steps_of ship (with_tank at (tank_of ship name) kg) ms))
    by_known None k = absurd (none-some UnknownTank (sym (ap (λ o. fill_fault ship o kg) (sym k) ∙ legal)))
    by_known (Some tank) k =
        let rest = handed_on ship name tank k at (Some kg) (Some by) ms in
        let was : with_tank at (tank_of ship name) kg ≡ filled ship tank at (Some kg) = ap (λ o. with_tank at o kg) k in
        let is : with_tank at (tank_of ship name) by ≡ filled ship tank at (Some by) = ap (λ o. with_tank at o by) k in (
          subst (λ (s : Aboard). CanBeDone ship s ms) (sym is) (rest.0 (subst (λ (s : Aboard). CanBeDone ship s ms) was done)),
          (λ j. filling_step ship at (k j) by ∷ ((λ i. steps_of ship (is i) ms) ∙ rest.1) j)
              ∙ (λ j. record { out = (filling_step ship at (sym k j) kg).out; put = (filling_step ship at (sym k j) by).put }
              ∷ handed name (filling_step ship at (sym k j) by).put ms (steps_of ship (sym was j) ms)),
        )

  one_refilled : (at : Aboard) (x y : operation.Op) (ms : List operation.Op) → fills x name ≡ true → fills y name ≡ true → fault_of ship at y ≡ None
      → CanBeDone ship at (x ∷ ms)
      → CanBeDone ship at (y ∷ ms)
      × (steps_of ship at (y ∷ ms)
      ≡ record { out = (step_of ship at x).out; put = (step_of ship at y).put } ∷ handed name (step_of ship at y).put ms (steps_of ship (after_step ship at x) ms))
  one_refilled at (Lift lift) y ms was is fits done = absurd (cc)
  one_refilled at (Restow from to id) y ms was is fits done = absurd (cc)
  one_refilled at (Fill n kg) (Lift lift) ms was is fits done = absurd (cc)
  one_refilled at (Fill n kg) (Restow from to id) ms was is fits done = absurd (cc)
  one_refilled at (Fill n kg) (Fill m by) ms was is fits done =
      let of_n : name ≡ n.items = sym ((bytes_eq-Decides n.items name).0 was) in
      let of_m : name ≡ m.items = sym ((bytes_eq-Decides m.items name).0 is) in
      let both = subst (λ l. IsRefilled at n.items kg l by ms) of_m (subst (λ l. IsRefilled at l kg name by ms) of_n (one_tank at kg by ms)) in
      let made = both done.0 fits done.1 in
      ((fits, made.0), made.1)

  refill_there : (at : Aboard) (ops : List operation.Op) (i : ℕ) (d y : operation.Op) → i < length ops → fills (get_or ops i d) name ≡ true → fills y name ≡ true
      → ((other : Aboard) → fault_of ship other y ≡ None) → CanBeDone ship at ops
      → CanBeDone ship at (set ops i y) × (steps_of ship at (set ops i y) ≡ refilled name (step_of ship nothing y).put i ops (steps_of ship at ops))
  refill_there at [] i d y within was is fits done = absurd (omega arith)
  refill_there at (op ∷ ops) zero d y within was is fits done =
      let made = one_refilled at op y ops was is (fits at) done in
      let put = same_put at nothing y is in
      (made.0, made.1 ∙ (λ j. record { out = (step_of ship at op).out; put = put j } ∷ handed name (put j) ops (steps_of ship (after_step ship at op) ops)))
  refill_there at (op ∷ ops) (suc i) d y within was is fits done =
      let rest = refill_there (after_step ship at op) ops i d y (omega arith) was is fits done.1 in
      ((done.0, rest.0), λ j. step_of ship at op ∷ rest.1 j)

  -- two fillings exchanged
  module _ (at : Aboard) (ops : List operation.Op) (i j : ℕ) (d : operation.Op) (low : i < length ops) (high : j < length ops)
      (one : fills (get_or ops i d) name ≡ true) (other : fills (get_or ops j d) name ≡ true) where
    abbrev first : operation.Op
    first = get_or ops i d

    abbrev second : operation.Op
    second = get_or ops j d

    both_there : CanBeDone ship at ops
        → CanBeDone ship at (set (set ops i second) j first)
        × (steps_of ship at (set (set ops i second) j first)
        ≡ refilled name (step_of ship nothing first).put j ops (refilled name (step_of ship nothing second).put i ops (steps_of ship at ops)))
    both_there done =
        let once = refill_there at ops i d second low one other (λ s. legal_there at s ops j d high other done) done in
        let there : fills (get_or (set ops i second) j d) name ≡ true = ap (λ x. fills x name) (get_set ops i j d) ∙ other in
        let long : length (set ops i second) ≡ length ops = length-set ops i second in
        let twice = refill_there at (set ops i second) j d first (omega (arith, high, long)) there one (λ s. legal_there at s ops i d low one done) once.0 in (
          twice.0,
          twice.1 ∙ refilled_same name (step_of ship nothing first).put ops (steps_of ship at (set ops i second)) i j d second one other
              ∙ ap (refilled name (step_of ship nothing first).put j ops) once.1,
        )

    too_many : SeqFault
    too_many = fault_at 120001 TooManySteps

    pub fillings_legal : sequence_fault ship at ops ≡ None → sequence_fault ship at (swap ops i j) ≡ None
    unfolding too_many
    fillings_legal legal =
        let few = none_of_both (nat_lt 120000 (length ops)) too_many (first_fault ship at 1 ops) legal in
        let both = both_there (can_be_done ship at 1 ops few.1) in
        let swapped : set (set ops i second) j first ≡ swap ops i j = swap_is ops i j d low high in
        let long : length (set (set ops i second) j first) ≡ length ops = length-set (set ops i second) j first ∙ length-set ops i second in
        let as_long : nat_lt 120000 (length (set (set ops i second) j first)) ≡ false = ap (nat_lt 120000) long ∙ few.0 in
        let legal_now : first_fault ship at 1 (set (set ops i second) j first) ≡ None = no_fault ship at 1 (set (set ops i second) j first) both.0 in
        ap (sequence_fault ship at) (sym swapped) ∙ (λ k. if as_long k then Some too_many else legal_now k)

    pub fillings_steps : (steps : List Step) (e : Step) → sequence_fault ship at ops ≡ None → steps ≡ steps_of ship at ops
        → refilled name (get_or steps i e).put j ops (refilled name (get_or steps j e).put i ops steps) ≡ steps_of ship at (swap ops i j)
    unfolding too_many
    fillings_steps steps e legal done =
        let few = none_of_both (nat_lt 120000 (length ops)) too_many (first_fault ship at 1 ops) legal in
        let both = both_there (can_be_done ship at 1 ops few.1) in
        let swapped : set (set ops i second) j first ≡ swap ops i j = swap_is ops i j d low high in
        let put : (get_or steps i e).put ≡ (step_of ship nothing first).put = ap (λ l. (get_or l i e).put) done ∙ put_there at ops i d e low one in
        let put_too : (get_or steps j e).put ≡ (step_of ship nothing second).put = ap (λ l. (get_or l j e).put) done ∙ put_there at ops j d e high other in
        (λ k. refilled name (put k) j ops (refilled name (put_too k) i ops (done k))) ∙ sym both.1 ∙ ap (steps_of ship at) swapped

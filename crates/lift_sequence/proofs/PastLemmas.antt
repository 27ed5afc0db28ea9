-- A filling that is moved past others of its tank.
use Rattle.std.proofs.Common.{◌≡◌, ◌⊎◌, ℕ, zero, suc, ◌+◌, ◌<◌, ◌≤◌, List, [], ◌∷◌, ◌++◌, length, take, drop, get_or, Option, None, Some, true, false, nat_lt, inl, inr, refl, sym, ap, ◌∙◌, arith}
use Rattle.std.specs.Prelude.{slice_get}
use Rattle.std.specs.List.{insert, remove}
use Rattle.std.proofs.lemmas.List.{get_or_default}
use Rattle.std.proofs.lemmas.List.Edits.{get_or-insert_at, length-remove}
use Rattle.std.proofs.lemmas.Option.{none-some, slice_get-get_or}
use Rattle.std.proofs.lemmas.Slice.Eq.{bytes_eq-Decides}
use Rattle.units_core.specs.Bodies.{Mass}
use Rattle.units_core.specs.declared.steps.Step.{Step}
use Rattle.ship_profile.specs.Record.{ProfileRecord, tank_of}
use Rattle.lift_sequence.specs.declared.faults.SeqCode.TheVariants.{TooManySteps, UnknownTank}
use Rattle.lift_sequence.specs.declared.operations.Op as operation
use Rattle.lift_sequence.specs.declared.operations.Op.TheVariants.{Lift, Fill, Restow}
use Rattle.lift_sequence.specs.Aboard.{Aboard, after_all, nothing}
use Rattle.lift_sequence.specs.Arrival.{fault_at}
use Rattle.lift_sequence.specs.Bodies.{step_of, steps_of}
use Rattle.lift_sequence.specs.Independent.{fills, moved}
use Rattle.lift_sequence.specs.Legal.{fault_of, fill_fault}
use Rattle.lift_sequence.specs.Sequence.{first_fault, sequence_fault}
use Rattle.lift_sequence.specs.Singles.{behind_of, filled_at, filled_past, handed, handed_by, held_at, is_apart, is_filling, left_by, next_behind, next_filling}
use Rattle.lift_sequence.proofs.ExchangeLemmas.{can_be_done}
use Rattle.lift_sequence.proofs.FillingLemmas.{legal_there, put_there, same_put}
use Rattle.lift_sequence.proofs.FollowLemmas.{none_of_both}
use Rattle.lift_sequence.proofs.HeldLemmas.{held_anywhere, takes_content}
use Rattle.lift_sequence.proofs.ShiftLemmas.{moved_is}
use Rattle.lift_sequence.proofs.SingleLemmas.{before_out, behind_out, behind_put, out_legal, out_steps, put_legal, put_steps}

module _ {X : Type 0} where
  -- lists of which the first elements stay, up to one that is taken out
  removed : (xs zs : List X) (i n : ℕ) → i < length xs → n ≡ i + 1 → remove (take n xs ++ zs) i ≡ take i xs ++ zs
  removed [] zs i n within is = absurd (omega arith)
  removed (x ∷ xs) zs zero n within is = let one : n ≡ suc zero = is ∙ omega arith in ap (λ k. remove (take k (x ∷ xs) ++ zs) zero) one
  removed (x ∷ xs) zs (suc i) n within is =
      let next : n ≡ suc (i + 1) = omega (arith, is) in
      let rest = removed xs zs i (i + 1) (omega arith) refl in
      ap (λ k. remove (take k (x ∷ xs) ++ zs) (suc i)) next ∙ (λ j. x ∷ rest j)

  kept_there : (xs zs : List X) (i n : ℕ) (d : X) → i < length xs → n ≡ i + 1 → get_or (take n xs ++ zs) i d ≡ get_or xs i d
  kept_there [] zs i n d within is = absurd (omega arith)
  kept_there (x ∷ xs) zs zero n d within is = let one : n ≡ suc zero = is ∙ omega arith in ap (λ k. get_or (take k (x ∷ xs) ++ zs) zero d) one
  kept_there (x ∷ xs) zs (suc i) n d within is =
      let next : n ≡ suc (i + 1) = omega (arith, is) in
      ap (λ k. get_or (take k (x ∷ xs) ++ zs) (suc i) d) next ∙ kept_there xs zs i (i + 1) d (omega arith) refl

  take_in : (xs : List X) (j : ℕ) (x : X) → j ≤ length xs → take j (insert xs j x) ≡ take j xs
  take_in xs zero x within = refl
  take_in [] (suc j) x within = absurd (omega arith)
  take_in (y ∷ ys) (suc j) x within = let rest = take_in ys j x (omega arith) in λ i. y ∷ rest i

  -- what stands outside of the stretch over which an element is moved
  low_in : (ys : List X) (j k : ℕ) (x : X) → k < j → j ≤ length ys → slice_get (insert ys j x) k ≡ slice_get ys k
  low_in ys zero k x low within = absurd (omega (arith, low))
  low_in [] (suc j) k x low within = absurd (omega (arith, within))
  low_in (y ∷ ys) (suc j) zero x low within = refl
  low_in (y ∷ ys) (suc j) (suc k) x low within = low_in ys j k x (omega (arith, low)) (omega (arith, within))

  low_out : (xs : List X) (i k : ℕ) → k < i → slice_get (remove xs i) k ≡ slice_get xs k
  low_out xs zero k low = absurd (omega (arith, low))
  low_out [] (suc i) k low = refl
  low_out (x ∷ xs) (suc i) zero low = refl
  low_out (x ∷ xs) (suc i) (suc k) low = low_out xs i k (omega (arith, low))

  high_in : (ys : List X) (j k : ℕ) (x : X) → j ≤ k → j ≤ length ys → slice_get (insert ys j x) (suc k) ≡ slice_get ys k
  high_in ys zero k x high within = refl
  high_in [] (suc j) k x high within = absurd (omega (arith, within))
  high_in (y ∷ ys) (suc j) zero x high within = absurd (omega (arith, high))
  high_in (y ∷ ys) (suc j) (suc k) x high within = high_in ys j k x (omega (arith, high)) (omega (arith, within))

  high_out : (xs : List X) (i k : ℕ) → i ≤ k → i < length xs → slice_get (remove xs i) k ≡ slice_get xs (suc k)
  high_out [] i k high within = absurd (omega (arith, within))
  high_out (x ∷ xs) zero k high within = refl
  high_out (x ∷ xs) (suc i) zero high within = absurd (omega (arith, high))
  high_out (x ∷ xs) (suc i) (suc k) high within = high_out xs i k (omega (arith, high)) (omega (arith, within))

  pub outside : (xs : List X) (i j k : ℕ) → i < length xs → j < length xs → ((k < i) × (k < j)) ⊎ ((i < k) × (j < k)) → slice_get (moved xs i j) k ≡ slice_get xs k
  outside [] i j k low high beside = absurd (omega (arith, low))
  outside (x ∷ xs) i j k low high (inl before) =
      let all : List X = x ∷ xs in
      let long = length-remove all i low in
      ap (λ zs. slice_get zs k) (moved_is x all i j low) ∙ low_in (remove all i) j k (get_or all i x) before.1 (omega (arith, long, high)) ∙ low_out all i k before.0
  outside (x ∷ xs) i j zero low high (inr behind) = absurd (omega (arith, behind.0))
  outside (x ∷ xs) i j (suc k) low high (inr behind) =
      let all : List X = x ∷ xs in
      let long = length-remove all i low in
      ap (λ zs. slice_get zs (suc k)) (moved_is x all i j low) ∙ high_in (remove all i) j k (get_or all i x) (omega (arith, behind.1)) (omega (arith, long, high))
      ∙ high_out all i k (omega (arith, behind.0)) low

-- the steps as they are changed one after another
one_by_one : (x : operation.Op) (name : List ℕ) (ops orders : List operation.Op) (steps handed_on carried after : List Step) (i j : ℕ) (d : Step) (out held : Option Mass)
    → i < length ops → j < length ops → length steps ≡ length ops → length handed_on ≡ length ops → out ≡ (get_or steps i d).out → held ≡ held_at name out i j ops steps
    → handed_on ≡ take (i + 1) steps ++ handed name out (drop (i + 1) ops) (drop (i + 1) steps) → orders ≡ moved ops i j → carried ≡ moved handed_on i j
    → after ≡ filled_at name held j orders d carried → after ≡ filled_past name i j ops d steps
one_by_one x name ops orders steps handed_on carried after i j d out held low high long as_long was holds first moves carries then =
    then ∙ (λ k. fronts k ++ (record { out = (holds ∙ ap (λ v. held_at name v i j ops steps) was) k; put = (there k).put } ∷ handed name (there k).put (orders_behind k) (behind k))) where
      next : suc i ≡ i + 1
      next = omega arith

      within : i < length steps
      within = omega (arith, low, long)

      left : List Step
      left = left_by name i ops d steps

      rest : List Step
      rest = handed name out (drop (i + 1) ops) (drop (i + 1) steps)

      same_rest : rest ≡ handed name (get_or steps i d).out (drop i (remove ops i)) (drop i (remove steps i))
      same_rest = λ k. handed name (was k) ((ap (λ n. drop n ops) (sym next) ∙ sym (behind_out ops i)) k) ((ap (λ n. drop n steps) (sym next) ∙ sym (behind_out steps i)) k)

      taken : remove handed_on i ≡ left
      taken = ap (λ l. remove l i) first ∙ removed steps rest i (i + 1) within refl ∙ (λ k. sym (before_out steps i) k ++ same_rest k)

      own : get_or handed_on i d ≡ get_or steps i d
      own = ap (λ l. get_or l i d) first ∙ kept_there steps rest i (i + 1) d within refl

      shorter : length (remove handed_on i) + 1 ≡ length handed_on
      shorter = length-remove handed_on i (omega (arith, low, as_long))

      room : j ≤ length left
      room = omega (arith, shorter, as_long, high, ap length taken)

      is : carried ≡ insert left j (get_or steps i d)
      is = carries ∙ moved_is d handed_on i j (omega (arith, low, as_long)) ∙ (λ k. insert (taken k) j (own k))

      fronts : take j carried ≡ take j left
      fronts = ap (take j) is ∙ take_in left j (get_or steps i d) room

      there : get_or carried j d ≡ get_or steps i d
      there = ap (λ l. get_or l j d) is ∙ get_or-insert_at left j (get_or steps i d) d room

      behind : drop (j + 1) carried ≡ drop j left
      behind = ap (drop (j + 1)) is ∙ behind_put left j (j + 1) (get_or steps i d) room refl

      less : length (remove ops i) + 1 ≡ length ops
      less = length-remove ops i low

      orders_behind : drop (j + 1) orders ≡ drop j (remove ops i)
      orders_behind = ap (drop (j + 1)) (moves ∙ moved_is x ops i j low) ∙ behind_put (remove ops i) j (j + 1) (get_or ops i x) (omega (arith, less, high)) refl

pub passed_over : (name : List ℕ) (ops orders : List operation.Op) (steps handed_on carried after : List Step) (i j : ℕ) (d : Step) (out held : Option Mass)
    → i < length ops → j < length ops → length steps ≡ length ops → length handed_on ≡ length ops → out ≡ (get_or steps i d).out → held ≡ held_at name out i j ops steps
    → handed_on ≡ take (i + 1) steps ++ handed name out (drop (i + 1) ops) (drop (i + 1) steps) → orders ≡ moved ops i j → carried ≡ moved handed_on i j
    → after ≡ filled_at name held j orders d carried → after ≡ filled_past name i j ops d steps
passed_over name [] orders steps handed_on carried after i j d out held low high long as_long was holds first moves carries then = absurd (omega (arith, low))
passed_over name (op ∷ ops) orders steps handed_on carried after i j d out held low high long as_long was holds first moves carries then =
    one_by_one op name (op ∷ ops) orders steps handed_on carried after i j d out held low high long as_long was holds first moves carries then

-- a place outside of a stretch is none of its ends
pub is_no_end : (i j k : ℕ) → ((k < i) × (k < j)) ⊎ ((i < k) × (j < k)) → k ≡ j → ⊥
is_no_end i j k (inl before) e = absurd (omega (arith, before.1, e))
is_no_end i j k (inr behind) e = absurd (omega (arith, behind.1, e))

-- where one of the steps goes away there is room for one
has_room : (less all : ℕ) → nat_lt 120000 all ≡ false → less + 1 ≡ all → less < 120000
has_room less all few is = grind (arith, few, is)

-- a step where it is moved to
pub moved_there : {X : Type 0} (xs : List X) (i j : ℕ) (x : X) → i < length xs → j < length xs → x ≡ get_or xs i x → x ≡ get_or (moved xs i j) j x
moved_there xs i j x low high is =
    let long = length-remove xs i low in
    is ∙ sym (get_or-insert_at (remove xs i) j (get_or xs i x) x (omega (arith, long, high))) ∙ ap (λ l. get_or l j x) (sym (moved_is x xs i j low))

-- a filling of the tank of a name
module _ (name : List ℕ) where
  module _ (ops : List operation.Op) (i : ℕ) (x : operation.Op) (within : i < length ops) (is : x ≡ get_or ops i x) (h : fills x name ≡ true) where
    at_place : Some x ≡ slice_get ops i
    at_place = ap (λ y. Some y) is ∙ sym (slice_get-get_or ops i x within)

    pub is_one : true ≡ is_filling (slice_get ops i)
    is_one = by_step x h ∙ ap is_filling at_place where
      by_step : (y : operation.Op) → fills y name ≡ true → true ≡ is_filling (Some y)
      by_step (Lift lift) k = absurd (cc)
      by_step (Restow from to id) k = absurd (cc)
      by_step (Fill other kg) k = refl

    pub next_is : i + 1 + next_filling name (drop (i + 1) ops) ≡ next_behind ops i
    next_is = by_step x h ∙ ap (λ o. behind_of o ops i) at_place where
      by_step : (y : operation.Op) → fills y name ≡ true → i + 1 + next_filling name (drop (i + 1) ops) ≡ behind_of (Some y) ops i
      by_step (Lift lift) k = absurd (cc)
      by_step (Restow from to id) k = absurd (cc)
      by_step (Fill other kg) k = ap (λ n. i + 1 + next_filling n (drop (i + 1) ops)) (sym ((bytes_eq-Decides other.items name).0 k))

  comes_anywhere : (x : operation.Op) (ms : List operation.Op) → fills x name ≡ true → is_apart x ms ≡ true
  comes_anywhere (Lift lift) ms h = absurd (cc)
  comes_anywhere (Restow from to id) ms h = absurd (cc)
  comes_anywhere (Fill other kg) ms h = refl

  by_name : (x : operation.Op) (out : Option Mass) (ms : List operation.Op) (steps : List Step) → fills x name ≡ true → handed_by x out ms steps ≡ handed name out ms steps
  by_name (Lift lift) out ms steps h = absurd (cc)
  by_name (Restow from to id) out ms steps h = absurd (cc)
  by_name (Fill other kg) out ms steps h = ap (λ n. handed n out ms steps) ((bytes_eq-Decides other.items name).0 h)

  has_tank : (ship : ProfileRecord) (at : Aboard) (x : operation.Op) → fills x name ≡ true → fault_of ship at x ≡ None → tank_of ship name ≡ None → ⊥
  has_tank ship at (Lift lift) h legal none = absurd (cc)
  has_tank ship at (Restow from to id) h legal none = absurd (cc)
  has_tank ship at (Fill other kg) h legal none =
      none-some UnknownTank (sym (ap (λ o. fill_fault ship o kg) (sym (ap (tank_of ship) ((bytes_eq-Decides other.items name).0 h) ∙ none)) ∙ legal))

  module _ (ship : ProfileRecord) (at : Aboard) (ops : List operation.Op) (i j : ℕ) (x : operation.Op) (low : i < length ops) (high : j < length ops)
      (is : x ≡ get_or ops i x) (h : fills x name ≡ true) (legal : sequence_fault ship at ops ≡ None) where
    abbrev rest : List operation.Op
    rest = remove ops i

    abbrev there : Aboard
    there = after_all ship at (take j rest)

    few : (nat_lt 120000 (length ops) ≡ false) × (first_fault ship at 1 ops ≡ None)
    few = none_of_both (nat_lt 120000 (length ops)) (fault_at 120001 TooManySteps) (first_fault ship at 1 ops) legal

    shorter : length rest + 1 ≡ length ops
    shorter = length-remove ops i low

    room : length rest < 120000
    room = has_room (length rest) (length ops) few.0 shorter

    inside : j ≤ length rest
    inside = omega (arith, high, shorter)

    fills_there : fills (get_or ops i x) name ≡ true
    fills_there = ap (λ y. fills y name) (sym is) ∙ h

    fits : fault_of ship there x ≡ None
    fits = ap (fault_of ship there) is ∙ legal_there ship name at there ops i x low fills_there (can_be_done ship at 1 ops few.1)

    rest_legal : sequence_fault ship at rest ≡ None
    rest_legal = out_legal ship at ops i x low is (comes_anywhere x (drop (suc i) ops) h) legal

    now : moved ops i j ≡ insert rest j x
    now = moved_is x ops i j low ∙ ap (insert rest j) (sym is)

    pub past_legal : sequence_fault ship at (moved ops i j) ≡ None
    past_legal = ap (sequence_fault ship at) now ∙ put_legal ship at rest j x inside room (comes_anywhere x (drop j rest) h) fits rest_legal

    module _ (steps : List Step) (d : Step) (done : steps ≡ steps_of ship at ops) (long : length steps ≡ length ops) where
      abbrev step : Step
      step = get_or steps i d

      abbrev left : List Step
      left = left_by name i ops d steps

      left_is : left ≡ steps_of ship at rest
      left_is =
          ap (λ l. take i (remove steps i) ++ l) (sym (by_name x step.out (drop i rest) (drop i (remove steps i)) h))
          ∙ out_steps ship at ops steps i x step low is (get_or_default steps i d step (omega (arith, low, long))) (comes_anywhere x (drop (suc i) ops) h) legal done

      same_out : (tank : ℕ) → tank_of ship name ≡ Some tank → held_at name step.out i j ops steps ≡ (step_of ship there x).out
      same_out tank k =
          (λ n. held_at name (get_or (done n) i d).out i j ops (done n)) ∙ sym (held_anywhere ship name tank k at ops i j x d low fills_there)
          ∙ sym (takes_content ship name tank k there x h)

      known_out : (o : Option ℕ) → tank_of ship name ≡ o → held_at name step.out i j ops steps ≡ (step_of ship there x).out
      known_out None k = absurd (has_tank ship there x h fits k)
      known_out (Some tank) k = same_out tank k

      put_same : step.put ≡ (step_of ship there x).put
      put_same =
          ap (λ l. (get_or l i d).put) done ∙ put_there ship name at ops i x d low fills_there ∙ ap (λ y. (step_of ship nothing y).put) (sym is)
          ∙ same_put ship name nothing there x h

      does : record { out = held_at name step.out i j ops steps; put = step.put } ≡ step_of ship there x
      does = λ n. record { out = known_out (tank_of ship name) refl n; put = put_same n }

      pub past_steps : filled_past name i j ops d steps ≡ steps_of ship at (moved ops i j)
      past_steps =
          ap (λ l. take j left ++ (record { out = held_at name step.out i j ops steps; put = step.put } ∷ l)) (sym (by_name x step.put (drop j rest) (drop j left) h))
          ∙ put_steps ship at rest left j x (record { out = held_at name step.out i j ops steps; put = step.put }) inside room (comes_anywhere x (drop j rest) h) fits does rest_legal left_is
          ∙ ap (steps_of ship at) (sym now)

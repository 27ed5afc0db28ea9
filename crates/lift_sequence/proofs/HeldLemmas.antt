-- What a tank holds before and behind some steps.
use Rattle.std.proofs.Common.{◌≡◌, ℕ, zero, suc, ◌+◌, ◌-◌, ◌<◌, ◌≤◌, List, [], ◌∷◌, length, take, drop, get_or, Option, None, Some, Bool, true, false, cond, nat_eq, nat_lt, refl, sym, ap, ◌∙◌, arith, eqb-true}
use Rattle.std.specs.Prelude.{if◌then◌else◌}
use Rattle.std.specs.Str.{bytes_eq}
use Rattle.std.proofs.lemmas.List.{at_drop_all, at_drop_more, drop_more}
use Rattle.std.proofs.lemmas.Slice.Eq.{bytes_eq-Decides}
use Rattle.std.specs.List.{remove}
use Rattle.units_core.specs.Bodies.{Mass}
use Rattle.units_core.specs.declared.steps.Step.{Step}
use Rattle.stow_messages.specs.declared.lifts.Lift.TheVariants.{Load, Discharge}
use Rattle.ship_profile.specs.Record.{ProfileRecord, tank_of}
use Rattle.lift_sequence.specs.declared.operations.Op as operation
use Rattle.lift_sequence.specs.declared.operations.Op.TheVariants.{Lift, Fill, Restow}
use Rattle.lift_sequence.specs.Aboard.{Aboard, after_all, after_step, with_tank}
use Rattle.lift_sequence.specs.Bodies.{filling_in, filling_step, step_of, steps_of}
use Rattle.lift_sequence.specs.Independent.{fills}
use Rattle.lift_sequence.specs.Singles.{held_at, held_before, held_behind, next_filling}
use Rattle.lift_sequence.proofs.IndependentLemmas.{number_itself}
use Rattle.lift_sequence.proofs.SingleLemmas.{chosen, held_there, not_chosen, other_tank}

-- the first filling of a tank, and what is held, place by place
module _ (name : List ℕ) where
  pub next_here : (ops : List operation.Op) (i : ℕ) (d : operation.Op) → i < length ops → fills (get_or ops i d) name ≡ true → next_filling name (drop i ops) ≡ 0
  next_here ops i d within h = at_drop_more (next_filling name) ops i d within ∙ sym (chosen (fills (get_or ops i d) name) 0 _ h)

  pub next_on : (ops : List operation.Op) (i : ℕ) (d : operation.Op) → i < length ops → fills (get_or ops i d) name ≡ false
      → i + next_filling name (drop i ops) ≡ i + 1 + next_filling name (drop (i + 1) ops)
  next_on ops i d within h = further i _ _ (at_drop_more (next_filling name) ops i d within ∙ sym (not_chosen (fills (get_or ops i d) name) 0 _ h)) where
    further : (i m n : ℕ) → m ≡ suc n → i + m ≡ i + 1 + n
    further i m n is = omega (arith, is)

  pub next_end : (ops : List operation.Op) (i : ℕ) → length ops ≤ i → next_filling name (drop i ops) ≡ 0
  next_end ops i past = at_drop_all (next_filling name) ops i past

  module _ (ops : List operation.Op) (steps : List Step) (i : ℕ) (d : operation.Op) (e : Step) (held : Option Mass) (within : i < length ops) (long : length steps ≡ length ops) where
    there : i < length steps
    there = omega (arith, within, long)

    pub behind_here : fills (get_or ops i d) name ≡ true
        → held_behind name held (drop i ops) (drop i steps) ≡ held_behind name (get_or steps i e).put (drop (i + 1) ops) (drop (i + 1) steps)
    behind_here h = (λ k. held_behind name held (drop_more ops i d within k) (drop_more steps i e there k)) ∙ sym (chosen (fills (get_or ops i d) name) _ _ h)

    pub behind_on : fills (get_or ops i d) name ≡ false
        → held_behind name held (drop i ops) (drop i steps) ≡ held_behind name held (drop (i + 1) ops) (drop (i + 1) steps)
    behind_on h = (λ k. held_behind name held (drop_more ops i d within k) (drop_more steps i e there k)) ∙ sym (not_chosen (fills (get_or ops i d) name) _ _ h)

    pub before_here : fills (get_or ops i d) name ≡ true → held_before name held (drop i ops) (drop i steps) ≡ (get_or steps i e).out
    before_here h = (λ k. held_before name held (drop_more ops i d within k) (drop_more steps i e there k)) ∙ sym (chosen (fills (get_or ops i d) name) _ _ h)

    pub before_on : fills (get_or ops i d) name ≡ false
        → held_before name held (drop i ops) (drop i steps) ≡ held_before name held (drop (i + 1) ops) (drop (i + 1) steps)
    before_on h = (λ k. held_before name held (drop_more ops i d within k) (drop_more steps i e there k)) ∙ sym (not_chosen (fills (get_or ops i d) name) _ _ h)

  pub behind_end : (ops : List operation.Op) (steps : List Step) (i : ℕ) (held : Option Mass) → length ops ≤ i → held_behind name held (drop i ops) (drop i steps) ≡ held
  behind_end ops steps i held past = at_drop_all (λ l. held_behind name held l (drop i steps)) ops i past

  pub before_end : (ops : List operation.Op) (steps : List Step) (i : ℕ) (held : Option Mass) → length ops ≤ i → held_before name held (drop i ops) (drop i steps) ≡ held
  before_end ops steps i held past = at_drop_all (λ l. held_before name held l (drop i steps)) ops i past

-- what is in a tank that the ship has
module _ (ship : ProfileRecord) (name : List ℕ) (tank : ℕ) (is : tank_of ship name ≡ Some tank) where
  abbrev pub content : Aboard → Option Mass
  content at = filling_in ship tank (at.tanks tank)

  of_name : (other : List ℕ) → bytes_eq other name ≡ true → tank_of ship other ≡ Some tank
  of_name other h = ap (tank_of ship) ((bytes_eq-Decides other name).0 h) ∙ is

  -- a filling of it
  pub takes_content : (at : Aboard) (op : operation.Op) → fills op name ≡ true → (step_of ship at op).out ≡ content at
  takes_content at (Lift lift) h = absurd (cc)
  takes_content at (Restow from to id) h = absurd (cc)
  takes_content at (Fill other kg) h = ap (λ o. (filling_step ship at o kg).out) (of_name other.items h)

  puts_content : (at before : Aboard) (op : operation.Op) → fills op name ≡ true → (step_of ship before op).put ≡ content (after_step ship at op)
  puts_content at before (Lift lift) h = absurd (cc)
  puts_content at before (Restow from to id) h = absurd (cc)
  puts_content at before (Fill other kg) h =
      ap (λ o. (filling_step ship before o kg).put) (of_name other.items h)
      ∙ ap (filling_in ship tank) (sym (held_there ship tank at (Some kg)))
      ∙ ap (λ o. content (with_tank at o kg)) (sym (of_name other.items h))

  -- any other step
  leaves_content : (at : Aboard) (op : operation.Op) → fills op name ≡ false → content (after_step ship at op) ≡ content at
  leaves_content at (Lift (Load item)) h = refl
  leaves_content at (Lift (Discharge cell id)) h = refl
  leaves_content at (Restow from to id) h = refl
  leaves_content at (Fill other kg) h = by_tank (tank_of ship other.items) refl where
    by_tank : (o : Option ℕ) → tank_of ship other.items ≡ o → content (with_tank at o kg) ≡ content at
    by_tank None k = refl
    by_tank (Some t) k = by_test (nat_eq t tank) refl where
      by_test : (b : Bool) → nat_eq t tank ≡ b → filling_in ship tank (cond b (Some kg) (at.tanks tank)) ≡ content at
      by_test true e = absurd (clash (sym (other_tank ship name tank is tank other.items (k ∙ ap (λ n. Some n) (eqb-true t tank e)) h) ∙ number_itself tank)) where
        clash : false ≡ true → ⊥
        clash z = cc
      by_test false e = refl

  -- what it holds behind some steps, by what these put in, whatever was aboard before them
  behind_all : (at before : Aboard) (n : ℕ) (ms : List operation.Op)
      → content (after_all ship at (take n ms)) ≡ held_behind name (content at) (take n ms) (take n (steps_of ship before ms))
  behind_all at before zero ms = refl
  behind_all at before (suc n) [] = refl
  behind_all at before (suc n) (m ∷ ms) = by_test (fills m name) refl (behind_all (after_step ship at m) (after_step ship before m) n ms) where
    rest : List Step
    rest = take n (steps_of ship (after_step ship before m) ms)

    by_test : (b : Bool) → fills m name ≡ b
        → content (after_all ship (after_step ship at m) (take n ms)) ≡ held_behind name (content (after_step ship at m)) (take n ms) rest
        → content (after_all ship (after_step ship at m) (take n ms)) ≡ held_behind name (content at) (m ∷ take n ms) (step_of ship before m ∷ rest)
    by_test true e so_far = so_far ∙ ap (λ v. held_behind name v (take n ms) rest) (sym (puts_content at before m e)) ∙ chosen (fills m name) _ _ e
    by_test false e so_far = so_far ∙ ap (λ v. held_behind name v (take n ms) rest) (leaves_content at m e) ∙ not_chosen (fills m name) _ _ e

  -- what it holds at a place where the filling at another one, before it, goes away
  ahead : (at : Aboard) (ops : List operation.Op) (i j n : ℕ) (d : operation.Op) (e : Step) → i < length ops → j ≡ i + n → fills (get_or ops i d) name ≡ true
      → content (after_all ship at (take j (remove ops i)))
      ≡ held_behind name (get_or (steps_of ship at ops) i e).out (take n (drop (suc i) ops)) (take n (drop (suc i) (steps_of ship at ops)))
  ahead at [] i j n d e within far h = absurd (omega arith)
  ahead at (op ∷ ops) zero j n d e within far h =
      let same : j ≡ n = omega (arith, far) in
      ap (λ k. content (after_all ship at (take k ops))) same ∙ behind_all at (after_step ship at op) n ops
      ∙ ap (λ v. held_behind name v (take n ops) (take n (steps_of ship (after_step ship at op) ops))) (sym (takes_content at op h))
  ahead at (op ∷ ops) (suc i) zero n d e within far h = absurd (omega (arith, far))
  ahead at (op ∷ ops) (suc i) (suc j) n d e within far h = ahead (after_step ship at op) ops i j n d e (omega arith) (omega (arith, far)) h

  -- and where it is behind it
  from_start : (at : Aboard) (ops : List operation.Op) (i : ℕ) (d : operation.Op) (e : Step) → i < length ops → fills (get_or ops i d) name ≡ true
      → content at ≡ held_before name (get_or (steps_of ship at ops) i e).out (take i ops) (take i (steps_of ship at ops))
  from_start at [] i d e within h = absurd (omega arith)
  from_start at (op ∷ ops) zero d e within h = sym (takes_content at op h)
  from_start at (op ∷ ops) (suc i) d e within h = by_test (fills op name) refl (from_start (after_step ship at op) ops i d e (omega arith) h) where
    out : Option Mass
    out = (get_or (steps_of ship (after_step ship at op) ops) i e).out

    rest : List Step
    rest = take i (steps_of ship (after_step ship at op) ops)

    by_test : (b : Bool) → fills op name ≡ b → content (after_step ship at op) ≡ held_before name out (take i ops) rest
        → content at ≡ held_before name out (op ∷ take i ops) (step_of ship at op ∷ rest)
    by_test true k so_far = sym (takes_content at op k) ∙ chosen (fills op name) _ _ k
    by_test false k so_far = sym (leaves_content at op k) ∙ so_far ∙ not_chosen (fills op name) _ _ k

  back : (at : Aboard) (ops : List operation.Op) (i j n : ℕ) (d : operation.Op) (e : Step) → i < length ops → i ≡ j + n → fills (get_or ops i d) name ≡ true
      → content (after_all ship at (take j (remove ops i)))
      ≡ held_before name (get_or (steps_of ship at ops) i e).out (take n (drop j ops)) (take n (drop j (steps_of ship at ops)))
  back at [] i j n d e within far h = absurd (omega arith)
  back at (op ∷ ops) i zero n d e within far h =
      let same : i ≡ n = omega (arith, far) in
      from_start at (op ∷ ops) i d e within h
      ∙ ap (λ k. held_before name (get_or (steps_of ship at (op ∷ ops)) i e).out (take k (op ∷ ops)) (take k (steps_of ship at (op ∷ ops)))) same
  back at (op ∷ ops) zero (suc j) n d e within far h = absurd (omega (arith, far))
  back at (op ∷ ops) (suc i) (suc j) n d e within far h = back (after_step ship at op) ops i j n d e (omega arith) (omega (arith, far)) h

  -- what it holds at the place to which its filling is moved
  pub held_anywhere : (at : Aboard) (ops : List operation.Op) (i j : ℕ) (d : operation.Op) (e : Step) → i < length ops → fills (get_or ops i d) name ≡ true
      → content (after_all ship at (take j (remove ops i))) ≡ held_at name (get_or (steps_of ship at ops) i e).out i j ops (steps_of ship at ops)
  held_anywhere at ops i j d e within h = by_order (nat_lt i j) refl where
    steps : List Step
    steps = steps_of ship at ops

    next : suc i ≡ i + 1
    next = omega arith

    by_order : (b : Bool) → nat_lt i j ≡ b
        → content (after_all ship at (take j (remove ops i)))
        ≡ (if b then held_behind name (get_or steps i e).out (take (j - i) (drop (i + 1) ops)) (take (j - i) (drop (i + 1) steps))
        else held_before name (get_or steps i e).out (take (i - j) (drop j ops)) (take (i - j) (drop j steps)))
    by_order true o =
        ahead at ops i j (j - i) d e within (grind (arith, o)) h
        ∙ (λ k. held_behind name (get_or steps i e).out (take (j - i) (drop (next k) ops)) (take (j - i) (drop (next k) steps)))
    by_order false o = back at ops i j (i - j) d e within (grind (arith, o)) h

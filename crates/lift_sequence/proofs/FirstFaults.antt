-- The first fault that a walk finds is that of the first element with which something is wrong.
use Rattle.std.proofs.Common.{◌≡◌, ◌⊎◌, inl, inr, ℕ, zero, suc, ◌+◌, ◌<◌, ◌≤◌, List, [], ◌∷◌, length, take, Bool, true, false, nat_lt, Option, None, Some, refl, sym, ap, ◌∙◌, arith}
use Rattle.std.specs.Prelude.{slice_get, if◌then◌else◌}
use Rattle.std.specs.Option.{option_and_then, option_map, option_or}
use Rattle.std.proofs.lemmas.Option.{none-some, same_Some}
use Rattle.stow_messages.specs.declared.items.Item.{Item}
use Rattle.ship_profile.specs.declared.fills.TankFill.{TankFill}
use Rattle.ship_profile.specs.Record.{ProfileRecord}
use Rattle.lift_sequence.specs.declared.faults.SeqCode.{SeqCode}
use Rattle.lift_sequence.specs.declared.faults.SeqCode.TheVariants.{TooManySteps}
use Rattle.lift_sequence.specs.declared.faults.SeqFault.{SeqFault}
use Rattle.lift_sequence.specs.declared.operations.Op.{Op}
use Rattle.lift_sequence.specs.Aboard.{Aboard, after_step, nothing, with_item}
use Rattle.lift_sequence.specs.Arrival.{arrival_fault, fault_at, fills_fault, items_fault, with_items}
use Rattle.lift_sequence.specs.Faults.{AreLegal, IsArrivalFault, IsFirst, IsLegalArrival, IsLegalSequence, IsSequenceFault, fault_at_number, fault_of_fill, fault_of_step}
use Rattle.lift_sequence.specs.Legal.{stand_fault}
use Rattle.lift_sequence.specs.Sequence.{first_fault, sequence_fault}
use Rattle.lift_sequence.proofs.States.{none_first, passed, stopped}

-- what a walk has found from a number on: the element at this place is the first with which something is wrong
record Found {X : Type 0} (judge : List X → X → Option SeqCode) (xs : List X) (number : ℕ) (f : SeqFault) : Type 0 where
  place : ℕ
  at : f.at ≡ number + place
  code : fault_at_number judge xs (suc place) ≡ Some f.code
  before : (k : ℕ) → k < suc place → fault_at_number judge xs k ≡ None

-- A walk goes from element to element with a state, by which it judges each.
record Walks {S X : Type 0} (next : S → X → S) (judge : S → List X → X → Option SeqCode) (walk : S → ℕ → List X → Option SeqFault) : Type 0 where
  ends : (s : S) (n : ℕ) → walk s n [] ≡ None
  goes : (s : S) (n : ℕ) (x : X) (xs : List X) → walk s n (x ∷ xs) ≡ option_or (option_map (fault_at n) (judge s [] x)) (walk (next s x) (n + 1) xs)
  behind : (s : S) (x : X) (before : List X) (y : X) → judge s (x ∷ before) y ≡ judge (next s x) before y

module _ {S X : Type 0} {next : S → X → S} {judge : S → List X → X → Option SeqCode} {walk : S → ℕ → List X → Option SeqFault} (w : Walks next judge walk) where
  -- what is judged behind the first element is judged by the next state
  later : (s : S) (x : X) (xs : List X) (k : ℕ) → fault_at_number (judge s) (x ∷ xs) (suc (suc k)) ≡ fault_at_number (judge (next s x)) xs (suc k)
  later s x xs k = λ i. option_and_then (λ y. w.behind s x (take k xs) y i) (slice_get xs k)

  none_here : (s : S) (n : ℕ) (x : X) (xs : List X) → walk s n (x ∷ xs) ≡ None → (judge s [] x ≡ None) × (walk (next s x) (n + 1) xs ≡ None)
  none_here s n x xs h = none_first n (judge s [] x) (walk (next s x) (n + 1) xs) (sym (w.goes s n x xs) ∙ h)

  goes_by : (s : S) (n : ℕ) (x : X) (xs : List X) → judge s [] x ≡ None → walk s n (x ∷ xs) ≡ walk (next s x) (n + 1) xs
  goes_by s n x xs h = w.goes s n x xs ∙ passed n (judge s [] x) (walk (next s x) (n + 1) xs) h

  stops_at : (s : S) (n : ℕ) (x : X) (xs : List X) (c : SeqCode) → judge s [] x ≡ Some c → walk s n (x ∷ xs) ≡ Some (fault_at n c)
  stops_at s n x xs c h = w.goes s n x xs ∙ stopped n (judge s [] x) c (walk (next s x) (n + 1) xs) h

  none_walked : (s : S) (n : ℕ) (xs : List X) → walk s n xs ≡ None → AreLegal (judge s) xs
  none_walked s n xs h zero = refl
  none_walked s n [] h (suc k) = refl
  none_walked s n (x ∷ xs) h (suc zero) = (none_here s n x xs h).0
  none_walked s n (x ∷ xs) h (suc (suc k)) = later s x xs k ∙ none_walked (next s x) (n + 1) xs (none_here s n x xs h).1 (suc k)

  walks_none : (s : S) (n : ℕ) (xs : List X) → AreLegal (judge s) xs → walk s n xs ≡ None
  walks_none s n [] h = w.ends s n
  walks_none s n (x ∷ xs) h = goes_by s n x xs (h (suc zero)) ∙ walks_none (next s x) (n + 1) xs rest where
    rest : AreLegal (judge (next s x)) xs
    rest zero = refl
    rest (suc k) = sym (later s x xs k) ∙ h (suc (suc k))

  walks_to : (s : S) (n j : ℕ) (xs : List X) (c : SeqCode) → fault_at_number (judge s) xs (suc j) ≡ Some c
      → ((k : ℕ) → k < suc j → fault_at_number (judge s) xs k ≡ None) → walk s n xs ≡ Some (fault_at (n + j) c)
  walks_to s n j [] c here before = absurd (none-some c here)
  walks_to s n zero (x ∷ xs) c here before = stops_at s n x xs c here ∙ ap (λ (m : ℕ). Some (fault_at m c)) (omega arith)
  walks_to s n (suc j) (x ∷ xs) c here before =
      goes_by s n x xs (before (suc zero) (omega arith)) ∙ walks_to (next s x) (n + 1) j xs c (sym (later s x xs j) ∙ here) rest
      ∙ ap (λ (m : ℕ). Some (fault_at m c)) (omega arith) where
        rest : (k : ℕ) → k < suc j → fault_at_number (judge (next s x)) xs k ≡ None
        rest zero low = refl
        rest (suc k) low = sym (later s x xs k) ∙ before (suc (suc k)) (omega arith)

  walked_to : (s : S) (n : ℕ) (xs : List X) (f : SeqFault) → walk s n xs ≡ Some f → Found (judge s) xs n f
  walked_to s n [] f h = absurd (none-some f (sym (w.ends s n) ∙ h))
  walked_to s n (x ∷ xs) f h = by_first (judge s [] x) refl (walked_to (next s x) (n + 1) xs f) where
    none_before : (k : ℕ) → k < suc zero → fault_at_number (judge s) (x ∷ xs) k ≡ None
    none_before zero low = refl
    none_before (suc k) low = absurd (omega arith)

    both_before : (j : ℕ) → judge s [] x ≡ None → ((k : ℕ) → k < suc j → fault_at_number (judge (next s x)) xs k ≡ None)
        → (k : ℕ) → k < suc (suc j) → fault_at_number (judge s) (x ∷ xs) k ≡ None
    both_before j e more zero low = refl
    both_before j e more (suc zero) low = e
    both_before j e more (suc (suc k)) low = later s x xs k ∙ more (suc k) (omega arith)

    by_first : (o : Option SeqCode) → judge s [] x ≡ o → (walk (next s x) (n + 1) xs ≡ Some f → Found (judge (next s x)) xs (n + 1) f)
        → Found (judge s) (x ∷ xs) n f
    by_first (Some c) e more =
        let same : fault_at n c ≡ f = same_Some (fault_at n c) f (sym (stops_at s n x xs c e) ∙ h) in
        record {
          place = zero;
          at = ap (λ (g : SeqFault). g.at) (sym same) ∙ omega arith;
          code = e ∙ ap (λ (g : SeqFault). Some g.code) same;
          before = none_before;
        }
    by_first None e more =
        let r = more (sym (goes_by s n x xs e) ∙ h) in
        record {
          place = suc r.place;
          at = r.at ∙ omega arith;
          code = later s x xs r.place ∙ r.code;
          before = both_before r.place e r.before;
        }

  first_walked : (s : S) (xs : List X) (f : SeqFault) → walk s 1 xs ≡ Some f → IsFirst (judge s) xs f
  first_walked s xs f h =
      let r = walked_to s 1 xs f h in
      let at : f.at ≡ suc r.place = r.at ∙ omega arith in
      record { code = ap (fault_at_number (judge s) xs) at ∙ r.code; before = λ k low. r.before k (omega (arith, at)) }

  walks_first : (s : S) (xs : List X) (f : SeqFault) → IsFirst (judge s) xs f → walk s 1 xs ≡ Some f
  walks_first s xs f h = by_number f.at refl where
    by_number : (m : ℕ) → f.at ≡ m → walk s 1 xs ≡ Some f
    by_number zero e = absurd (none-some f.code (ap (fault_at_number (judge s) xs) (sym e) ∙ h.code))
    by_number (suc j) e =
        walks_to s 1 j xs f.code (ap (fault_at_number (judge s) xs) (sym e) ∙ h.code) (λ k low. h.before k (omega (arith, e)))
        ∙ ap (λ (m : ℕ). Some (fault_at m f.code)) (omega (arith, e))

-- items, fills and steps
module _ (ship : ProfileRecord) where
  abbrev judge_item : Aboard → List Item → Item → Option SeqCode
  judge_item at before item = stand_fault ship (with_items at before) item.cell

  items_walk : Walks with_item judge_item (items_fault ship)
  items_walk = record { ends = λ s n. refl; goes = λ s n x xs. refl; behind = λ s x before y. refl }

  abbrev walk_fills : Unit {0} → ℕ → List TankFill → Option SeqFault
  walk_fills s n fills = fills_fault ship n fills

  fills_walk : Walks (λ s (x : TankFill). s) (λ s. fault_of_fill ship) walk_fills
  fills_walk = record { ends = λ s n. refl; goes = λ s n x xs. refl; behind = λ s x before y. refl }

  steps_walk : Walks (after_step ship) (fault_of_step ship) (first_fault ship)
  steps_walk = record { ends = λ s n. refl; goes = λ s n x xs. refl; behind = λ s x before y. refl }

-- the answer of an arrival
module _ (ship : ProfileRecord) (items : List Item) (fills : List TankFill) where
  no_item : items_fault ship nothing 1 items ≡ None → arrival_fault ship items fills ≡ fills_fault ship 1 fills
  no_item h = ap (λ o. option_or o (fills_fault ship 1 fills)) h

  pub arrival_faults : (f : SeqFault) → IsArrivalFault ship items fills f → arrival_fault ship items fills ≡ Some f
  arrival_faults f (inl h) = ap (λ o. option_or o (fills_fault ship 1 fills)) (walks_first (items_walk ship) nothing items f h)
  arrival_faults f (inr h) = no_item (walks_none (items_walk ship) nothing 1 items h.0) ∙ walks_first (fills_walk ship) tt fills f h.1

  pub arrival_legal : IsLegalArrival ship items fills → arrival_fault ship items fills ≡ None
  arrival_legal h = no_item (walks_none (items_walk ship) nothing 1 items h.each_item) ∙ walks_none (fills_walk ship) tt 1 fills h.each_fill

  pub arrival_either : IsLegalArrival ship items fills ⊎ ((f : SeqFault) × IsArrivalFault ship items fills f)
  arrival_either = by_items (items_fault ship nothing 1 items) (fills_fault ship 1 fills) refl refl where
    by_items : (o p : Option SeqFault) → items_fault ship nothing 1 items ≡ o → fills_fault ship 1 fills ≡ p
        → IsLegalArrival ship items fills ⊎ ((f : SeqFault) × IsArrivalFault ship items fills f)
    by_items (Some f) p e e2 = inr (f, inl (first_walked (items_walk ship) nothing items f e))
    by_items None (Some f) e e2 = inr (f, inr (none_walked (items_walk ship) nothing 1 items e, first_walked (fills_walk ship) tt fills f e2))
    by_items None None e e2 = inl (record { each_item = none_walked (items_walk ship) nothing 1 items e; each_fill = none_walked (fills_walk ship) tt 1 fills e2 })

  pub arrival_not_both : (f : SeqFault) → IsLegalArrival ship items fills → IsArrivalFault ship items fills f → ⊥
  arrival_not_both f legal fault = none-some f (sym (arrival_legal legal) ∙ arrival_faults f fault)

-- the answer of a sequence
module _ (ship : ProfileRecord) (at : Aboard) (ops : List Op) where
  abbrev too_many : SeqFault
  too_many = fault_at 120001 TooManySteps

  by_count : (b : Bool) → nat_lt 120000 (length ops) ≡ b → sequence_fault ship at ops ≡ (if b then Some too_many else first_fault ship at 1 ops)
  by_count b e = ap (λ (c : Bool). if c then Some too_many else first_fault ship at 1 ops) e

  above : (m n : ℕ) → m < n → nat_lt m n ≡ true
  above m n h = grind arith

  not_above : (m n : ℕ) → n ≤ m → nat_lt m n ≡ false
  not_above m n h = grind arith

  is_above : (m n : ℕ) → nat_lt m n ≡ true → m < n
  is_above m n h = grind (arith, h)

  isnt_above : (m n : ℕ) → nat_lt m n ≡ false → n ≤ m
  isnt_above m n h = grind (arith, h)

  pub sequence_faults : (f : SeqFault) → IsSequenceFault ship at ops f → sequence_fault ship at ops ≡ Some f
  sequence_faults f (inl h) = by_count true (above 120000 (length ops) h.0) ∙ ap (λ (g : SeqFault). Some g) (sym h.1)
  sequence_faults f (inr h) = by_count false (not_above 120000 (length ops) h.0) ∙ walks_first (steps_walk ship) at ops f h.1

  pub sequence_legal : IsLegalSequence ship at ops → sequence_fault ship at ops ≡ None
  sequence_legal h = by_count false (not_above 120000 (length ops) h.few) ∙ walks_none (steps_walk ship) at 1 ops h.steps

  pub sequence_either : IsLegalSequence ship at ops ⊎ ((f : SeqFault) × IsSequenceFault ship at ops f)
  sequence_either = by_answer (nat_lt 120000 (length ops)) (first_fault ship at 1 ops) refl refl where
    by_answer : (b : Bool) (o : Option SeqFault) → nat_lt 120000 (length ops) ≡ b → first_fault ship at 1 ops ≡ o
        → IsLegalSequence ship at ops ⊎ ((f : SeqFault) × IsSequenceFault ship at ops f)
    by_answer true o e e2 = inr (too_many, inl (is_above 120000 (length ops) e, refl))
    by_answer false (Some f) e e2 = inr (f, inr (isnt_above 120000 (length ops) e, first_walked (steps_walk ship) at ops f e2))
    by_answer false None e e2 = inl (record { few = isnt_above 120000 (length ops) e; steps = none_walked (steps_walk ship) at 1 ops e2 })

  pub sequence_not_both : (f : SeqFault) → IsLegalSequence ship at ops → IsSequenceFault ship at ops f → ⊥
  sequence_not_both f legal fault = none-some f (sym (sequence_legal legal) ∙ sequence_faults f fault)

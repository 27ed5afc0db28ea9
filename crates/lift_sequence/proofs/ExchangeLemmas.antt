-- Steps that are independent of each other and of all steps between can be exchanged.
use Rattle.std.proofs.Common.{◌≡◌, ℕ, zero, suc, ◌+◌, ◌<◌, ◌≢◌, List, [], ◌∷◌, length, get_or, set, None, Some, true, false, nat_lt, refl, sym, ap, ◌∙◌, subst, arith}
use Rattle.std.specs.Prelude.{⊤, if◌then◌else◌}
use Rattle.std.specs.List.{swap}
use Rattle.std.specs.Option.{option_map, option_or}
use Rattle.std.proofs.lemmas.List.Edits.{length-swap, swap_is}
use Rattle.std.proofs.lemmas.List.{set_comm}
use Rattle.std.proofs.lemmas.Option.{slice_get-get_or}
use Rattle.ship_profile.specs.Record.{ProfileRecord}
use Rattle.lift_sequence.specs.declared.faults.SeqCode.TheVariants.{TooManySteps}
use Rattle.lift_sequence.specs.declared.faults.SeqFault.{SeqFault}
use Rattle.lift_sequence.specs.declared.operations.Op.{Op}
use Rattle.units_core.specs.declared.steps.Step.{Step}
use Rattle.lift_sequence.specs.Aboard.{Aboard, after_step}
use Rattle.lift_sequence.specs.Arrival.{fault_at}
use Rattle.lift_sequence.specs.Bodies.{step_of, steps_of}
use Rattle.lift_sequence.specs.Independent.{AreExchangeable, AreIndependent, Commute, both_independent, independent_at}
use Rattle.lift_sequence.specs.Legal.{fault_of}
use Rattle.lift_sequence.specs.Sequence.{first_fault, sequence_fault}
use Rattle.lift_sequence.proofs.FollowLemmas.{none_of_both}
use Rattle.lift_sequence.proofs.IndependentLemmas.{independent_means, passes, turned}
use Rattle.lift_sequence.proofs.States.{as_many, none_first}

-- a list with two elements in each other's place; d and e are read of no list that has both
module _ {X : Type 0} where
  abbrev pub exchanged : X → ℕ → ℕ → List X → List X
  exchanged d i j xs = set (set xs i (get_or xs j d)) j (get_or xs i d)

module _ (ship : ProfileRecord) where
  -- each step of a list can be done where it comes
  abbrev pub CanBeDone : Aboard → List Op → Type 0
  CanBeDone at [] = ⊤
  CanBeDone at (op ∷ more) = (fault_of ship at op ≡ None) × CanBeDone (after_step ship at op) more

  pub can_be_done : (at : Aboard) (number : ℕ) (ops : List Op) → first_fault ship at number ops ≡ None → CanBeDone at ops
  can_be_done at number [] legal = tt
  can_be_done at number (op ∷ more) legal =
      let both = none_first number (fault_of ship at op) (first_fault ship (after_step ship at op) (number + 1) more) legal in
      (both.0, can_be_done (after_step ship at op) (number + 1) more both.1)

  pub no_fault : (at : Aboard) (number : ℕ) (ops : List Op) → CanBeDone at ops → first_fault ship at number ops ≡ None
  no_fault at number [] done = refl
  no_fault at number (op ∷ more) done =
      let rest = no_fault (after_step ship at op) (number + 1) more done.1 in
      λ i. option_or (option_map (fault_at number) (done.0 i)) (rest i)

  -- neighbours
  module _ (a b : Op) (at : Aboard) (apart : AreIndependent a b) where
    behind : Commute ship at a b
    behind = passes ship a b at apart

    before : Commute ship at b a
    before = passes ship b a at (turned a b apart)

    pub flip_done : (more : List Op) → CanBeDone at (a ∷ b ∷ more) → CanBeDone at (b ∷ a ∷ more)
    flip_done more done =
        (sym behind.fault ∙ done.1.0, (before.fault ∙ done.0, subst (λ (s : Aboard). CanBeDone s more) behind.state done.1.1))

    flip_steps : (more : List Op) → steps_of ship at (b ∷ a ∷ more)
        ≡ step_of ship (after_step ship at a) b ∷ step_of ship at a ∷ steps_of ship (after_step ship (after_step ship at a) b) more
    flip_steps more = λ i. sym behind.step i ∷ before.step i ∷ steps_of ship (sym behind.state i) more

  -- what is so of a list in which the first step and the one at place k behind it are exchanged
  abbrev AreExchanged : Op → Step → Aboard → Op → List Op → ℕ → Type 0
  AreExchanged d e at x more k =
      CanBeDone at (get_or more k d ∷ set more k x)
      × (steps_of ship at (get_or more k d ∷ set more k x)
      ≡ get_or (steps_of ship (after_step ship at x) more) k e ∷ set (steps_of ship (after_step ship at x) more) k (step_of ship at x))

  module _ (d : Op) (e : Step) where
    abbrev tail : List Step → List Step
    tail [] = []
    tail (s ∷ more) = more

    abbrev head : List Step → Step
    head [] = e
    head (s ∷ more) = s

    -- the first step goes behind the second, and the one at place k to the front; the others stay
    one_more : (at : Aboard) (x m : Op) (more : List Op) (k : ℕ) → AreIndependent x m → AreIndependent (get_or more k d) m
        → CanBeDone at (x ∷ m ∷ more) → (CanBeDone (after_step ship at m) (x ∷ more) → AreExchanged d e (after_step ship at m) x more k)
        → AreExchanged d e at x (m ∷ more) (suc k)
    one_more at x m more k free last_free done rest =
        let y : Op = get_or more k d in
        let next : Aboard = after_step ship at m in
        let list : List Op = set more k x in
        let flipped = flip_done x m at free more done in
        let inner = rest flipped.1 in
        let forth = passes ship x m at free in
        let back = passes ship m x at (turned x m free) in
        let steps : List Step = steps_of ship (after_step ship (after_step ship at x) m) more in
        let inner_steps : steps_of ship next (y ∷ list) ≡ get_or steps k e ∷ set steps k (step_of ship at x) =
        inner.1 ∙ (λ i. get_or (steps_of ship (back.state i) more) k e ∷ set (steps_of ship (back.state i) more) k (back.step i)) in
        let put : AreIndependent m y = turned y m last_free in (
          flip_done m y at put list (flipped.0, inner.0),
          flip_steps m y at put list
              ∙ (λ i. head (inner_steps i) ∷ sym forth.step i ∷ tail (inner_steps i)),
        )

    front_exchanged : (at : Aboard) (x : Op) (more : List Op) (k : ℕ) → k < length more → AreIndependent x (get_or more k d)
        → ((t : ℕ) → t < k → AreIndependent x (get_or more t d) × AreIndependent (get_or more k d) (get_or more t d))
        → CanBeDone at (x ∷ more) → AreExchanged d e at x more k
    front_exchanged at x [] k within pair free done = absurd (omega arith)
    front_exchanged at x (y ∷ more) zero within pair free done = (flip_done x y at pair more done, flip_steps x y at pair more)
    front_exchanged at x (m ∷ more) (suc k) within pair free done =
        let first = free zero (omega arith) in
        one_more at x m more k first.0 first.1 done
        (λ inner. front_exchanged (after_step ship at m) x more k (omega arith) pair (λ t below. free (suc t) (omega arith)) inner)

    exchange : (at : Aboard) (ops : List Op) (i j : ℕ) → i < j → j < length ops → AreIndependent (get_or ops i d) (get_or ops j d)
        → ((t : ℕ) → i < t → t < j → AreIndependent (get_or ops i d) (get_or ops t d) × AreIndependent (get_or ops j d) (get_or ops t d))
        → CanBeDone at ops
        → CanBeDone at (exchanged d i j ops) × (steps_of ship at (exchanged d i j ops) ≡ exchanged e i j (steps_of ship at ops))
    exchange at [] i j order within pair free done = absurd (omega arith)
    exchange at (op ∷ ops) i zero order within pair free done = absurd (omega arith)
    exchange at (op ∷ ops) zero (suc j) order within pair free done =
        front_exchanged at op ops j (omega arith) pair (λ t below. free (suc t) (omega arith) (omega arith)) done
    exchange at (op ∷ ops) (suc i) (suc j) order within pair free done =
        let rest = exchange (after_step ship at op) ops i j (omega arith) (omega arith) pair (λ t above below. free (suc t) (omega arith) (omega arith)) done.1 in
        ((done.0, rest.0), λ i. step_of ship at op ∷ rest.1 i)

-- the places the other way round
pub swapped_back : {X : Type 0} (xs : List X) (i j : ℕ) → i < j → swap xs j i ≡ swap xs i j
swapped_back [] i j order = refl
swapped_back (x ∷ xs) i j order = let ne : j ≢ i = omega arith in set_comm (x ∷ xs) j i (get_or (x ∷ xs) i x) (get_or (x ∷ xs) j x) ne

-- what is so of a sequence in which two steps are exchanged
pub independent_there : (ops : List Op) (i j : ℕ) (d : Op) → i < length ops → j < length ops → independent_at ops i j ≡ true → AreIndependent (get_or ops i d) (get_or ops j d)
independent_there ops i j d low high h =
    independent_means (get_or ops i d) (get_or ops j d) ((λ k. both_independent (sym (slice_get-get_or ops i d low) k) (sym (slice_get-get_or ops j d high) k)) ∙ h)

module _ (ship : ProfileRecord) (at : Aboard) where
  both_exchanged : (ops : List Op) (i j : ℕ) → i < j → j < length ops → AreExchangeable ops i j → sequence_fault ship at ops ≡ None
      → (sequence_fault ship at (swap ops i j) ≡ None) × (steps_of ship at (swap ops i j) ≡ swap (steps_of ship at ops) i j)
  both_exchanged [] i j order within free legal = absurd (omega arith)
  both_exchanged (op ∷ ops) i j order within free legal =
      let all : List Op = op ∷ ops in
      let none : Step = step_of ship at op in
      let too_many : SeqFault = fault_at 120001 TooManySteps in
      let few = none_of_both (nat_lt 120000 (length all)) too_many (first_fault ship at 1 all) legal in
      let low : i < length all = omega arith in
      let is = swap_is all i j op low within in
      let steps = swap_is (steps_of ship at all) i j none (omega (arith, as_many ship at all)) (omega (arith, as_many ship at all)) in
      let both = exchange ship op none at all i j order within (independent_there all i j op low within free.pair)
      (λ t above below. (
        independent_there all i t op low (omega arith) (free.first t above below),
        independent_there all j t op within (omega arith) (free.last t above below),
      )) (can_be_done ship at 1 all few.1) in
      let as_short : nat_lt 120000 (length (swap all i j)) ≡ false = ap (λ n. nat_lt 120000 n) (length-swap all i j) ∙ few.0 in
      let legal_now : first_fault ship at 1 (swap all i j) ≡ None = ap (first_fault ship at 1) (sym is) ∙ no_fault ship at 1 (exchanged op i j all) both.0 in
      (λ k. if as_short k then Some too_many else legal_now k, ap (steps_of ship at) (sym is) ∙ both.1 ∙ steps)

  pub exchanged_legal : (ops now : List Op) (i j : ℕ) → i < j → j < length ops → AreExchangeable ops i j → now ≡ swap ops i j
      → sequence_fault ship at ops ≡ None → sequence_fault ship at now ≡ None
  exchanged_legal ops now i j order within free is legal = ap (sequence_fault ship at) is ∙ (both_exchanged ops i j order within free legal).0

  pub exchanged_steps : (ops now : List Op) (old steps : List Step) (i j : ℕ) → i < j → j < length ops → AreExchangeable ops i j → now ≡ swap ops i j
      → steps ≡ swap old i j → sequence_fault ship at ops ≡ None → old ≡ steps_of ship at ops → steps ≡ steps_of ship at now
  exchanged_steps ops now old steps i j order within free is are legal done =
      are ∙ ap (λ xs. swap xs i j) done ∙ sym (both_exchanged ops i j order within free legal).1 ∙ ap (steps_of ship at) (sym is)

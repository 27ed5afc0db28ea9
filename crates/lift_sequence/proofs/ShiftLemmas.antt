-- A step that is independent of all steps that it passes can be moved past them.
use Rattle.std.proofs.Common.{◌≡◌, ℕ, zero, suc, ◌+◌, ◌<◌, ◌≤◌, List, [], ◌∷◌, length, get_or, None, Some, Bool, true, false, nat_le, nat_lt, refl, sym, ap, ◌∙◌, subst, arith}
use Rattle.std.specs.Prelude.{if◌then◌else◌}
use Rattle.std.specs.List.{insert, remove, swap}
use Rattle.std.proofs.lemmas.List.Edits.{get_or-insert_at, get_or-remove_below, length-insert, length-remove, swap_is}
use Rattle.std.proofs.lemmas.Option.{slice_get-get_or}
use Rattle.ship_profile.specs.Record.{ProfileRecord}
use Rattle.lift_sequence.specs.declared.faults.SeqCode.TheVariants.{TooManySteps}
use Rattle.lift_sequence.specs.declared.faults.SeqFault.{SeqFault}
use Rattle.lift_sequence.specs.declared.operations.Op.{Op}
use Rattle.units_core.specs.declared.steps.Step.{Step}
use Rattle.lift_sequence.specs.Aboard.{Aboard, after_step}
use Rattle.lift_sequence.specs.Arrival.{fault_at}
use Rattle.lift_sequence.specs.Bodies.{step_of, steps_of}
use Rattle.lift_sequence.specs.Independent.{AreIndependent, CanPass, moved, put_in}
use Rattle.lift_sequence.specs.Sequence.{first_fault, sequence_fault}
use Rattle.lift_sequence.proofs.ExchangeLemmas.{CanBeDone, can_be_done, exchanged, flip_done, independent_there, no_fault}
use Rattle.lift_sequence.proofs.FollowLemmas.{none_of_both}
use Rattle.lift_sequence.proofs.IndependentLemmas.{passes, turned}
use Rattle.lift_sequence.proofs.States.{as_many}

-- an element that changes places with its neighbour goes on by one
module _ {X : Type 0} (d : X) where
  on_by_one : (ys : List X) (k : ℕ) (x : X) → k < length ys → exchanged d k (suc k) (insert ys k x) ≡ insert ys (suc k) x
  on_by_one [] k x within = absurd (omega arith)
  on_by_one (y ∷ ys) zero x within = refl
  on_by_one (y ∷ ys) (suc k) x within = let rest = on_by_one ys k x (omega arith) in λ i. y ∷ rest i

  back_by_one : (ys : List X) (k : ℕ) (x : X) → k < length ys → exchanged d k (suc k) (insert ys (suc k) x) ≡ insert ys k x
  back_by_one [] k x within = absurd (omega arith)
  back_by_one (y ∷ ys) zero x within = refl
  back_by_one (y ∷ ys) (suc k) x within = let rest = back_by_one ys k x (omega arith) in λ i. y ∷ rest i

  in_again : (xs : List X) (i : ℕ) → i < length xs → insert (remove xs i) i (get_or xs i d) ≡ xs
  in_again [] i within = absurd (omega arith)
  in_again (x ∷ xs) zero within = refl
  in_again (x ∷ xs) (suc i) within = let rest = in_again xs i (omega arith) in λ j. x ∷ rest j

  out_again : (xs : List X) (i : ℕ) (x : X) → i ≤ length xs → remove (insert xs i x) i ≡ xs
  out_again xs zero x within = refl
  out_again [] (suc i) x within = absurd (omega arith)
  out_again (y ∷ xs) (suc i) x within = let rest = out_again xs i x (omega arith) in λ j. y ∷ rest j

  pub moved_is : (xs : List X) (i j : ℕ) → i < length xs → moved xs i j ≡ insert (remove xs i) j (get_or xs i d)
  moved_is xs i j within = ap (put_in (remove xs i) j) (slice_get-get_or xs i d within)

  forth_one : (xs : List X) (i k : ℕ) → i < length xs → suc k < length xs → swap (moved xs i k) k (suc k) ≡ moved xs i (suc k)
  forth_one xs i k low high =
      let x : X = get_or xs i d in
      let ys : List X = remove xs i in
      let long : length ys + 1 ≡ length xs = length-remove xs i low in
      let longer : length (insert ys k x) ≡ length ys + 1 = length-insert ys k x (omega arith) in
      ap (λ zs. swap zs k (suc k)) (moved_is xs i k low) ∙ sym (swap_is (insert ys k x) k (suc k) d (omega arith) (omega arith))
      ∙ on_by_one ys k x (omega arith) ∙ sym (moved_is xs i (suc k) low)

  back_one : (xs : List X) (i k : ℕ) → i < length xs → suc k < length xs → swap (moved xs i (suc k)) k (suc k) ≡ moved xs i k
  back_one xs i k low high =
      let x : X = get_or xs i d in
      let ys : List X = remove xs i in
      let long : length ys + 1 ≡ length xs = length-remove xs i low in
      let longer : length (insert ys (suc k) x) ≡ length ys + 1 = length-insert ys (suc k) x (omega arith) in
      ap (λ zs. swap zs k (suc k)) (moved_is xs i (suc k) low) ∙ sym (swap_is (insert ys (suc k) x) k (suc k) d (omega arith) (omega arith))
      ∙ back_by_one ys k x (omega arith) ∙ sym (moved_is xs i k low)

module _ {X : Type 0} where
  pub moved_here : (xs : List X) (i : ℕ) → i < length xs → moved xs i i ≡ xs
  moved_here [] i within = absurd (omega arith)
  moved_here (x ∷ xs) i within = moved_is x (x ∷ xs) i i within ∙ in_again x (x ∷ xs) i within

  pub moved_on : (xs now next : List X) (i k : ℕ) → i < length xs → k + 1 < length xs → now ≡ moved xs i k → next ≡ swap now k (k + 1) → next ≡ moved xs i (k + 1)
  moved_on [] now next i k low high is turns = absurd (omega arith)
  moved_on (x ∷ xs) now next i k low high is turns =
      let same : k + 1 ≡ suc k = omega arith in
      turns ∙ (λ j. swap (is j) k (same j)) ∙ forth_one x (x ∷ xs) i k low (omega arith) ∙ ap (moved (x ∷ xs) i) (sym same)

  pub moved_back : (xs now next : List X) (i k n : ℕ) → i < length xs → k < length xs → k ≡ n + 1 → now ≡ moved xs i k → next ≡ swap now n (n + 1) → next ≡ moved xs i n
  moved_back [] now next i k n low high above is turns = absurd (omega arith)
  moved_back (x ∷ xs) now next i k n low high above is turns =
      let same : n + 1 ≡ suc n = omega arith in
      let was : k ≡ suc n = above ∙ same in
      turns ∙ (λ j. swap ((is ∙ ap (moved (x ∷ xs) i) was) j) n (same j)) ∙ back_one x (x ∷ xs) i n low (omega arith)

module _ (ship : ProfileRecord) (d : Op) (e : Step) where
  abbrev IsFree : Op → List Op → ℕ → Type 0
  IsFree x ms k = (t : ℕ) → t < k → AreIndependent x (get_or ms t d)

  further : (x m : Op) (ms : List Op) (k : ℕ) → IsFree x (m ∷ ms) (suc k) → IsFree x ms k
  further x m ms k free = λ t below. free (suc t) (omega arith)

  pass_steps : (at : Aboard) (x : Op) (ms : List Op) (k : ℕ) → k ≤ length ms → IsFree x ms k
      → steps_of ship at (insert ms k x) ≡ insert (steps_of ship (after_step ship at x) ms) k (step_of ship at x)
  pass_steps at x ms zero within free = refl
  pass_steps at x [] (suc k) within free = absurd (omega arith)
  pass_steps at x (m ∷ ms) (suc k) within free =
      let first = free zero (omega arith) in
      let forth = passes ship x m at first in
      let back = passes ship m x at (turned x m first) in
      let rest = pass_steps (after_step ship at m) x ms k (omega arith) (further x m ms k free) in
      λ i. sym forth.step i ∷ (rest ∙ (λ j. insert (steps_of ship (back.state j) ms) k (back.step j))) i

  pass_forth : (at : Aboard) (x : Op) (ms : List Op) (k : ℕ) → k ≤ length ms → IsFree x ms k → CanBeDone ship at (x ∷ ms) → CanBeDone ship at (insert ms k x)
  pass_forth at x ms zero within free done = done
  pass_forth at x [] (suc k) within free done = absurd (omega arith)
  pass_forth at x (m ∷ ms) (suc k) within free done =
      let flipped = flip_done ship x m at (free zero (omega arith)) ms done in
      (flipped.0, pass_forth (after_step ship at m) x ms k (omega arith) (further x m ms k free) flipped.1)

  pass_back : (at : Aboard) (x : Op) (ms : List Op) (k : ℕ) → k ≤ length ms → IsFree x ms k → CanBeDone ship at (insert ms k x) → CanBeDone ship at (x ∷ ms)
  pass_back at x ms zero within free done = done
  pass_back at x [] (suc k) within free done = absurd (omega arith)
  pass_back at x (m ∷ ms) (suc k) within free done =
      flip_done ship m x at (turned x m (free zero (omega arith))) ms (done.0, pass_back (after_step ship at m) x ms k (omega arith) (further x m ms k free) done.1)

  move_forth : (at : Aboard) (ops : List Op) (i j : ℕ) → i ≤ j → j < length ops → ((t : ℕ) → i < t → t ≤ j → AreIndependent (get_or ops i d) (get_or ops t d))
      → CanBeDone ship at ops → CanBeDone ship at (insert (remove ops i) j (get_or ops i d))
      × (steps_of ship at (insert (remove ops i) j (get_or ops i d)) ≡ insert (remove (steps_of ship at ops) i) j (get_or (steps_of ship at ops) i e))
  move_forth at [] i j order within free done = absurd (omega arith)
  move_forth at (op ∷ ops) zero j order within free done =
      let passed : IsFree op ops j = λ t below. free (suc t) (omega arith) (omega arith) in
      (pass_forth at op ops j (omega arith) passed done, pass_steps at op ops j (omega arith) passed)
  move_forth at (op ∷ ops) (suc i) zero order within free done = absurd (omega arith)
  move_forth at (op ∷ ops) (suc i) (suc j) order within free done =
      let rest = move_forth (after_step ship at op) ops i j (omega arith) (omega arith) (λ t above below. free (suc t) (omega arith) (omega arith)) done.1 in
      ((done.0, rest.0), λ k. step_of ship at op ∷ rest.1 k)

  move_back : (at : Aboard) (ops : List Op) (i j : ℕ) → j ≤ i → i < length ops → ((t : ℕ) → j ≤ t → t < i → AreIndependent (get_or ops i d) (get_or ops t d))
      → CanBeDone ship at ops → CanBeDone ship at (insert (remove ops i) j (get_or ops i d))
      × (steps_of ship at (insert (remove ops i) j (get_or ops i d)) ≡ insert (remove (steps_of ship at ops) i) j (get_or (steps_of ship at ops) i e))
  move_back at [] i j order within free done = absurd (omega arith)
  move_back at (op ∷ ops) i zero order within free done =
      let all : List Op = op ∷ ops in
      let x : Op = get_or all i d in
      let ms : List Op = remove all i in
      let again : insert ms i x ≡ all = in_again d all i within in
      let long : length ms + 1 ≡ length all = length-remove all i within in
      let passed : IsFree x ms i = λ t below. subst (λ m. AreIndependent x m) (sym (get_or-remove_below all i d t below within)) (free t (omega arith) below) in
      let rest : List Step = steps_of ship (after_step ship at x) ms in
      let short : i ≤ length rest = omega (arith, as_many ship (after_step ship at x) ms) in
      let steps : steps_of ship at all ≡ insert rest i (step_of ship at x) = ap (steps_of ship at) (sym again) ∙ pass_steps at x ms i (omega arith) passed in (
        pass_back at x ms i (omega arith) passed (subst (λ l. CanBeDone ship at l) (sym again) done),
        sym ((λ k. get_or (steps k) i e ∷ remove (steps k) i)
            ∙ (λ k. get_or-insert_at rest i (step_of ship at x) e short k ∷ out_again e rest i (step_of ship at x) short k)),
      )
  move_back at (op ∷ ops) zero (suc j) order within free done = absurd (omega arith)
  move_back at (op ∷ ops) (suc i) (suc j) order within free done =
      let rest = move_back (after_step ship at op) ops i j (omega arith) (omega arith) (λ t above below. free (suc t) (omega arith) (omega arith)) done.1 in
      ((done.0, rest.0), λ k. step_of ship at op ∷ rest.1 k)

module _ (ship : ProfileRecord) (at : Aboard) where
  both_ways : (d : Op) (e : Step) (ops : List Op) (i j : ℕ) → i < length ops → j < length ops → CanPass ops i j → CanBeDone ship at ops
      → CanBeDone ship at (insert (remove ops i) j (get_or ops i d))
      × (steps_of ship at (insert (remove ops i) j (get_or ops i d)) ≡ insert (remove (steps_of ship at ops) i) j (get_or (steps_of ship at ops) i e))
  both_ways d e ops i j low high free done = by_order (nat_le i j) refl where
    by_order : (b : Bool) → nat_le i j ≡ b → CanBeDone ship at (insert (remove ops i) j (get_or ops i d))
        × (steps_of ship at (insert (remove ops i) j (get_or ops i d)) ≡ insert (remove (steps_of ship at ops) i) j (get_or (steps_of ship at ops) i e))
    by_order true o = move_forth ship d e at ops i j (grind (arith, o)) high
        (λ t above below. independent_there ops i t d low (omega arith) (free.forth t above below)) done
    by_order false o = move_back ship d e at ops i j (grind (arith, o)) low
        (λ t above below. independent_there ops i t d low (omega arith) (free.back t above below)) done

  both_moved : (ops : List Op) (i j : ℕ) → i < length ops → j < length ops → CanPass ops i j → sequence_fault ship at ops ≡ None
      → (sequence_fault ship at (moved ops i j) ≡ None) × (steps_of ship at (moved ops i j) ≡ moved (steps_of ship at ops) i j)
  both_moved [] i j low high free legal = absurd (omega arith)
  both_moved (op ∷ ops) i j low high free legal =
      let all : List Op = op ∷ ops in
      let none : Step = step_of ship at op in
      let too_many : SeqFault = fault_at 120001 TooManySteps in
      let few = none_of_both (nat_lt 120000 (length all)) too_many (first_fault ship at 1 all) legal in
      let is = moved_is op all i j low in
      let now : List Op = insert (remove all i) j (get_or all i op) in
      let steps = moved_is none (steps_of ship at all) i j (omega (arith, as_many ship at all)) in
      let both = both_ways op none all i j low high free (can_be_done ship at 1 all few.1) in
      let shorter : length (remove all i) + 1 ≡ length all = length-remove all i low in
      let longer : length now ≡ length (remove all i) + 1 = length-insert (remove all i) j (get_or all i op) (omega arith) in
      let as_short : nat_lt 120000 (length now) ≡ false = ap (λ n. nat_lt 120000 n) (longer ∙ shorter) ∙ few.0 in
      let legal_now : first_fault ship at 1 now ≡ None = no_fault ship at 1 now both.0 in
      (ap (sequence_fault ship at) is ∙ (λ k. if as_short k then Some too_many else legal_now k), ap (steps_of ship at) is ∙ both.1 ∙ sym steps)

  pub moved_legal : (ops now : List Op) (i j : ℕ) → i < length ops → j < length ops → CanPass ops i j → now ≡ moved ops i j
      → sequence_fault ship at ops ≡ None → sequence_fault ship at now ≡ None
  moved_legal ops now i j low high free is legal = ap (sequence_fault ship at) is ∙ (both_moved ops i j low high free legal).0

  pub moved_steps : (ops now : List Op) (old steps : List Step) (i j : ℕ) → i < length ops → j < length ops → CanPass ops i j → now ≡ moved ops i j
      → steps ≡ moved old i j → sequence_fault ship at ops ≡ None → old ≡ steps_of ship at ops → steps ≡ steps_of ship at now
  moved_steps ops now old steps i j low high free is are legal done =
      are ∙ ap (λ xs. moved xs i j) done ∙ sym (both_moved ops i j low high free legal).1 ∙ ap (steps_of ship at) (sym is)

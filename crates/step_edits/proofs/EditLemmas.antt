-- An edit and then its inverse.
use Rattle.std.proofs.Common.{◌≡◌, ◌≢◌, ℕ, zero, suc, ◌+◌, ◌<◌, ◌≤◌, List, [], ◌∷◌, length, set, get_or, Option, None, Some, Bool, true, false, nat_eq, nat_le, ◌&&◌, eqb-true, refl, sym, ap, ◌∙◌, subst, arith}
use Rattle.std.specs.Prelude.{slice_get, option_map}
use Rattle.std.specs.List.{swap, insert, remove}
use Rattle.std.proofs.lemmas.Bool.{eqb-false, leb-true, le-leb, and_parts, and_from}
use Rattle.std.proofs.lemmas.List.{length-set, set-set, set_comm, set-get_or, get_or-set_same, get_or-set_other, get_or_default}
use Rattle.std.proofs.lemmas.List.Edits.{length-insert, length-remove, length-swap}
use Rattle.std.proofs.lemmas.Option.{none-some, same_Some, slice_get_within}
use Rattle.stow_messages.specs.declared.lifts.Lift.TheVariants.{Load}
use Rattle.lift_sequence.specs.declared.operations.Op as operation
use Rattle.lift_sequence.specs.declared.operations.Op.TheVariants.{Lift}
use Rattle.lift_sequence.specs.Follow.{reweighed, with_step}
use Rattle.step_edits.specs.declared.edits.Edit.{Edit}
use Rattle.step_edits.specs.declared.edits.Edit.TheVariants.{Swap, Move, Remove, Insert, Reweigh}
use Rattle.step_edits.specs.declared.faults.EditFault.TheVariants.{NoStep, NotLoad}
use Rattle.step_edits.specs.Edits.{CanBeDone, IsNumber, TakesBack, edit_fault, edited, is_number, moved_to, number_fault, place_of, put_back, step_at, weigh_back, weigh_fault}

module _ {X : Type 0} where
  -- two places swapped, and once more
  swap_is : (xs : List X) (i j : ℕ) (d : X) → i < length xs → j < length xs → swap xs i j ≡ set (set xs i (get_or xs j d)) j (get_or xs i d)
  swap_is [] i j d h k = refl
  swap_is (x ∷ xs) i j d h k = λ t. set (set (x ∷ xs) i (get_or_default (x ∷ xs) j x d k t)) j (get_or_default (x ∷ xs) i x d h t)

  swap_itself : (xs : List X) (i : ℕ) → i < length xs → swap xs i i ≡ xs
  swap_itself [] i h = refl
  swap_itself (d ∷ ds) i h = set-set (d ∷ ds) i (get_or (d ∷ ds) i d) (get_or (d ∷ ds) i d) ∙ set-get_or (d ∷ ds) i d

  swap_others : (xs : List X) (i j : ℕ) (d : X) → i < length xs → j < length xs → i ≢ j → swap (swap xs i j) i j ≡ xs
  swap_others xs i j d h k apart =
      let x : X = get_or xs i d in
      let y : X = get_or xs j d in
      let once : List X = set (set xs i y) j x in
      let long : length once ≡ length xs = length-set (set xs i y) j x ∙ length-set xs i y in
      let at_i : get_or once i d ≡ y = get_or-set_other (set xs i y) j i x d apart ∙ get_or-set_same xs i y d h in
      let at_j : get_or once j d ≡ x = get_or-set_same (set xs i y) j x d (omega (arith, length-set xs i y, k)) in
      ap (λ l. swap l i j) (swap_is xs i j d h k)
      ∙ swap_is once i j d (omega (arith, long, h)) (omega (arith, long, k))
      ∙ (λ t. set (set once i (at_j t)) j (at_i t))
      ∙ ap (λ l. set l j y) (sym (set_comm (set xs i y) i j x x apart) ∙ ap (λ l. set l j x) (set-set xs i y x ∙ set-get_or xs i d))
      ∙ set-set xs j x y ∙ set-get_or xs j d

  pub swap_twice : (xs : List X) (i j : ℕ) → i < length xs → j < length xs → swap (swap xs i j) i j ≡ xs
  swap_twice [] i j h k = refl
  swap_twice (d ∷ ds) i j h k = by_test (nat_eq i j) refl where
    by_test : (b : Bool) → nat_eq i j ≡ b → swap (swap (d ∷ ds) i j) i j ≡ d ∷ ds
    by_test true e = subst (λ q. swap (swap (d ∷ ds) i q) i q ≡ d ∷ ds) (eqb-true i j e)
        (ap (λ l. swap l i i) (swap_itself (d ∷ ds) i h) ∙ swap_itself (d ∷ ds) i h)
    by_test false e = swap_others (d ∷ ds) i j d h k (eqb-false i j e)

  -- what is put in and taken out, and what is taken out and put in
  pub insert_and_remove : (xs : List X) (i : ℕ) (x : X) → i ≤ length xs → remove (insert xs i x) i ≡ xs
  insert_and_remove xs zero x h = refl
  insert_and_remove [] (suc i) x h = absurd (omega (arith, h))
  insert_and_remove (y ∷ ys) (suc i) x h = ap (λ l. y ∷ l) (insert_and_remove ys i x (omega (arith, h)))

  pub remove_and_insert : (xs : List X) (i : ℕ) (x : X) → slice_get xs i ≡ Some x → insert (remove xs i) i x ≡ xs
  remove_and_insert [] i x h = absurd (none-some x h)
  remove_and_insert (y ∷ ys) zero x h = ap (λ z. z ∷ ys) (sym (same_Some y x h))
  remove_and_insert (y ∷ ys) (suc i) x h = ap (λ l. y ∷ l) (remove_and_insert ys i x h)

  pub inserted_at : (xs : List X) (i : ℕ) (x : X) → i ≤ length xs → slice_get (insert xs i x) i ≡ Some x
  inserted_at xs zero x h = refl
  inserted_at [] (suc i) x h = absurd (omega (arith, h))
  inserted_at (y ∷ ys) (suc i) x h = inserted_at ys i x (omega (arith, h))

  -- what is set, and set to what it was
  pub set_at_place : (xs : List X) (i : ℕ) (x y : X) → slice_get xs i ≡ Some y → slice_get (set xs i x) i ≡ Some x
  set_at_place [] i x y h = absurd (none-some y h)
  set_at_place (z ∷ zs) zero x y h = refl
  set_at_place (z ∷ zs) (suc i) x y h = set_at_place zs i x y h

  pub set_back : (xs : List X) (i : ℕ) (x y : X) → slice_get xs i ≡ Some y → set (set xs i x) i y ≡ xs
  set_back [] i x y h = refl
  set_back (z ∷ zs) zero x y h = ap (λ w. w ∷ zs) (sym (same_Some z y h))
  set_back (z ∷ zs) (suc i) x y h = ap (λ l. z ∷ l) (set_back zs i x y h)

  pub stands_there : (xs : List X) (i : ℕ) → i < length xs → (x : X) × (slice_get xs i ≡ Some x)
  stands_there [] i h = absurd (omega (arith, h))
  stands_there (x ∷ xs) zero h = (x, refl)
  stands_there (x ∷ xs) (suc i) h = stands_there xs i (omega (arith, h))

-- numbers and places
pub place_is : (n number : ℕ) → n + 1 ≡ number → n ≡ place_of number
place_is n zero h = absurd (omega (arith, h))
place_is n (suc i) h = omega (arith, h)

in_place : (count number : ℕ) → IsNumber count number → place_of number < count
in_place count zero h = absurd (omega (arith, h.0))
in_place count (suc i) h = omega (arith, h.1)

passed : (b : Bool) → number_fault b ≡ None → b ≡ true
passed true h = refl
passed false h = absurd (none-some NoStep (sym h))

passes : (b : Bool) → b ≡ true → number_fault b ≡ None
passes b e = rw e refl

number_in : (count number : ℕ) → is_number count number ≡ true → IsNumber count number
number_in count number h = let both = and_parts (nat_le 1 number) (nat_le number count) h in (leb-true 1 number both.0, leb-true number count both.1)

number_is : (count number : ℕ) → IsNumber count number → is_number count number ≡ true
number_is count number h = and_from (nat_le 1 number) (nat_le number count) (le-leb 1 number h.0) (le-leb number count h.1)

one_number : (count number : ℕ) → number_fault (is_number count number) ≡ None → IsNumber count number
one_number count number h = number_in count number (passed (is_number count number) h)

two_numbers : (count a b : ℕ) → number_fault (is_number count a && is_number count b) ≡ None → IsNumber count a × IsNumber count b
two_numbers count a b h =
    let both = and_parts (is_number count a) (is_number count b) (passed (is_number count a && is_number count b) h) in
    (number_in count a both.0, number_in count b both.1)

no_fault_of_one : (count number : ℕ) → IsNumber count number → number_fault (is_number count number) ≡ None
no_fault_of_one count number h = passes (is_number count number) (number_is count number h)

no_fault_of_two : (count a b : ℕ) → IsNumber count a → IsNumber count b → number_fault (is_number count a && is_number count b) ≡ None
no_fault_of_two count a b h k = passes (is_number count a && is_number count b) (and_from (is_number count a) (is_number count b) (number_is count a h) (number_is count b k))

weighed_number : (ops : List operation.Op) (number : ℕ) → weigh_fault (step_at ops number) ≡ None → IsNumber (length ops) number
weighed_number ops zero h = absurd (none-some NoStep (sym h))
weighed_number ops (suc i) h = (omega arith, by_step (slice_get ops i) refl h) where
  by_step : (o : Option operation.Op) → slice_get ops i ≡ o → weigh_fault o ≡ None → suc i ≤ length ops
  by_step None e k = absurd (none-some NoStep (sym k))
  by_step (Some op) e k = omega (arith, slice_get_within ops i op e)

-- an edit without a fault can be done
pub can_be_done : (ops : List operation.Op) (edit : Edit) → edit_fault ops edit ≡ None → CanBeDone ops edit
can_be_done ops (Swap a b) h = two_numbers (length ops) a b h
can_be_done ops (Move from to) h = two_numbers (length ops) from to h
can_be_done ops (Remove at) h = one_number (length ops) at h
can_be_done ops (Insert at op) h = one_number (length ops + 1) at h
can_be_done ops (Reweigh at kg) h = weighed_number ops at h

-- an edit can be taken back, and is
abbrev IsTakenBack : List operation.Op → List operation.Op → Edit → Type 0
IsTakenBack ops after back = (edit_fault after back ≡ None) × (edited after back ≡ ops)

swap_back : (ops : List operation.Op) (a b : ℕ) → IsNumber (length ops) a → IsNumber (length ops) b → IsTakenBack ops (swap ops (place_of a) (place_of b)) (Swap a b)
swap_back ops a b h k =
    let long = length-swap ops (place_of a) (place_of b) in (
      subst (λ n. number_fault (is_number n a && is_number n b) ≡ None) (sym long) (no_fault_of_two (length ops) a b h k),
      swap_twice ops (place_of a) (place_of b) (in_place (length ops) a h) (in_place (length ops) b k),
    )

move_back : (ops : List operation.Op) (i j : ℕ) (o : Option operation.Op) → slice_get ops i ≡ o → i < length ops → j < length ops
    → IsTakenBack ops (moved_to ops o i j) (Move (suc j) (suc i))
move_back ops i j None e h k = let there = stands_there ops i h in absurd (none-some there.0 (sym e ∙ there.1))
move_back ops i j (Some op) e h k =
    let less = length-remove ops i h in
    let inside : j ≤ length (remove ops i) = omega (arith, less, k) in
    let long : length (insert (remove ops i) j op) ≡ length ops = omega (arith, less, length-insert (remove ops i) j op inside) in (
      no_fault_of_two (length (insert (remove ops i) j op)) (suc j) (suc i) (omega arith, omega (arith, long, k)) (omega arith, omega (arith, long, h)),
      ap (λ o. moved_to (insert (remove ops i) j op) o j i) (inserted_at (remove ops i) j op inside)
          ∙ ap (λ l. insert l i op) (insert_and_remove (remove ops i) j op inside) ∙ remove_and_insert ops i op e,
    )

remove_back : (ops : List operation.Op) (i : ℕ) (o : Option operation.Op) → slice_get ops i ≡ o → i < length ops → IsTakenBack ops (remove ops i) (put_back (suc i) o)
remove_back ops i None e h = let there = stands_there ops i h in absurd (none-some there.0 (sym e ∙ there.1))
remove_back ops i (Some op) e h =
    (no_fault_of_one (length (remove ops i) + 1) (suc i) (omega arith, omega (arith, length-remove ops i h, h)), remove_and_insert ops i op e)

insert_back : (ops : List operation.Op) (i : ℕ) (op : operation.Op) → i ≤ length ops → IsTakenBack ops (insert ops i op) (Remove (suc i))
insert_back ops i op h =
    (no_fault_of_one (length (insert ops i op)) (suc i) (omega arith, omega (arith, length-insert ops i op h, h)), insert_and_remove ops i op h)

reweigh_back : (ops : List operation.Op) (i kg : ℕ) (o : Option operation.Op) → slice_get ops i ≡ o → weigh_fault o ≡ None
    → IsTakenBack ops (with_step ops i (option_map (reweighed kg) o)) (weigh_back (suc i) kg o)
reweigh_back ops i kg None e h = absurd (none-some NoStep (sym h))
reweigh_back ops i kg (Some (Lift (Load item))) e h =
    let load : operation.Op = Lift (Load item) in
    let now = set_at_place ops i (reweighed kg load) load e in
    (ap weigh_fault now, ap (λ o. with_step (set ops i (reweighed kg load)) i (option_map (reweighed item.kg) o)) now ∙ set_back ops i (reweighed kg load) load e)
reweigh_back ops i kg (Some op) e h = absurd (none-some NotLoad (sym h))

pub takes_back : TakesBack
takes_back ops (Swap a b) h = let can = can_be_done ops (Swap a b) h in swap_back ops a b can.0 can.1
takes_back ops (Move zero to) h = absurd (none-some NoStep (sym h))
takes_back ops (Move (suc i) zero) h = absurd (omega (arith, (can_be_done ops (Move (suc i) zero) h).1.0))
takes_back ops (Move (suc i) (suc j)) h =
    let can = can_be_done ops (Move (suc i) (suc j)) h in
    move_back ops i j (slice_get ops i) refl (omega (arith, can.0.1)) (omega (arith, can.1.1))
takes_back ops (Remove zero) h = absurd (none-some NoStep (sym h))
takes_back ops (Remove (suc i)) h = remove_back ops i (slice_get ops i) refl (omega (arith, (can_be_done ops (Remove (suc i)) h).1))
takes_back ops (Insert zero op) h = absurd (none-some NoStep (sym h))
takes_back ops (Insert (suc i) op) h = insert_back ops i op (omega (arith, (can_be_done ops (Insert (suc i) op) h).1))
takes_back ops (Reweigh zero kg) h = absurd (none-some NoStep (sym h))
takes_back ops (Reweigh (suc i) kg) h = reweigh_back ops i kg (slice_get ops i) refl h

-- Lists that grow at their end.
use Rattle.std.proofs.Common.{◌≡◌, ℕ, zero, suc, ◌+◌, ◌-◌, ◌<◌, ◌≤◌, ◌||◌, nat_lt, nat_eq, Bool, true, false, ℤ, pos, neg_ℤ, ◌≤ℤ◌, ◌<ℤ◌, unsigned_abs, List, [], ◌∷◌, ◌++◌, length, map, All, Contains, length-append, Some, option_map, refl, arith, inl, inr}
use Rattle.std.proofs.lemmas.Bool.{cases_Bool}
use Rattle.std.proofs.lemmas.Bool.Decides.{nat_tests, Decides-int_eq}
use Rattle.std.proofs.lemmas.Int.{ints}
use Rattle.std.proofs.Math.Seq.{get_or-append_seam}
use Rattle.std.proofs.Math.ListN.{get_or-append}
use Rattle.std.specs.Bool.{⊤}
use Rattle.std.specs.List.{list_any, AllByRecursion, IsDistinct}
use Rattle.std.specs.Ordering.{int_eq}
use Rattle.units_core.specs.Interpolation.{at, IsRising, IsWithin}
use Rattle.ship_profile.specs.Ship.{is_above, last_of, is_one_of}

pub each_at : {X : Type 0} (P : X → Type 0) (xs : List X) → AllByRecursion P xs → All P xs
each_at P [] h k d inside = absurd (omega arith)
each_at P (x ∷ xs) h zero d inside = h.0
each_at P (x ∷ xs) h (suc k) d inside = each_at P xs h.1 k d (omega arith)

pub all_by : {X : Type 0} (P : X → Type 0) (xs : List X) → All P xs → AllByRecursion P xs
all_by P [] h = tt
all_by P (x ∷ xs) h = (h 0 x (omega arith), all_by P xs (λ k d inside. h (suc k) d (omega arith)))

pub all_of : {X : Type 0} (xs : List X) → AllByRecursion (λ x. ⊤) xs
all_of [] = tt
all_of (x ∷ xs) = (tt, all_of xs)

-- the last of some numbers, where there is one
last_at : (zs : List ℤ) → 0 < length zs → last_of zs ≡ Some (at zs (length zs - 1))
last_at [] h = absurd (omega arith)
last_at (z ∷ []) h = refl
last_at (z ∷ y ∷ zs) h =
    let one_less : suc (suc (length zs)) - 1 ≡ suc (suc (length zs) - 1) = omega arith in
    rw one_less (last_at (y ∷ zs) (omega arith))

above_last : (zs : List ℤ) (z : ℤ) → is_above (last_of zs) z ≡ true → 0 < length zs → at zs (length zs - 1) <ℤ z
above_last zs z h some = let test = rw (last_at zs some) at h in grind (arith, ints)

-- one more number above the last
pub rising-push : (zs : List ℤ) (z : ℤ) → IsRising zs → is_above (last_of zs) z ≡ true → IsRising (zs ++ z ∷ [])
rising-push zs z h last i inside =
    let len = length-append zs (z ∷ []) in
    let here : i < length zs = omega (arith, len) in
    let this = get_or-append zs (z ∷ []) (pos 0) i here in
    elim (cases_Bool (nat_lt (i + 1) (length zs))) [
      | inl before ↦
          let more : i + 1 < length zs = grind (arith, nat_tests) in
          rw (this, get_or-append zs (z ∷ []) (pos 0) (i + 1) more) (h i more)
      | inr other ↦
          let no : ¬ (i + 1 < length zs) = grind (arith, nat_tests) in
          let end : i + 1 ≡ length zs = omega (arith, no) in
          let at_last : i ≡ length zs - 1 = omega arith in
          rw (this, end, get_or-append_seam zs z [] (pos 0), at_last) (above_last zs z last (omega arith))
    ]

-- the last of what is read off some things
pub last-map : {A : Type 0} (f : A → ℤ) (xs : List A) → option_map f (last_of xs) ≡ last_of (map f xs)
last-map f [] = refl
last-map f (x ∷ []) = refl
last-map f (x ∷ y ∷ xs) =
    let one_less : suc (suc (length xs)) - 1 ≡ suc (suc (length xs) - 1) = omega arith in
    let mapped : suc (suc (length (map f xs))) - 1 ≡ suc (suc (length (map f xs)) - 1) = omega arith in
    rw (one_less, mapped) (last-map f (y ∷ xs))

-- a number that lies so far either way at most is of that size at most
pub size : (z : ℤ) (m : ℕ) → neg_ℤ (pos m) ≤ℤ z → z ≤ℤ pos m → unsigned_abs z ≤ m
size z m low high = omega (arith, ints)

pub sizes_within : (m : ℕ) (zs : List ℤ) → AllByRecursion (λ z. unsigned_abs z ≤ m) zs → IsWithin m zs
sizes_within m [] h k = omega arith
sizes_within m (z ∷ zs) h zero = h.0
sizes_within m (z ∷ zs) h (suc k) = sizes_within m zs h.1 k

or_parts : (x y : Bool) → (x || y) ≡ false → (x ≡ false) × (y ≡ false)
or_parts true y e = (e, cc)
or_parts false y e = (refl, e)

-- one of the numbers
pub one_of : (xs : List ℤ) (x : ℤ) → is_one_of xs x ≡ true → Contains xs x
one_of [] x e = cc
one_of (y ∷ ys) x e =
    elim (cases_Bool (int_eq y x)) [
      | inl same ↦ (0, omega arith, grind (arith, ints, Decides-int_eq, same))
      | inr other ↦ let rest = one_of ys x (rw other at e) in (suc rest.0, let inside = rest.1 in omega arith, rest.2)
    ]

nat_eq_sym : (a b : ℕ) → nat_eq a b ≡ false → nat_eq b a ≡ false
nat_eq_sym a b e = grind (arith, nat_tests)

-- one more number that wasn't there
pub distinct-push : {A : Type 0} (f : A → ℕ) (xs : List A) (x : A) → IsDistinct nat_eq (map f xs) → list_any (λ y. nat_eq (f y) (f x)) xs ≡ false → IsDistinct nat_eq (map f (xs ++ x ∷ []))
unfolding IsDistinct
distinct-push {A = A} f [] x h e = (tt, tt)
distinct-push {A = A} f (y ∷ ys) x h e =
    let parts = or_parts (nat_eq (f y) (f x)) (list_any (λ z. nat_eq (f z) (f x)) ys) e in
    (pushed ys h.0 parts.0, distinct-push f ys x h.1 parts.1)
  where
    pushed : (zs : List A) → AllByRecursion (λ z. nat_eq (f y) z ≡ false) (map f zs) → nat_eq (f y) (f x) ≡ false → AllByRecursion (λ z. nat_eq (f y) z ≡ false) (map f (zs ++ x ∷ []))
    pushed [] h e = (e, tt)
    pushed (z ∷ zs) h e = (h.0, pushed zs h.1 e)

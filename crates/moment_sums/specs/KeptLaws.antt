-- Bookkeeping: sums are a monoid: nothing added changes nothing, and sums may be grouped in any
-- way. A proof, which the impl of `Monoid` hands over.
use Rattle.std.specs.Prelude.{◌≡◌, ℕ, zero, suc, ◌+◌, ◌≤◌, ℤ, pos, ◌+ℤ◌, List, [], ◌∷◌, length}
use Rattle.std.specs.Prelude.{replicate, Bool, true, false, ◌&&◌, nat_eq, if◌then◌else◌, refl}
use Rattle.std.proofs.Common.{arith, ap, eqb-true}
use Rattle.std.proofs.lemmas.Int.{ints}
use Rattle.prefix_scan.specs.Laws.{MonoidLaws, most_parts}
use Rattle.moment_sums.specs.Kept.{Kept, added, both_kept, none_kept, size_of}

pub plus_nothing : (x : ℤ) → x +ℤ pos 0 ≡ x
plus_nothing x = omega (arith, ints)

pub nothing_plus : (x : ℤ) → pos 0 +ℤ x ≡ x
nothing_plus x = omega (arith, ints)

pub length-added : (n : ℕ) (xs ys : List ℤ) → length xs ≡ n → length ys ≡ n
    → length (added xs ys) ≡ n
length-added n [] ys a b = b
length-added n (x ∷ xs) [] a b = a
length-added zero (x ∷ xs) (y ∷ ys) a b = absurd (omega arith)
length-added (suc n) (x ∷ xs) (y ∷ ys) a b =
    ap suc (length-added n xs ys (omega arith) (omega arith))

pub added_zeros : (n : ℕ) (xs : List ℤ) → length xs ≡ n → added (replicate n (pos 0)) xs ≡ xs
added_zeros zero xs h = refl
added_zeros (suc n) [] h = absurd (omega arith)
added_zeros (suc n) (x ∷ xs) h = λ j. nothing_plus x j ∷ added_zeros n xs (omega arith) j

pub added_to_zeros : (n : ℕ) (xs : List ℤ) → length xs ≡ n → added xs (replicate n (pos 0)) ≡ xs
added_to_zeros zero [] h = refl
added_to_zeros zero (x ∷ xs) h = absurd (omega arith)
added_to_zeros (suc n) [] h = absurd (omega arith)
added_to_zeros (suc n) (x ∷ xs) h = λ j. plus_nothing x j ∷ added_to_zeros n xs (omega arith) j

plus_assoc : (x y z : ℤ) → (x +ℤ y) +ℤ z ≡ x +ℤ (y +ℤ z)
plus_assoc x y z = omega (arith, ints)

pub added_assoc : (xs ys zs : List ℤ) → added (added xs ys) zs ≡ added xs (added ys zs)
added_assoc [] ys zs = refl
added_assoc (x ∷ xs) [] zs = refl
added_assoc (x ∷ xs) (y ∷ ys) [] = refl
added_assoc (x ∷ xs) (y ∷ ys) (z ∷ zs) = λ j. plus_assoc x y z j ∷ added_assoc xs ys zs j

-- what is of no more parts than a sum can be has its places
pub record Placed (t : Kept) : Type 0 where
  pub weights : length t.weights_aft ≡ 16
  pub moments : length t.moments_aft ≡ 16
  pub size : size_of t ≡ t.parts

by_tests : (t : Kept) (a b : Bool) → nat_eq (length t.weights_aft) 16 ≡ a
    → nat_eq (length t.moments_aft) 16 ≡ b
    → (if a && b then t.parts else most_parts + 1) ≤ most_parts → Placed t
by_tests t true true p q h = record {
  weights = eqb-true (length t.weights_aft) 16 p;
  moments = eqb-true (length t.moments_aft) 16 q;
  size = λ i. if p i && q i then t.parts else most_parts + 1;
}
by_tests t true false p q h = absurd (omega arith)
by_tests t false b p q h = absurd (omega arith)

pub placed : (t : Kept) → size_of t ≤ most_parts → Placed t
placed t h =
    by_tests t (nat_eq (length t.weights_aft) 16) (nat_eq (length t.moments_aft) 16) refl refl h

sixteen : (n : ℕ) → n ≡ 16 → nat_eq n 16 ≡ true
sixteen n e = ap (λ m. nat_eq m 16) e

pub with_places : (t : Kept) → length t.weights_aft ≡ 16 → length t.moments_aft ≡ 16
    → size_of t ≡ t.parts
with_places t w m =
    λ i. if sixteen (length t.weights_aft) w i
    && sixteen (length t.moments_aft) m i then t.parts else most_parts + 1

both_size : (x y : Kept) → size_of x + size_of y ≤ most_parts
    → size_of (both_kept x y) ≡ size_of x + size_of y
both_size x y h =
    let a = placed x (omega arith) in
    let b = placed y (omega arith) in
    let all = with_places (both_kept x y)
    (length-added 16 x.weights_aft y.weights_aft a.weights b.weights)
    (length-added 16 x.moments_aft y.moments_aft a.moments b.moments) in
    omega (arith, all, a.size, b.size)

pub kept_laws : MonoidLaws most_parts none_kept both_kept size_of
kept_laws = record {
  left_identity = λ x h. let p = placed x h in λ i. record {
    kg = nothing_plus x.kg i;
    x = nothing_plus x.x i;
    y = nothing_plus x.y i;
    z = nothing_plus x.z i;
    fsm = nothing_plus x.fsm i;
    weights_aft = added_zeros 16 x.weights_aft p.weights i;
    moments_aft = added_zeros 16 x.moments_aft p.moments i;
    parts = zero_plus x.parts i;
  };
  right_identity = λ x h. let p = placed x h in λ i. record {
    kg = plus_nothing x.kg i;
    x = plus_nothing x.x i;
    y = plus_nothing x.y i;
    z = plus_nothing x.z i;
    fsm = plus_nothing x.fsm i;
    weights_aft = added_to_zeros 16 x.weights_aft p.weights i;
    moments_aft = added_to_zeros 16 x.moments_aft p.moments i;
    parts = plus_zero x.parts i;
  };
  assoc = λ x y z h. λ i. record {
    kg = plus_assoc x.kg y.kg z.kg i;
    x = plus_assoc x.x y.x z.x i;
    y = plus_assoc x.y y.y z.y i;
    z = plus_assoc x.z y.z z.z i;
    fsm = plus_assoc x.fsm y.fsm z.fsm i;
    weights_aft = added_assoc x.weights_aft y.weights_aft z.weights_aft i;
    moments_aft = added_assoc x.moments_aft y.moments_aft z.moments_aft i;
    parts = parts_assoc x.parts y.parts z.parts i;
  };
  empty_weight = refl;
  op_weight = both_size;
} where
  zero_plus : (n : ℕ) → 0 + n ≡ n
  zero_plus n = omega arith

  plus_zero : (n : ℕ) → n + 0 ≡ n
  plus_zero n = omega arith

  parts_assoc : (a b c : ℕ) → (a + b) + c ≡ a + (b + c)
  parts_assoc a b c = omega arith

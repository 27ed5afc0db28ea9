-- The lowest bit of a comparison's mask is the place of the first equal byte.
use Rattle.std.proofs.Common.{◌≡◌, ◌≢◌, ◌≤◌, ℕ, ◌%◌, ◌^◌, ◌==◌, List, Bool, true, false, cond, not, eqb, length, map, replicate, refl, arith, w8}
use Rattle.std.proofs.lemmas.Grind.{common_steps}
use Rattle.std.specs.List.{prefix_len}
use Rattle.std.specs.Simd.Lanes.{zip2, mask_l, top}
use Rattle.std.proofs.lemmas.Simd.{bitmask_splat, first_set_mask_l}
use lib.Count.{count_trailing_zeros}

abbrev pub mask_of : ℕ → List ℕ → ℕ → ℕ
mask_of n xs y = mask_l (map (top 7) (zip2 (λ a b. cond (eqb a b) 255 0) xs (replicate n y))) % 2 ^ 64

module _ (n : ℕ) (xs : List ℕ) (y : ℕ) (long : length xs ≡ n) (few : n ≤ 64) where
  mask_is : mask_of n xs y ≡ mask_l (map (λ x. eqb x y) xs)
  mask_is = bitmask_splat w8 eqb xs n y long (omega arith)

  first_is : (m : ℕ) → m ≡ mask_l (map (λ x. eqb x y) xs) → cond (eqb m 0) n (count_trailing_zeros 64 m) ≡ prefix_len (λ x. not (eqb x y)) xs
  first_is m e = rw e (first_set_mask_l (λ x. eqb x y) xs n long (omega arith))

  by_test : (m : ℕ) (b : Bool) → eqb m 0 ≡ b → cond (eqb m 0) n (count_trailing_zeros 64 m) ≡ prefix_len (λ x. not (eqb x y)) xs →
      (m ≡ 0 → n ≡ prefix_len (λ x. not (eqb x y)) xs) × (m ≢ 0 → count_trailing_zeros 64 m ≡ prefix_len (λ x. not (eqb x y)) xs)
  by_test m true e h =
      let z : m ≡ 0 = grind (arith, common_steps, e) in
      ((λ _. rw e at h), (λ off. absurd (off z)))
  by_test m false e h = ((λ z. let no : eqb m 0 ≡ true = rw z refl in cc), (λ _. rw e at h))

  pub none_seen : mask_of n xs y ≡ 0 → n ≡ prefix_len (λ x. not (x == y)) xs
  none_seen = (by_test (mask_of n xs y) _ refl (first_is (mask_of n xs y) mask_is)).0

  pub one_seen : mask_of n xs y ≢ 0 → count_trailing_zeros 64 (mask_of n xs y) ≡ prefix_len (λ x. not (x == y)) xs
  one_seen = (by_test (mask_of n xs y) _ refl (first_is (mask_of n xs y) mask_is)).1

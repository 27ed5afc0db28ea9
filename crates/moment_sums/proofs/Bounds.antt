-- Bounds of sums, and the values of what is kept.
use Rattle.std.proofs.Common.{◌≡◌, ◌≢◌, ◌∙◌, ℕ, zero, suc, ◌+◌, ◌*◌, ◌^◌, ◌<◌, ◌≤◌, inl, inr, List, length, get_or, set, get_or-set_same, get_or-set_other, below_more, replicate, ℤ, pos, ◌+ℤ◌, neg_ℤ, unsigned_abs, refl, sym, ap, subst, arith, to_z, of_z, to_z-of_z, FitsSigned}
use Rattle.std.proofs.lemmas.Bool.{cases_eq}
use Rattle.std.specs.Int.{w128}
use Rattle.units_core.specs.Interpolation.{at, IsWithin}
use Rattle.units_core.proofs.Signed.{signed_arith, one_part, sum_within}
use Rattle.moment_sums.specs.Sum.{Column, Weight, MomentX, MomentY, MomentZ, Surface, WeightAft, MomentAft, joined, negated, nothing}
use Rattle.prefix_scan.specs.Laws.{most_parts}
use Rattle.moment_sums.specs.Kept.{Kept, IsKept, added, both_kept, values}
use Rattle.moment_sums.specs.KeptLaws.{length-added}
use Rattle.moment_sums.proofs.PlaceLemmas.{at_added}

-- a callee's result, read back from its bits
pub sum_read : (x y r : ℤ) → FitsSigned w128 x → FitsSigned w128 y → FitsSigned w128 r → r ≡ to_z w128 (of_z w128 x) +ℤ to_z w128 (of_z w128 y) → to_z w128 (of_z w128 r) ≡ x +ℤ y
sum_read x y r f g h e = to_z-of_z h ∙ (e ∙ (λ i. to_z-of_z f i +ℤ to_z-of_z g i))

pub negated_read : (x r : ℤ) → FitsSigned w128 x → FitsSigned w128 r → r ≡ neg_ℤ (to_z w128 (of_z w128 x)) → to_z w128 (of_z w128 r) ≡ neg_ℤ x
negated_read x r f h e = to_z-of_z h ∙ (e ∙ ap neg_ℤ (to_z-of_z f))

abs_negated : (z : ℤ) → unsigned_abs (neg_ℤ z) ≡ unsigned_abs z
abs_negated z = omega (arith, signed_arith, one_part z, one_part (neg_ℤ z))

part_sum : (n m k : ℕ) (x y z : ℤ) → x ≡ y +ℤ z → unsigned_abs y ≤ n * k → unsigned_abs z ≤ m * k → unsigned_abs x ≤ (n + m) * k
part_sum n m k x y z e a b = rw e (let s = sum_within y z (n * k) (m * k) a b in grind (arith, s))

row_sum : (n m k : ℕ) (xs ys zs : List ℤ) → ((i : ℕ) → at xs i ≡ at ys i +ℤ at zs i) → IsWithin (n * k) ys → IsWithin (m * k) zs → IsWithin ((n + m) * k) xs
row_sum n m k xs ys zs e a b = λ i. part_sum n m k (at xs i) (at ys i) (at zs i) (e i) (a i) (b i)

pub kept_sum : (a b : Kept) → IsKept a.kg a.x a.y a.z a.fsm a.weights_aft a.moments_aft a.parts → IsKept b.kg b.x b.y b.z b.fsm b.weights_aft b.moments_aft b.parts
    → a.parts + b.parts ≤ most_parts → (r : Kept) → r ≡ both_kept a b → IsKept r.kg r.x r.y r.z r.fsm r.weights_aft r.moments_aft r.parts
kept_sum a b h k few r is =
    subst (λ (t : Kept). IsKept t.kg t.x t.y t.z t.fsm t.weights_aft t.moments_aft t.parts) (sym is) record {
      few = few;
      kg_within = part_sum a.parts b.parts (10 ^ 9) (a.kg +ℤ b.kg) a.kg b.kg refl h.kg_within k.kg_within;
      x_within = part_sum a.parts b.parts (10 ^ 15) (a.x +ℤ b.x) a.x b.x refl h.x_within k.x_within;
      y_within = part_sum a.parts b.parts (10 ^ 15) (a.y +ℤ b.y) a.y b.y refl h.y_within k.y_within;
      z_within = part_sum a.parts b.parts (10 ^ 15) (a.z +ℤ b.z) a.z b.z refl h.z_within k.z_within;
      fsm_within = part_sum a.parts b.parts (10 ^ 12) (a.fsm +ℤ b.fsm) a.fsm b.fsm refl h.fsm_within k.fsm_within;
      weights_within = row_sum a.parts b.parts (10 ^ 9) (added a.weights_aft b.weights_aft) a.weights_aft b.weights_aft (at_added a.weights_aft b.weights_aft) h.weights_within k.weights_within;
      moments_within = row_sum a.parts b.parts (2 * 10 ^ 15) (added a.moments_aft b.moments_aft) a.moments_aft b.moments_aft (at_added a.moments_aft b.moments_aft) h.moments_within k.moments_within;
      weights_places = length-added 16 a.weights_aft b.weights_aft h.weights_places k.weights_places;
      moments_places = length-added 16 a.moments_aft b.moments_aft h.moments_places k.moments_places;
    }

-- the values of two sums as one are those of both
pub values_both : (a b : Kept) → values (both_kept a b) ≡ joined (values a) (values b)
values_both a b = λ j c. by c j where
  by : (c : Column) → values (both_kept a b) c ≡ joined (values a) (values b) c
  by Weight = refl
  by MomentX = refl
  by MomentY = refl
  by MomentZ = refl
  by Surface = refl
  by (WeightAft i) = at_added a.weights_aft b.weights_aft i
  by (MomentAft i) = at_added a.moments_aft b.moments_aft i

part_negated : (m : ℕ) (x y : ℤ) → x ≡ neg_ℤ y → unsigned_abs y ≤ m → unsigned_abs x ≤ m
part_negated m x y e a = rw (e, abs_negated y) a

pub kept_negated : (a r : Kept) → IsKept a.kg a.x a.y a.z a.fsm a.weights_aft a.moments_aft a.parts → r.parts ≡ a.parts
    → r.kg ≡ neg_ℤ a.kg → r.x ≡ neg_ℤ a.x → r.y ≡ neg_ℤ a.y → r.z ≡ neg_ℤ a.z → r.fsm ≡ neg_ℤ a.fsm
    → ((i : ℕ) → at r.weights_aft i ≡ neg_ℤ (at a.weights_aft i)) → ((i : ℕ) → at r.moments_aft i ≡ neg_ℤ (at a.moments_aft i))
    → length r.weights_aft ≡ 16 → length r.moments_aft ≡ 16 → IsKept r.kg r.x r.y r.z r.fsm r.weights_aft r.moments_aft r.parts
kept_negated a r h parts kg x y z fsm weights moments w m = rw parts record {
  few = h.few;
  weights_places = w;
  moments_places = m;
  kg_within = part_negated _ r.kg a.kg kg h.kg_within;
  x_within = part_negated _ r.x a.x x h.x_within;
  y_within = part_negated _ r.y a.y y h.y_within;
  z_within = part_negated _ r.z a.z z h.z_within;
  fsm_within = part_negated _ r.fsm a.fsm fsm h.fsm_within;
  weights_within = λ i. part_negated _ (at r.weights_aft i) (at a.weights_aft i) (weights i) (h.weights_within i);
  moments_within = λ i. part_negated _ (at r.moments_aft i) (at a.moments_aft i) (moments i) (h.moments_within i);
}

pub values_negated : (a r : Kept) → r.kg ≡ neg_ℤ a.kg → r.x ≡ neg_ℤ a.x → r.y ≡ neg_ℤ a.y → r.z ≡ neg_ℤ a.z → r.fsm ≡ neg_ℤ a.fsm
    → ((i : ℕ) → at r.weights_aft i ≡ neg_ℤ (at a.weights_aft i)) → ((i : ℕ) → at r.moments_aft i ≡ neg_ℤ (at a.moments_aft i))
    → values r ≡ negated (values a)
values_negated a r kg x y z fsm weights moments = λ j c. by c j where
  by : (c : Column) → values r c ≡ negated (values a) c
  by Weight = kg
  by MomentX = x
  by MomentY = y
  by MomentZ = z
  by Surface = fsm
  by (WeightAft i) = weights i
  by (MomentAft i) = moments i

no_places : (n i : ℕ) → get_or (replicate n (pos 0)) i (pos 0) ≡ pos 0
no_places zero zero = refl
no_places zero (suc i) = refl
no_places (suc n) zero = refl
no_places (suc n) (suc i) = no_places n i

pub values_nothing : values (record { kg = pos 0; x = pos 0; y = pos 0; z = pos 0; fsm = pos 0; weights_aft = replicate 16 (pos 0); moments_aft = replicate 16 (pos 0); parts = 0 }) ≡ nothing
values_nothing = λ j c. by c j where
  by : (c : Column) → values (record { kg = pos 0; x = pos 0; y = pos 0; z = pos 0; fsm = pos 0; weights_aft = replicate 16 (pos 0); moments_aft = replicate 16 (pos 0); parts = 0 }) c ≡ pos 0
  by Weight = refl
  by MomentX = refl
  by MomentY = refl
  by MomentZ = refl
  by Surface = refl
  by (WeightAft i) = no_places 16 i
  by (MomentAft i) = no_places 16 i

-- one more place is written, and those behind it are 0 as yet
module _ (ns : List ℤ) (g : ℕ → ℤ) (k : ℕ) (v : ℤ) (inside : k < length ns) where
  pub set_done : ((j : ℕ) → j < k → at ns j ≡ g j) → v ≡ g k → (j : ℕ) → j < k + 1 → at (set ns k v) j ≡ g j
  set_done done e = below_more _ _ (λ j less. let ne : j ≢ k = omega arith in rw get_or-set_other (done j less)) (rw get_or-set_same e)

  pub set_rest : ((j : ℕ) → k ≤ j → at ns j ≡ pos 0) → (j : ℕ) → k + 1 ≤ j → at (set ns k v) j ≡ pos 0
  set_rest rest = λ j more. let ne : j ≢ k = omega arith in rw get_or-set_other (rest j (omega arith))

  pub set_within : (m : ℕ) → IsWithin m ns → unsigned_abs v ≤ m → IsWithin m (set ns k v)
  set_within m w s = λ j.
      elim (cases_eq j k) [
        | inl same ↦ rw (same, get_or-set_same) s
        | inr ne ↦ rw get_or-set_other (w j)
      ]

-- A sum is what it keeps of its values, and of how many parts it is.
use Rattle.std.proofs.Common.{◌≡◌, ℕ, ◌≤◌, map, ℤ, pos, refl, sym, ◌∙◌, arith, lt_of_not-le}
use Rattle.std.specs.List.{range_with_len}
use Rattle.std.proofs.lemmas.List.{get_or_past}
use Rattle.std.proofs.lemmas.List.FromFn.{fill_by_all, get_or-map-range_with_len, length-map-range_with_len}
use mathlib.Core.Logic.{dite}
use native.Mathlib.Decide.{dec_le}
use Rattle.units_core.specs.Interpolation.{at}
use Rattle.prefix_scan.specs.Laws.{most_parts}
use Rattle.moment_sums.specs.Kept.{Kept, kept_of, size_of, values}
use Rattle.moment_sums.specs.KeptLaws.{placed, with_places}
use Rattle.moment_sums.specs.Sum.{Column, Weight, MomentX, MomentY, MomentZ, Surface, WeightAft, MomentAft, Sum}

pub kept_is : (t : Kept) → size_of t ≤ most_parts → t ≡ kept_of (values t) t.parts
kept_is t fits =
    let places = placed t fits in
    let weights = fill_by_all (at t.weights_aft) t.weights_aft 16 (pos 0) places.weights (λ k low. refl) in
    let moments = fill_by_all (at t.moments_aft) t.moments_aft 16 (pos 0) places.moments (λ k low. refl) in
    λ j. record {
      kg = t.kg;
      x = t.x;
      y = t.y;
      z = t.z;
      fsm = t.fsm;
      weights_aft = weights j;
      moments_aft = moments j;
      parts = t.parts;
    }

pub kept_size : (s : Sum) (n : ℕ) → size_of (kept_of s n) ≡ n
kept_size s n = with_places (kept_of s n) (length-map-range_with_len (λ i. s (WeightAft i)) 0 16) (length-map-range_with_len (λ i. s (MomentAft i)) 0 16)

-- sixteen places keep what has nothing behind them
pub at_places : (f : ℕ → ℤ) → ((i : ℕ) → 16 ≤ i → f i ≡ pos 0) → (i : ℕ) → at (map f (range_with_len 0 16)) i ≡ f i
at_places f none i =
    dite (dec_le 16 i)
    (λ past. get_or_past (map f (range_with_len 0 16)) i (pos 0) (let n = length-map-range_with_len f 0 16 in omega (arith, n, past)) ∙ sym (none i past))
    (λ not. get_or-map-range_with_len f 0 16 i i (pos 0) (lt_of_not-le not) (omega arith))

pub kept_values : (s : Sum) (n : ℕ) → ((i : ℕ) → 16 ≤ i → s (WeightAft i) ≡ pos 0) → ((i : ℕ) → 16 ≤ i → s (MomentAft i) ≡ pos 0) → values (kept_of s n) ≡ s
kept_values s n weights moments = λ j c. by c j where
  by : (c : Column) → values (kept_of s n) c ≡ s c
  by Weight = refl
  by MomentX = refl
  by MomentY = refl
  by MomentZ = refl
  by Surface = refl
  by (WeightAft i) = at_places (λ i. s (WeightAft i)) weights i
  by (MomentAft i) = at_places (λ i. s (MomentAft i)) moments i

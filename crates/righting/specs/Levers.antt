-- Righting levers and the areas under them (2008 IS Code, part A, 2.2), as the textbooks have them,
-- on true fractions.
use Rattle.std.specs.Prelude.{◌≡◌, ℕ, zero, suc, ◌+◌, ◌*◌, ◌^◌, ◌<◌, ◌≤◌, ℤ, pos, ◌-ℤ◌, ◌*ℤ◌, ◌≤ℤ◌}
use Rattle.std.specs.Prelude.{◌<ℤ◌, List, Bool, find, Option, Some, IsSomeAnd}
use Rattle.std.specs.List.{list_all, range_with_len}
use Rattle.units_core.specs.Angles.{cosines, sines}
use Rattle.units_core.specs.Ratio.{Ratio, ◌over◌, whole, ◌⊕◌, ◌⊖◌, ◌⊗◌, ◌⊘◌, Is, is_at_least}
use Rattle.units_core.specs.Ratio.{is_no_more}
use Rattle.units_core.specs.Interpolation.{at}

-- GZ(h) = KN(h) - KG sin h - |TCG| cos h, at the k-th angle, by the height of the centre of gravity
-- and its distance from the centre line
abbrev pub gz : Ratio → Ratio → Ratio → ℕ → Ratio
gz kn height aside k = (kn ⊖ (height ⊗ (at sines k over pos (10 ^ 6)))) ⊖
    (aside ⊗ (at cosines k over pos (10 ^ 6)))

-- Simpson's first rule on the two intervals from ordinate k on, without its factor
abbrev pub pair_of : (ℕ → Ratio) → ℕ → Ratio
pair_of y k = (y k ⊕ (whole (pos 4) ⊗ y (k + 1))) ⊕ y (k + 2)

-- on n pairs of intervals
abbrev pub simpson : (ℕ → Ratio) → ℕ → ℕ → Ratio
simpson y k zero = whole (pos 0)
simpson y k (suc n) = simpson y k n ⊕ pair_of y (k + 2 * n)

-- the area in millionths of a metre-degree: 5/3 of Simpson's sum on intervals of 5 degrees, which
-- is in mm degrees
abbrev pub area_of : Ratio → Ratio
area_of sum = (whole (pos 5000) ⊗ sum) ⊘ whole (pos 3)

-- the area in mm degrees
abbrev pub mm_degrees : Ratio → Ratio
mm_degrees sum = (whole (pos 5) ⊗ sum) ⊘ whole (pos 3)

-- the j-th ordinate is none less than any of the n from the k-th on
abbrev pub is_top : (ℕ → Ratio) → ℕ → ℕ → ℕ → Bool
is_top y k n j = list_all (λ i. is_no_more (y i) (y j)) (range_with_len k n)

-- of the n ordinates from the k-th on the greatest: the first that none of them is above
unfoldable pub greatest_of : (ℕ → Ratio) → ℕ → ℕ → Option ℕ
greatest_of y k n = find (is_top y k n) (range_with_len k n)

-- the numbers ns over d are the ordinates
abbrev pub AreOrdinates : List ℤ → ℤ → (ℕ → Ratio) → Type 0
AreOrdinates ns d y = (k : ℕ) → k < 13 → Is (at ns k) d (y k)

-- n / d is Simpson's sum of any ordinates that the numbers are
abbrev pub IsSimpsonOf : ℤ → ℤ → List ℤ → ℤ → ℕ → ℕ → Type 0
IsSimpsonOf n e ns d k m = (y : ℕ → Ratio) → AreOrdinates ns d y → Is n e (simpson y k m)

-- of the numbers from the k-th up to below the n-th the one at `best` is the greatest, and the
-- first that is
pub record IsGreatest (ns : List ℤ) (k n best : ℕ) : Type 0 where
  pub from : k ≤ best
  pub there : best < n
  pub greatest : (i : ℕ) → k ≤ i → i < n → at ns i ≤ℤ at ns best
  pub first : (i : ℕ) → k ≤ i → i < best → at ns i <ℤ at ns best

-- so it is the greatest of any ordinates that the numbers are
abbrev pub IsGreatestOf : ℕ → List ℤ → ℤ → ℕ → ℕ → Type 0
IsGreatestOf best ns d k n = (y : ℕ → Ratio) → AreOrdinates ns d y → greatest_of y k n ≡ Some best

-- the k-th lever over the one denominator
abbrev pub lever_top : List ℤ → ℤ → ℤ → ℤ → ℤ → ℕ → ℤ
lever_top kn weight upright aside gap k =
    (((at kn k *ℤ weight) *ℤ pos (10 ^ 6)) -ℤ ((upright *ℤ gap) *ℤ at sines k)) -ℤ
    ((aside *ℤ gap) *ℤ at cosines k)

-- the answer says whether the area of any Simpson's sum that n / d is reaches the limit, in
-- millionths of a metre-degree
abbrev pub DecidesArea : Bool → ℤ → ℤ → ℤ → Type 0
DecidesArea answer n d limit = (sum : Ratio) → Is n d sum → answer ≡ is_at_least (area_of sum) limit

-- n / e is the greatest of the ordinates from 30 to 60 degrees
abbrev pub IsBest : ℤ → ℤ → List ℤ → ℤ → Type 0
IsBest n e ns d = (y : ℕ → Ratio) → AreOrdinates ns d y
    → IsSomeAnd (greatest_of y 6 7) (λ k. Is n e (y k))

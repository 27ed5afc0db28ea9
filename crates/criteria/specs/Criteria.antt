-- The criteria (2008 IS Code, part A, 2.2, for C1 to C6), judged on fractions and never on the
-- figures that are printed.
use Rattle.std.specs.Prelude.{ℕ, suc, ℤ, pos, neg_ℤ, int_le, int_lt, nat_le, Bool, true, false, not}
use Rattle.std.specs.Prelude.{◌&&◌, List, [], ◌∷◌, find, codes, Option, None, Some}
use Rattle.units_core.specs.Ratio.{Ratio, is_at_least, is_at_most, is_no_more}
use Rattle.units_core.specs.declared.frames.Frame.{Frame}
use Rattle.ship_profile.specs.Ship.{ShipRecord}
use Rattle.hydrostat.specs.Floating.{Hydrostatics, Load, gm, trim, list, draught_at}
use Rattle.righting.specs.Levers.{area_of, greatest_of, simpson}
use Rattle.criteria.specs.declared.criterion.Criterion.{Criterion}
use Rattle.criteria.specs.declared.criterion.Criterion.TheVariants.{C0, C1, C2, C3, C4, C5, C6, C7}
use Rattle.criteria.specs.declared.criterion.Criterion.TheVariants.{C8, C9, C10, C11}

-- the code of a criterion, as it is printed
abbrev pub code_of : Criterion → List ℕ
code_of C0 = codes "C0"
code_of C1 = codes "C1"
code_of C2 = codes "C2"
code_of C3 = codes "C3"
code_of C4 = codes "C4"
code_of C5 = codes "C5"
code_of C6 = codes "C6"
code_of C7 = codes "C7"
code_of C8 = codes "C8"
code_of C9 = codes "C9"
code_of C10 = codes "C10"
code_of C11 = codes "C11"

-- a condition that lies within all tables: how the ship floats, her righting levers at 0, 5, .., 60
-- degrees, the closing error, the loads at her frames by their numbers, and the least metacentric
-- height, where she has such a limit
pub record Condition : Type 0 where
  pub water : Hydrostatics
  pub load : Load
  pub levers : ℕ → Ratio
  pub closing : ℤ
  pub shear : ℕ → ℤ
  pub bending : ℕ → ℤ
  pub least_gm : Option Ratio

-- within a limit either way
abbrev pub is_within : Ratio → ℤ → Bool
is_within r m = is_at_least r (neg_ℤ m) && is_at_most r m

-- the ordinate of a number is `least` or more; the number of an ordinate is `least` or more
abbrev pub reaches_at : (ℕ → Ratio) → ℤ → Option ℕ → Bool
reaches_at y least None = false
reaches_at y least (Some k) = is_at_least (y k) least

abbrev pub is_from : ℕ → Option ℕ → Bool
is_from least None = false
is_from least (Some k) = nat_le least k

-- the list is there, and within the limit
abbrev pub list_holds : Hydrostatics → Load → ℤ → Bool
list_holds w l most = int_lt (pos 0) (gm w l).top && is_within (list w l) most

-- the draughts aft and forward, and the trim
abbrev pub draughts_hold : Hydrostatics → Load → ℤ → ℤ → ℤ → Bool
draughts_hold w l lbp most trim_most =
    (is_at_most (draught_at w l lbp (pos 0)) most && is_at_most (draught_at w l lbp lbp) most)
    && is_within (trim w l) trim_most

-- at every frame, numbered from i
abbrev pub every : (Frame → ℕ → Bool) → List Frame → ℕ → Bool
every holds [] i = true
every holds (frame ∷ more) i = holds frame i && every holds more (suc i)

abbrev pub shear_holds : (ℕ → ℤ) → Frame → ℕ → Bool
shear_holds shear frame i =
    int_le (neg_ℤ frame.shear_max) (shear i) && int_le (shear i) frame.shear_max

abbrev pub bending_holds : (ℕ → ℤ) → Frame → ℕ → Bool
bending_holds bending frame i =
    int_le (neg_ℤ frame.sag_max) (bending i) && int_le (bending i) frame.hog_max

-- no less than the limit, where there is one
abbrev pub least_holds : Option Ratio → Ratio → Bool
least_holds None g = true
least_holds (Some least) g = is_no_more least g

-- the criteria in their order
abbrev pub criteria : List Criterion
criteria = C0 ∷ C1 ∷ C2 ∷ C3 ∷ C4 ∷ C5 ∷ C6 ∷ C7 ∷ C8 ∷ C9 ∷ C10 ∷ C11 ∷ []

-- The least areas of C2 to C4 (2008 IS Code, part A, 2.2.1) in millionths of a metre-degree: 0.055,
-- 0.09 and 0.03 metre-radians, times 180 / pi and rounded up.
abbrev pub area_to_30_min : ℤ
area_to_30_min = pos 3151268

abbrev pub area_to_40_min : ℤ
area_to_40_min = pos 5156621

abbrev pub area_30_to_40_min : ℤ
area_30_to_40_min = pos 1718874

-- whether a criterion holds of a condition of a ship
abbrev pub holds : ShipRecord → Condition → Criterion → Bool
holds p c C0 = true
holds p c C1 = is_at_least (gm c.water c.load) (pos 150)
holds p c C2 = is_at_least (area_of (simpson c.levers 0 3)) area_to_30_min
holds p c C3 = is_at_least (area_of (simpson c.levers 0 4)) area_to_40_min
holds p c C4 = is_at_least (area_of (simpson c.levers 6 1)) area_30_to_40_min
holds p c C5 = reaches_at c.levers (pos 200) (greatest_of c.levers 6 7)
holds p c C6 = is_from 5 (greatest_of c.levers 0 13)
holds p c C7 = list_holds c.water c.load p.list_max
holds p c C8 = draughts_hold c.water c.load p.lbp p.draught_max p.trim_max
holds p c C9 = every (shear_holds c.shear) p.frames 0
holds p c C10 = every (bending_holds c.bending) p.frames 0
holds p c C11 = least_holds c.least_gm (gm c.water c.load)

-- the first criterion that doesn't hold
abbrev pub not_met : ShipRecord → Condition → Option Criterion
not_met p c = find (λ k. not (holds p c k)) criteria

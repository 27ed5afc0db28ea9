-- Bookkeeping: the code's figures of a condition that lies within all tables but those of the
-- loads, each the textbook's ratio rounded toward minus infinity.
use Rattle.std.specs.Prelude.{◌≡◌, ℕ, ◌*◌, ℤ, pos, Some, option_map}
use Rattle.units_core.specs.Ratio.{Ratio, Is, floor_of}
use Rattle.hydrostat.specs.declared.particulars.Afloat.{Afloat}
use Rattle.hydrostat.specs.Floating.{Hydrostatics, Load, draught_at, gm, load, trim, water}
use Rattle.righting.specs.Levers.{greatest_of, mm_degrees, simpson}
use Rattle.criteria.specs.declared.measures.CurveMeasures.{CurveMeasures}
use Rattle.criteria.specs.Measures.{AreMeasures}
use Rattle.criteria.specs.declared.rounded.RoundedFigures.{RoundedFigures}
use Rattle.criteria.specs.Judgement.{list_down}

-- how she floats
pub record AreFloating (f : RoundedFigures) (w : Hydrostatics) (l : Load) (lbp : ℤ) : Type 0 where
  pub gm : f.gm ≡ floor_of (gm w l)
  pub mean : f.mean ≡ floor_of w.draught
  pub aft : f.aft ≡ floor_of (draught_at w l lbp (pos 0))
  pub fwd : f.fwd ≡ floor_of (draught_at w l lbp lbp)
  pub trim : f.trim ≡ floor_of (trim w l)
  pub list : f.list ≡ list_down w l

-- her levers: three areas in mm degrees, the greatest ordinate from 30 to 60 degrees, the least
-- angle that carries the greatest of all
pub record AreRighting (f : RoundedFigures) (y : ℕ → Ratio) : Type 0 where
  pub area_30 : f.area_30 ≡ floor_of (mm_degrees (simpson y 0 3))
  pub area_40 : f.area_40 ≡ floor_of (mm_degrees (simpson y 0 4))
  pub area_30_40 : f.area_30_40 ≡ floor_of (mm_degrees (simpson y 6 1))
  pub lever : Some f.lever ≡ option_map (λ k. floor_of (y k)) (greatest_of y 6 7)
  pub angle : Some f.angle ≡ option_map (λ k. 5 * k) (greatest_of y 0 13)

pub record AreRounded (f : RoundedFigures) (a : Afloat) (curve : CurveMeasures) : Type 0 where
  pub floating : AreFloating f (water a) (load a) a.lbp
  pub righting : (y : ℕ → Ratio) → AreMeasures curve y → AreRighting f y

-- of any ordinates that the measures are of
abbrev pub IsLeverDown : ℤ → CurveMeasures → Type 0
IsLeverDown q curve = (y : ℕ → Ratio) → AreMeasures curve y
    → Some q ≡ option_map (λ k. floor_of (y k)) (greatest_of y 6 7)

abbrev pub IsAngle : ℕ → CurveMeasures → Type 0
IsAngle q curve = (y : ℕ → Ratio) → AreMeasures curve y
    → Some q ≡ option_map (λ k. 5 * k) (greatest_of y 0 13)

-- the figure of any ratio that n / d is
abbrev pub IsFigure : ℤ → ℤ → ℤ → Type 0
IsFigure q n d = (r : Ratio) → Is n d r → q ≡ floor_of r

-- the area in mm degrees of any Simpson's sum that n / d is
abbrev pub IsAreaFigure : ℤ → ℤ → ℤ → Type 0
IsAreaFigure q n d = (sum : Ratio) → Is n d sum → q ≡ floor_of (mm_degrees sum)

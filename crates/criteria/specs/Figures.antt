-- The exact figures that the code answers, and its verdict.
use Rattle.std.specs.Prelude.{◌≡◌, ℕ, ℤ, List, length}
use Rattle.units_core.specs.Ratio.{Ratio}
use Rattle.ship_profile.specs.Ship.{ShipRecord}
use Rattle.hydrostat.specs.Figures.{IsFloatingOn}
use Rattle.righting.specs.Levers.{AreOrdinates}
use Rattle.strength.specs.Loads.{AreLoadsAt}
use Rattle.criteria.specs.Assessment.{Assessment, IsOutside, Fails, Passes}
use Rattle.criteria.specs.Criteria.{Condition}
use Rattle.criteria.specs.declared.figures.Figures.{Figures}
use Rattle.criteria.specs.declared.verdicts.Verdict.{Verdict}
use Rattle.criteria.specs.declared.verdicts.Verdict.TheVariants as verdict

-- they are those of a condition of a ship: each fraction is the textbook's ratio, and the loads are
-- those at her frames
pub record AreFigures (f : Figures) (ship : ShipRecord) (c : Condition) : Type 0 where
  pub floating : IsFloatingOn f.floating c.water c.load ship.lbp
  pub levers : AreOrdinates f.levers.num f.levers.den c.levers
  pub loads : AreLoadsAt f.loads c.shear c.bending (length ship.frames) c.closing

-- the verdict says what the exact judgement does
abbrev pub IsVerdict : Verdict → ShipRecord → Assessment → Type 0
IsVerdict (verdict.Outside outside) ship a = a ≡ IsOutside outside
IsVerdict (verdict.Fails criterion figures) ship a = (c : Condition) × (a ≡ Fails criterion c)
    × AreFigures figures ship c
IsVerdict (verdict.Passes figures) ship a = (c : Condition) × (a ≡ Passes c)
    × AreFigures figures ship c

-- whatever ordinates the numbers ns over d are
abbrev pub IsVerdictFor : Verdict → ShipRecord → List ℤ → ℤ → ((ℕ → Ratio) → Assessment) → Type 0
IsVerdictFor answer ship ns d of = (y : ℕ → Ratio) → AreOrdinates ns d y
    → IsVerdict answer ship (of y)

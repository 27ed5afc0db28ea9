-- Bookkeeping: the condition that the code's numbers are.
use Rattle.std.specs.Prelude.{◌≡◌, ℕ, Bool, Option, option_map}
use Rattle.units_core.specs.declared.fractions.Frac.{Frac}
use Rattle.units_core.specs.Interpolation.{at}
use Rattle.units_core.specs.Ratio.{Ratio, ◌over◌}
use Rattle.hydrostat.specs.declared.particulars.Afloat.{Afloat}
use Rattle.hydrostat.specs.Floating.{load, water}
use Rattle.criteria.specs.declared.measures.CurveMeasures.{CurveMeasures}
use Rattle.criteria.specs.Measures.{AreMeasures}
use Rattle.ship_profile.specs.Ship.{ShipRecord}
use Rattle.criteria.specs.declared.criterion.Criterion.{Criterion}
use Rattle.strength.specs.declared.loads.Strains.{Strains}
use Rattle.criteria.specs.Criteria.{Condition, holds, not_met}

-- the condition of a ship afloat, with these levers, loads and least metacentric height
abbrev pub condition_of : Afloat → (ℕ → Ratio) → Strains → Option Frac → Condition
condition_of a y strains least = record {
  water = water a;
  load = load a;
  levers = y;
  closing = strains.closing;
  shear = λ i. at strains.shear i;
  bending = λ i. at strains.bending i;
  least_gm = option_map (λ f. f.num over f.den) least;
}

-- the answer is the first criterion that isn't met, whatever ordinates the measures are of
abbrev pub IsFirstNotMet : Option Criterion → ShipRecord → Afloat → CurveMeasures → Strains
    → Option Frac → Type 0
IsFirstNotMet answer ship a curve strains least = (y : ℕ → Ratio) → AreMeasures curve y
    → answer ≡ not_met ship (condition_of a y strains least)

-- and whether a criterion holds
abbrev pub IsHeld : Bool → ShipRecord → Afloat → CurveMeasures → Strains → Option Frac → Criterion
    → Type 0
IsHeld answer ship a curve strains least criterion = (y : ℕ → Ratio) → AreMeasures curve y
    → answer ≡ holds ship (condition_of a y strains least) criterion

-- The exact numbers of a condition: those by which it is assessed.
use Rattle.std.specs.Prelude.{◌≡◌, ℕ, ℤ, List, Result, Ok, Err}
use Rattle.units_core.specs.Ratio.{Ratio}
use Rattle.ship_profile.specs.Ship.{ShipRecord}
use Rattle.hydrostat.specs.declared.outside.Outside.{Outside}
use Rattle.righting.specs.Levers.{AreOrdinates}
use Rattle.strength.specs.declared.loads.Strains.{Strains}
use Rattle.criteria.specs.Assessment.{Assessment, IsOutside, assessed}
use Rattle.criteria.specs.Criteria.{Condition, not_met}
use Rattle.criteria.specs.Least.{IsLeast}
use Rattle.criteria.specs.Measures.{AreMeasures}
use Rattle.criteria.specs.Met.{condition_of}
use Rattle.criteria.specs.declared.exact.Exact.{Exact}

-- the condition of exact numbers, with these levers, and with the loads that are kept beside them
abbrev pub condition_by : Exact → (ℕ → Ratio) → Strains → Condition
condition_by e y loads = condition_of e.afloat y loads e.least

-- a ship's condition is assessed by these numbers
pub record AreExact (e : Exact) (loads : Strains) (ship : ShipRecord) (y : ℕ → Ratio)
    (a : Assessment) : Type 0 where
  pub measures : AreMeasures e.curve y
  pub length : e.afloat.lbp ≡ ship.lbp
  pub small : IsLeast e.least
  pub assessed : a ≡ assessed (not_met ship (condition_by e y loads)) (condition_by e y loads)

-- an answer with these levers: the numbers, or the table outside of which the condition lies
abbrev pub IsExactBy : Result Exact Outside → Strains → ShipRecord → (ℕ → Ratio) → Assessment
    → Type 0
IsExactBy (Err outside) loads ship y a = a ≡ IsOutside outside
IsExactBy (Ok e) loads ship y a = AreExact e loads ship y a

-- with any ordinates that the numbers ns over d are
abbrev pub IsExactFor : Result Exact Outside → Strains → ShipRecord → List ℤ → ℤ
    → ((ℕ → Ratio) → Assessment) → Type 0
IsExactFor answer loads ship ns d of = (y : ℕ → Ratio) → AreOrdinates ns d y
    → IsExactBy answer loads ship y (of y)

-- with the levers that the ship has
abbrev pub IsExact : Result Exact Outside → Strains → ShipRecord → Assessment → Type 0
IsExact (Err outside) loads ship a = a ≡ IsOutside outside
IsExact (Ok e) loads ship a = (y : ℕ → Ratio) × AreExact e loads ship y a

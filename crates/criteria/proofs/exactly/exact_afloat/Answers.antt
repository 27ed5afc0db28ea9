use Rattle.std.proofs.Common.{ℕ, Option, Result, Ok, Err, subst, sym}
use Rattle.units_core.specs.Ratio.{Ratio}
use Rattle.hydrostat.specs.Floating.{water}
use Rattle.moment_sums.specs.Kept.{values}
use Rattle.hydrostat.specs.declared.outside.Outside.{Outside}
use Rattle.righting.specs.Aboard.{levers_of}
use Rattle.ship_profile.specs.Ship.{ShipRecord}
use Rattle.strength.specs.declared.loads.Strains.{Strains}
use Rattle.criteria.specs.Assessment.{Assessment, with_levers}
use Rattle.criteria.specs.Exact.{IsExact, IsExactBy}
use Rattle.criteria.specs.declared.exact.Exact.{Exact}
use Rattle.criteria.proofs.exactly.exact_afloat.Goals as goal

-- with the levers that there are
with_these : (answer : Result Exact Outside) (loads : Strains) (ship : ShipRecord) (y : ℕ → Ratio) (a : Assessment) → IsExactBy answer loads ship y a → IsExact answer loads ship a
with_these (Ok e) loads ship y a h = (y, h)
with_these (Err outside) loads ship y a h = h

pub returns-in-Some : goal.returns-in-Some
returns-in-Some c =
    let is = c.in-Some.ensures in
    let p = c.args.profile.now in
    let s = values c.args.totals.now in
    let w = water c.args.a.now in
    let r = c.exact_righted.new.strains in
    with_these c.exact_righted.result r p.ship is.0 (with_levers p s w (levers_of p.tables.levers s))
    (subst (λ (o : Option (ℕ → Ratio)). IsExactBy c.exact_righted.result r p.ship is.0 (with_levers p s w o)) (sym is.1) (c.exact_righted.ensures is.0 is.2))

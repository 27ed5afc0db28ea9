use Rattle.std.proofs.Common.{◌≡◌, ◌∙◌, ℕ, ℤ, Bool, Option, None, Some, Result, sym, subst}
use Rattle.ship_profile.specs.Record.{ProfileRecord}
use Rattle.moment_sums.specs.Sum.{Sum}
use Rattle.hydrostat.specs.Floating.{Hydrostatics, draught_at, load, water}
use Rattle.hydrostat.specs.declared.outside.Outside.{Outside}
use Rattle.moment_sums.specs.Kept.{values}
use Rattle.units_core.specs.Ratio.{Ratio}
use Rattle.strength.specs.Immersed.{areas_along, areas_of}
use Rattle.strength.specs.Running.{AreStrains, AreStrainsBy, AreStrainsIf}
use Rattle.strength.specs.Strains.{closes, closing_of}
use Rattle.strength.specs.declared.loads.Strains.{Strains}
use Rattle.criteria.specs.Assessment.{Assessment, with_areas, with_closing}
use Rattle.criteria.specs.Exact.{IsExactBy}
use Rattle.criteria.specs.declared.exact.Exact.{Exact}
use Rattle.criteria.proofs.exactly.exact_righted.Goals as goal

-- what is answered of any areas that the loads are by is answered of those that there are
by_areas : (answer : Result Exact Outside) (p : ProfileRecord) (s : Sum) (w : Hydrostatics) (y : ℕ → Ratio) (r : Strains) (o : Option (ℕ → ℤ)) → AreStrainsBy r s o p.ship
    → ((areas : ℕ → ℤ) → AreStrains r s areas p.ship → IsExactBy answer r p.ship y (with_closing p s w y areas (closes (closing_of s areas p.ship.stations) p.ship.closing_max)))
    → IsExactBy answer r p.ship y (with_areas p s w y o)
by_areas answer p s w y r None is h = absurd is
by_areas answer p s w y r (Some areas) is h = h areas is

pub returns-then-strains_into : goal.returns-then-strains_into
returns-then-strains_into c =
    let p = c.args.profile.now in
    let a = c.args.a.now in
    let s = values c.args.totals.now in
    let of = c.new-line.ensures in
    let r = c.strains_into.new.strains in
    let l = c.new-line.result.of in
    let areas = areas_along p (water l) (load l) l.lbp in
    let is = subst (λ (b : Bool). AreStrainsIf b r s areas p.ship) c.if-strains_into.true c.strains_into.ensures in
    λ y are. subst (λ (b : Assessment). IsExactBy c.exact_strained.result r p.ship y b)
    ((λ j. with_areas p s (water a) y (areas_of p.tables.bonjean (draught_at (water (of j)) (load (of j)) (of j).lbp) p.ship.stations))
    ∙ (λ j. with_areas p s (water a) y (areas_of p.tables.bonjean (draught_at (water a) (c.requires.loaded j) (c.requires.length j)) p.ship.stations)))
    (by_areas c.exact_strained.result p s (water a) y r areas is (λ areas is. c.exact_strained.ensures areas is y are))

pub returns-else-strains_into : goal.returns-else-strains_into
returns-else-strains_into c =
    let p = c.args.profile.now in
    let a = c.args.a.now in
    let s = values c.args.totals.now in
    let of = c.new-line.ensures in
    let r = c.strains_into.new.strains in
    let l = c.new-line.result.of in
    let areas = areas_along p (water l) (load l) l.lbp in
    let is = subst (λ (b : Bool). AreStrainsIf b r s areas p.ship) c.if-strains_into.false c.strains_into.ensures in
    λ y are.
    (λ j. with_areas p s (water a) y (areas_of p.tables.bonjean (draught_at (water a) (sym c.requires.loaded j) (sym c.requires.length j)) p.ship.stations))
    ∙ (λ j. with_areas p s (water a) y (areas_of p.tables.bonjean (draught_at (water (sym of j)) (load (sym of j)) (sym of j).lbp) p.ship.stations))
    ∙ (λ j. with_areas p s (water a) y (is j))

use Rattle.std.proofs.Common.{rules, ◌≡◌, ◌∙◌, ap, sym, subst, Bool, true, false, FitsSigned, to_z-of_z}
use Rattle.std.specs.Int.{w64}
use Rattle.hydrostat.specs.Floating.{water}
use Rattle.moment_sums.specs.Kept.{values}
use Rattle.moment_sums.specs.Sum.{Weight}
use Rattle.criteria.specs.Least.{least_at}
use Rattle.strength.specs.Strains.{closes, closing_of}
use Rattle.criteria.specs.Assessment.{Assessment, with_closing, with_least}
use Rattle.criteria.specs.Exact.{IsExactBy}
use Rattle.criteria.proofs.exactly.exact_strained.Goals as goal

pub returns-then-closes : goal.returns-then-closes
returns-then-closes c =
    let p = c.args.profile.now in
    let s = values c.args.totals.now in
    let a = c.args.a.now in
    let r = c.args.strains.now in
    let e : FitsSigned w64 c.args.strains.now.closing = search rules in
    let m : FitsSigned w64 c.closing_max.result = search rules in
    λ areas is.
    let test : true ≡ closes (closing_of s areas p.ship.stations) p.ship.closing_max =
    sym c.if-closes.true ∙ (c.closes.ensures ∙ (λ j. closes ((to_z-of_z e ∙ is.is_closing) j) ((to_z-of_z m ∙ c.closing_max.ensures.value) j))) in
    λ y are. subst (λ (b : Assessment). IsExactBy c.exact_loaded.result r p.ship y b)
    ((λ j. with_least p.ship (water a) (c.requires.loaded j) y (is.is_closing j) (λ i. is.are_shear i j) (λ i. is.are_bending i j) (least_at p.tables.least_gm (s Weight)))
    ∙ ap (λ (b : Bool). with_closing p s (water a) y areas b) test)
    (c.exact_loaded.ensures r y are)

pub returns-else-closes : goal.returns-else-closes
returns-else-closes c =
    let p = c.args.profile.now in
    let s = values c.args.totals.now in
    let a = c.args.a.now in
    let e : FitsSigned w64 c.args.strains.now.closing = search rules in
    let m : FitsSigned w64 c.closing_max.result = search rules in
    λ areas is.
    let test : false ≡ closes (closing_of s areas p.ship.stations) p.ship.closing_max =
    sym c.if-closes.false ∙ (c.closes.ensures ∙ (λ j. closes ((to_z-of_z e ∙ is.is_closing) j) ((to_z-of_z m ∙ c.closing_max.ensures.value) j))) in
    λ y are. ap (λ (b : Bool). with_closing p s (water a) y areas b) (sym test)

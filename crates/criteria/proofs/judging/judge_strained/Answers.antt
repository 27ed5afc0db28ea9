use Rattle.std.proofs.Common.{rules, ◌≡◌, ◌∙◌, ap, sym, Bool, true, false, FitsSigned, to_z-of_z}
use Rattle.std.specs.Int.{w64}
use Rattle.hydrostat.specs.Floating.{water}
use Rattle.moment_sums.specs.Kept.{values}
use Rattle.moment_sums.specs.Sum.{Weight}
use Rattle.criteria.specs.Least.{least_at}
use Rattle.strength.specs.Strains.{closes, closing_of}
use Rattle.criteria.specs.Assessment.{with_closing, with_least}
use Rattle.criteria.specs.Judgement.{rounded}
use Rattle.criteria.proofs.judging.judge_strained.Goals as goal

pub returns-then-closes : goal.returns-then-closes
returns-then-closes c =
    let p = c.args.profile.now in
    let s = values c.args.totals.now in
    let a = c.args.a.now in
    let e : FitsSigned w64 c.args.figures.now.strains.closing = search rules in
    let m : FitsSigned w64 c.closing_max.result = search rules in
    λ areas is.
    let test : true ≡ closes (closing_of s areas p.ship.stations) p.ship.closing_max =
    sym c.if-closes.true ∙ (c.closes.ensures ∙ (λ j. closes ((to_z-of_z e ∙ is.is_closing) j) ((to_z-of_z m ∙ c.closing_max.ensures.value) j))) in
    λ y are. c.judge_loaded.ensures y are
    ∙ ((λ j. rounded p.ship.lbp (with_least p.ship (water a) (c.requires.loaded j) y (is.is_closing j) (λ i. is.are_shear i j) (λ i. is.are_bending i j) (least_at p.tables.least_gm (s Weight))))
    ∙ ap (λ (b : Bool). rounded p.ship.lbp (with_closing p s (water a) y areas b)) test)

pub returns-else-closes : goal.returns-else-closes
returns-else-closes c =
    let p = c.args.profile.now in
    let s = values c.args.totals.now in
    let a = c.args.a.now in
    let e : FitsSigned w64 c.args.figures.now.strains.closing = search rules in
    let m : FitsSigned w64 c.closing_max.result = search rules in
    λ areas is.
    let test : false ≡ closes (closing_of s areas p.ship.stations) p.ship.closing_max =
    sym c.if-closes.false ∙ (c.closes.ensures ∙ (λ j. closes ((to_z-of_z e ∙ is.is_closing) j) ((to_z-of_z m ∙ c.closing_max.ensures.value) j))) in
    λ y are. ap (λ (b : Bool). rounded p.ship.lbp (with_closing p s (water a) y areas b)) test

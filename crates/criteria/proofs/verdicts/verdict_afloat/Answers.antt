use Rattle.std.proofs.Common.{◌∙◌, ℕ, Option, ap, sym, subst}
use Rattle.units_core.specs.Ratio.{Ratio}
use Rattle.moment_sums.specs.Kept.{values}
use Rattle.hydrostat.specs.Floating.{water}
use Rattle.criteria.specs.Assessment.{IsOutside, with_levers}
use Rattle.criteria.specs.Figures.{IsVerdict}
use Rattle.criteria.proofs.verdicts.verdict_afloat.Goals as goal

pub returns-in-Ok : goal.returns-in-Ok
returns-in-Ok c =
    let p = c.args.profile.now in
    let is = c.in-Ok.ensures in
    subst (λ (o : Option (ℕ → Ratio)). IsVerdict c.verdict_righted.result p.ship (with_levers p (values c.args.totals.now) (water c.args.floating.now.afloat) o)) (sym is.1)
    (c.verdict_righted.ensures is.0 is.2)

pub returns-in-Err : goal.returns-in-Err
returns-in-Err c =
    let is = c.in-Err.ensures in
    ap (with_levers c.args.profile.now (values c.args.totals.now) (water c.args.floating.now.afloat)) is.1 ∙ ap IsOutside (sym is.0)

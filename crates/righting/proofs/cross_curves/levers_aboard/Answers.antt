use Rattle.std.proofs.Common.{rules, ◌≡◌, ◌∙◌, Some, FitsSigned, to_z-of_z, sym, ap}
use Rattle.std.specs.Prelude.{option_map}
use Rattle.std.specs.Int.{w128}
use Rattle.units_core.specs.Interpolation.{interval}
use Rattle.ship_tables.specs.Record.{CurveTable}
use Rattle.moment_sums.specs.Kept.{values}
use Rattle.moment_sums.specs.Sum.{Weight}
use Rattle.righting.specs.Aboard.{lever_in}
use Rattle.righting.proofs.cross_curves.levers_aboard.Goals as goal

pub returns : goal.returns
returns c =
    let s = values c.args.totals.now in
    let t = c.args.profile.now.tables.levers in
    let i = c.in_ok-i.i in
    let k : FitsSigned w128 c.kg.result = search rules in
    let e = c.levers-curves.ensures.value in
    let there : Some i ≡ interval t.arguments (s Weight) = c.in_ok-i.ensures.which ∙ (λ j. interval ((c.arguments.ensures ∙ ap (λ (x : CurveTable). x.arguments) e) j) ((to_z-of_z k ∙ c.kg.ensures) j)) in
    (lever_in t s i, ap (λ o. option_map (lever_in t s) o) (sym there), rw e at c.levers_at.ensures)

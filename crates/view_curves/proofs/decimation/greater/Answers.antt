use Rattle.std.proofs.Common.{rules, ◌<ℤ◌, FitsSigned, to_z-of_z, arith}
use Rattle.std.specs.Int.{w128}
use Rattle.units_core.proofs.Signed.{signed_arith}
use Rattle.view_curves.proofs.Extremes.{greatest_new}
use Rattle.view_curves.proofs.decimation.greater.Goals as goal

pub returns-then-old-figure : goal.returns-then-old-figure
returns-then-old-figure c =
    let q : FitsSigned w128 c.args.figure = search rules in
    let p : FitsSigned w128 c.args.old.figure = search rules in
    let less : c.args.old.figure <ℤ c.args.figure = omega (arith, signed_arith, simp (to_z-of_z q, to_z-of_z p) at c.if-old-figure.true) in
    λ curve s from here is. simp (to_z-of_z q) (greatest_new curve s c.args.k c.args.figure from here c.args.old less is)

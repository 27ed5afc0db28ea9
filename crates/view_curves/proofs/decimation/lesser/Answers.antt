use Rattle.std.proofs.Common.{rules, ◌<ℤ◌, FitsSigned, to_z-of_z, arith}
use Rattle.std.specs.Int.{w128}
use Rattle.units_core.proofs.Signed.{signed_arith}
use Rattle.view_curves.proofs.Extremes.{least_new}
use Rattle.view_curves.proofs.decimation.lesser.Goals as goal

pub returns-then-figure-old : goal.returns-then-figure-old
returns-then-figure-old c =
    let q : FitsSigned w128 c.args.figure = search rules in
    let p : FitsSigned w128 c.args.old.figure = search rules in
    let less : c.args.figure <ℤ c.args.old.figure = omega (arith, signed_arith, simp (to_z-of_z q, to_z-of_z p) at c.if-figure-old.true) in
    λ curve s from here is. simp (to_z-of_z q) (least_new curve s c.args.k c.args.figure from here c.args.old less is)

use Rattle.std.proofs.Common.{rules, ◌^◌, ◌*◌, pos, ◌-ℤ◌, ◌*ℤ◌, FitsSigned, to_z-of_z, arith}
use Rattle.std.specs.Int.{w128}
use Rattle.units_core.proofs.Signed.{fits_within, product_within}
use Rattle.view_figures.proofs.Parts.{rest_within}
use Rattle.view_figures.proofs.shares.behind.Goals as goal

pub returns-clause-size : goal.returns-clause-size
returns-clause-size c =
    let n = c.args.share.num in
    let d = c.args.share.den in
    let q = c.args.whole in
    let fn : FitsSigned w128 n = search rules in
    let fd : FitsSigned w128 d = search rules in
    let fq : FitsSigned w128 q = search rules in
    let fp : FitsSigned w128 (q *ℤ d) = fits_within (q *ℤ d) (9 * 10 ^ 36) (product_within q d 9 (10 ^ 36) c.requires.size c.requires.den) (omega arith) in
    let small = rest_within q n d c.args.share.positive c.requires.den c.requires.whole in
    let fr : FitsSigned w128 (n -ℤ (q *ℤ d)) = fits_within (n -ℤ (q *ℤ d)) (10 ^ 36) small (omega arith) in
    simp (to_z-of_z fn, to_z-of_z fd, to_z-of_z fq, to_z-of_z fp, to_z-of_z fr) (product_within (n -ℤ (q *ℤ d)) (pos 100) (10 ^ 36) 100 small (omega arith))

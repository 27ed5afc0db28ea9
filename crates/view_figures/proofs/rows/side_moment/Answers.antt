use Rattle.std.proofs.Common.{rules, ◌*◌, ◌^◌, ◌≤◌, ◌*ℤ◌, unsigned_abs, FitsSigned, to_z-of_z, arith}
use Rattle.std.specs.Int.{w128}
use Rattle.units_core.proofs.Signed.{fits_within, product_within}
use Rattle.view_figures.proofs.rows.side_moment.Goals as goal

pub returns : goal.returns
returns c =
    let y = c.args.a.now.y in
    let g = c.args.a.now.gap in
    let fy : FitsSigned w128 y = search rules in
    let fg : FitsSigned w128 g = search rules in
    let size = product_within y g (10 ^ 15) (10 ^ 8) c.args.a.now.y_within c.args.a.now.gap_within in
    let fits : FitsSigned w128 (y *ℤ g) = fits_within (y *ℤ g) (10 ^ 15 * 10 ^ 8) size (omega arith) in
    let small : unsigned_abs (y *ℤ g) ≤ 10 ^ 23 = omega (arith, size) in
    simp (to_z-of_z fy, to_z-of_z fg, to_z-of_z fits) small

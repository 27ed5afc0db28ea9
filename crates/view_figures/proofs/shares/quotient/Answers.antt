use Rattle.std.proofs.Common.{rules, ◌^◌, ◌*ℤ◌, FitsSigned, to_z-of_z, arith}
use Rattle.std.specs.Int.{w128}
use Rattle.units_core.proofs.Ratios.{is_quotient}
use Rattle.units_core.proofs.Signed.{fits_within, product_positive}
use Rattle.view_figures.proofs.Parts.{not_negative_product}
use Rattle.view_figures.proofs.shares.quotient.Goals as goal

pub returns-clause-value : goal.returns-clause-value
returns-clause-value c =
    let n = c.args.part.num in
    let d = c.args.part.den in
    let m = c.args.all.num in
    let e = c.args.all.den in
    let fn : FitsSigned w128 n = search rules in
    let fd : FitsSigned w128 d = search rules in
    let fm : FitsSigned w128 m = search rules in
    let fe : FitsSigned w128 e = search rules in
    let ft : FitsSigned w128 (n *ℤ e) = fits_within (n *ℤ e) (10 ^ 38) c.requires.num (omega arith) in
    let fb : FitsSigned w128 (d *ℤ m) = fits_within (d *ℤ m) (10 ^ 36) c.requires.den (omega arith) in
    λ a b p q. simp (to_z-of_z fn, to_z-of_z fd, to_z-of_z fm, to_z-of_z fe, to_z-of_z ft, to_z-of_z fb) (is_quotient n d m e a b p q c.requires.positive)

pub returns-clause-sign : goal.returns-clause-sign
returns-clause-sign c =
    let n = c.args.part.num in
    let e = c.args.all.den in
    let fn : FitsSigned w128 n = search rules in
    let fe : FitsSigned w128 e = search rules in
    let ft : FitsSigned w128 (n *ℤ e) = fits_within (n *ℤ e) (10 ^ 38) c.requires.num (omega arith) in
    λ some. simp (to_z-of_z fn, to_z-of_z fe, to_z-of_z ft) (not_negative_product n e some c.args.all.positive)

pub invariant_of-result : goal.invariant_of-result
invariant_of-result c =
    let d = c.args.part.den in
    let n = c.args.all.num in
    let fd : FitsSigned w128 d = search rules in
    let fn : FitsSigned w128 n = search rules in
    let fits : FitsSigned w128 (d *ℤ n) = fits_within (d *ℤ n) (10 ^ 36) c.requires.den (omega arith) in
    record { positive = simp (to_z-of_z fd, to_z-of_z fn, to_z-of_z fits) (product_positive d n c.args.part.positive c.requires.positive) }

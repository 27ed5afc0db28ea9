use Rattle.std.proofs.Common.{rules, ◌*◌, ◌^◌, ◌*ℤ◌, FitsSigned, to_z-of_z, arith}
use Rattle.std.specs.Int.{w128}
use Rattle.units_core.proofs.Signed.{exact, product_within, fits_within}
use Rattle.fractions.proofs.marks.short_mark_over.Goals as goal

pub overflow_mul-result : goal.overflow_mul-result
overflow_mul-result c =
    let fits : FitsSigned w128 (c.args.mark *ℤ c.args.den) = fits_within _ _ (product_within c.args.mark c.args.den (2 ^ 20) (4 * 10 ^ 31) c.requires.mark c.requires.den) (omega arith) in
    search (rules, exact)

pub returns : goal.returns
returns c =
    let fits : FitsSigned w128 (c.args.mark *ℤ c.args.den) = fits_within _ _ (product_within c.args.mark c.args.den (2 ^ 20) (4 * 10 ^ 31) c.requires.mark c.requires.den) (omega arith) in
    let a : FitsSigned w128 c.args.mark = search rules in
    let b : FitsSigned w128 c.args.den = search rules in
    simp (to_z-of_z a, to_z-of_z b, to_z-of_z fits)

use Rattle.std.proofs.Common.{rules, ◌^◌, ◌*ℤ◌, pos, FitsSigned, to_z-of_z, arith}
use Rattle.std.specs.Int.{w128}
use Rattle.units_core.proofs.Signed.{exact, product_within, fits_within}
use Rattle.fractions.proofs.marks.in_parts.Goals as goal

pub overflow_mul-result : goal.overflow_mul-result
overflow_mul-result c =
    let fits : FitsSigned w128 (c.args.num *ℤ pos 4096) = fits_within _ _ (product_within c.args.num (pos 4096) (10 ^ 34) 4096 c.requires (omega arith)) (omega arith) in
    search (rules, exact)

pub returns : goal.returns
returns c =
    let fits : FitsSigned w128 (c.args.num *ℤ pos 4096) = fits_within _ _ (product_within c.args.num (pos 4096) (10 ^ 34) 4096 c.requires (omega arith)) (omega arith) in
    let a : FitsSigned w128 c.args.num = search rules in
    simp (to_z-of_z a, to_z-of_z fits)

use Rattle.std.proofs.Common.{rules, ◌^◌, ◌≤◌, ◌*ℤ◌, unsigned_abs, FitsSigned, to_z-of_z, arith}
use Rattle.std.specs.Int.{w128}
use Rattle.units_core.proofs.Signed.{exact, product_within, fits_within}
use Rattle.fractions.proofs.orders.short_product.Goals as goal

pub overflow_mul-result : goal.overflow_mul-result
overflow_mul-result c =
    let fits : FitsSigned w128 (c.args.a *ℤ c.args.b) = fits_within _ _ (product_within c.args.a c.args.b (2 ^ 63) (2 ^ 63) c.requires.a c.requires.b) (omega arith) in
    search (rules, exact)

pub returns : goal.returns
returns c =
    let fits : FitsSigned w128 (c.args.a *ℤ c.args.b) = fits_within _ _ (product_within c.args.a c.args.b (2 ^ 63) (2 ^ 63) c.requires.a c.requires.b) (omega arith) in
    let a : FitsSigned w128 c.args.a = search rules in
    let b : FitsSigned w128 c.args.b = search rules in
    simp (to_z-of_z a, to_z-of_z b, to_z-of_z fits)

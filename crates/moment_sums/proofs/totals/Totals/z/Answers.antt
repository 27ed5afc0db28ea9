use Rattle.std.proofs.Common.{rules, arith, ◌≤◌, ◌*◌, ◌^◌, unsigned_abs, FitsSigned, to_z-of_z}
use Rattle.std.specs.Int.{w128}
use Rattle.moment_sums.proofs.totals.Totals.z.Goals as goal

pub returns-clause-within : goal.returns-clause-within
returns-clause-within c =
    let fits : FitsSigned w128 c.self.inside.z = search rules in
    let within : unsigned_abs c.self.inside.z ≤ 2 ^ 20 * 10 ^ 15 = omega (arith, c.self.invariant.few, c.self.invariant.z_within) in
    rw (to_z-of_z fits) within

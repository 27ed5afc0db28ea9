use Rattle.std.proofs.Common.{rules, FitsSigned, to_z-of_z}
use Rattle.std.specs.Int.{w64}
use Rattle.hydrostat.proofs.draught_lines.Leading.draught_in_units.Goals as goal

pub returns-clause-sure : goal.returns-clause-sure
returns-clause-sure c =
    let l = c.args.self.now in
    let b : FitsSigned w64 l.base = search rules in
    let s : FitsSigned w64 l.step = search rules in
    let d : FitsSigned w64 l.divisor = search rules in
    simp (to_z-of_z b, to_z-of_z s, to_z-of_z d, to_z-of_z c.ranges.x) at c.quotient_in_units.ensures

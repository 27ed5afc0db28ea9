use Rattle.std.proofs.Common.{rules, ◌≡◌, ◌+◌, ◌-◌, ◌≤ℤ◌, pos, get_or, length, FitsSigned, to_z-of_z, arith, sym}
use Rattle.std.specs.Int.{w128}
use Rattle.units_core.specs.Interpolation.{at}
use Rattle.units_core.proofs.Signed.{signed_arith}
use Rattle.units_core.proofs.Intervals.{interval_is, below_table, above_table}
use Rattle.units_core.proofs.tables.enclosing.Goals as goal

pub returns-then-x-arguments-clause-which : goal.returns-then-x-arguments-clause-which
returns-then-x-arguments-clause-which c =
    let xs = c.args.arguments.now in
    let x_fits = c.ranges.x in
    let first_fits : FitsSigned w128 (get_or c.args.arguments.now 0 (pos 0)) = search rules in
    let h = simp to_z-of_z at c.if-x-arguments.true in
    sym (below_table xs c.args.x (omega (arith, c.requires.rows)) (omega (arith, signed_arith, h)))

pub returns-then-arguments-last-clause-which : goal.returns-then-arguments-last-clause-which
returns-then-arguments-last-clause-which c =
    let xs = c.args.arguments.now in
    let x_fits = c.ranges.x in
    let last_fits : FitsSigned w128 (get_or c.args.arguments.now (length c.args.arguments.now - 1) (pos 0)) = search rules in
    let h = simp to_z-of_z at c.if-arguments-last.true in
    sym (above_table xs c.args.x c.requires.rises (omega (arith, c.requires.rows)) (omega (arith, signed_arith, h)))

pub returns-clause-which : goal.returns-clause-which
returns-clause-which c =
    let xs = c.args.arguments.now in
    let x_fits = c.ranges.x in
    let first_fits : FitsSigned w128 (get_or c.args.arguments.now 0 (pos 0)) = search rules in
    let h = simp to_z-of_z at c.if-x-arguments.false in
    let kept = simp to_z-of_z at c.loop-above.invariant in
    let next : c.loop-above.above ≡ c.loop-above.below + 1 = omega (arith, kept.order, c.loop-above-test.false) in
    let to : c.args.x ≤ℤ at c.args.arguments.now (c.loop-above.below + 1) = rw (← next) kept.to in
    sym (interval_is xs c.args.x c.loop-above.below c.requires.rises (omega (arith, kept.inside, next)) (omega (arith, signed_arith, h)) to kept.past)

use Rattle.std.proofs.Common.{◌≡◌, ◌+◌, inr, arith, sym, to_z-of_z}
use Rattle.units_core.proofs.Signed.{signed_arith}
use Rattle.units_core.proofs.Intervals.{in_order, interval_is}
use Rattle.units_core.proofs.tables.enclosing_near.Goals as goal

pub returns-then-is_in-clause-which : goal.returns-then-is_in-clause-which
returns-then-is_in-clause-which c =
    let xs = c.args.arguments.now in
    let i = c.args.near.now in
    let x = c.ranges.x in
    let inside = c.is_in.ensures.inside c.if-is_in.true in
    let above = simp (to_z-of_z x) at (c.is_in.ensures.above c.if-is_in.true) in
    let upper = simp (to_z-of_z x) at (c.is_in.ensures.upper c.if-is_in.true) in
    let here : 0 + i ≡ i = omega arith in
    let order = rw here at (in_order xs c.requires.rises 0 i (omega arith)) in
    sym (interval_is xs c.args.x i c.requires.rises inside (omega (arith, signed_arith, order, above)) upper (inr above))

use Rattle.std.proofs.Common.{◌≡◌, ◌+◌, inr, arith, sym, to_z-of_z}
use Rattle.units_core.proofs.Signed.{signed_arith}
use Rattle.units_core.proofs.Intervals.{in_order, interval_is}
use Rattle.strength.proofs.rows.is_row.Goals as goal

pub returns-clause-which : goal.returns-clause-which
returns-clause-which c =
    let xs = c.args.arguments.now in
    let i = c.args.i in
    let x = c.ranges.x in
    λ yes.
    let inside = c.is_between.ensures.inside yes in
    let above = simp (to_z-of_z x) at (c.is_between.ensures.above yes) in
    let upper = simp (to_z-of_z x) at (c.is_between.ensures.upper yes) in
    let here : 0 + i ≡ i = omega arith in
    let order = rw here at (in_order xs c.requires.rises 0 i (omega arith)) in
    sym (interval_is xs c.args.x i c.requires.rises inside (omega (arith, signed_arith, order, above)) upper (inr above))

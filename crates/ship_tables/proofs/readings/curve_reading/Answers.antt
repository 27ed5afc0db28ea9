use Rattle.std.proofs.Common.{rules, ◌+◌, ◌^◌, ◌≤◌, ◌-ℤ◌, unsigned_abs, FitsSigned, to_z-of_z, arith}
use Rattle.std.specs.Int.{w128}
use Rattle.units_core.proofs.Signed.{signed_arith, one_part}
use Rattle.units_core.specs.Interpolation.{at, IsWithin}
use Rattle.ship_tables.proofs.CurveLemmas.{reading_within}
use Rattle.ship_tables.proofs.readings.curve_reading.Goals as goal

pub returns-clause-within : goal.returns-clause-within
returns-clause-within c =
    let i = c.args.i in
    let r : FitsSigned w128 c.read.result = search rules in
    let t = c.args.curves.now in
    let column = c.requires.curves c.args.number _ c.requires.there in
    let ys : IsWithin (10 ^ 6) c.values.result.now = rw c.values.ensures column.within in
    let e = c.arguments.ensures in
    let d = c.requires.displacements in
    let inside = c.requires.inside in
    let near = d.rises.gaps i inside.inside in
    let up = d.rises.rises i inside.inside in
    let g : unsigned_abs (at t.arguments (i + 1) -ℤ at t.arguments i) ≤ 10 ^ 8 = omega (arith, signed_arith, near, up, one_part (at t.arguments (i + 1) -ℤ at t.arguments i)) in
    let size = rw e at (c.read.ensures.size (10 ^ 6) ys) in
    let all = reading_within c.read.result (at t.arguments (i + 1) -ℤ at t.arguments i) (10 ^ 6) size g in
    simp (to_z-of_z r) (omega (arith, all))

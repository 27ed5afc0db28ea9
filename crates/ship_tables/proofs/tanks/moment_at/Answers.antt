use Rattle.std.proofs.Common.{◌≤◌, unsigned_abs, FitsSigned, w64, to_z-of_z, arith, rules}
use Rattle.std.specs.Int.{w128}
use Rattle.std.proofs.lemmas.Int.{ints}
use Rattle.ship_tables.proofs.tanks.moment_at.Goals as goal

pub returns-clause-value : goal.returns-clause-value
returns-clause-value c =
    let size : unsigned_abs c.value_at.result ≤ 1000000000000 = c.value_at.ensures.size 1000000000000 c.requires.within in
    let fits : FitsSigned w128 c.value_at.result = omega (arith, ints, size) in
    let narrow : FitsSigned w64 c.value_at.result = omega (arith, ints, size) in
    let x_fits : FitsSigned w128 c.args.x = search rules in
    rw (to_z-of_z fits, to_z-of_z narrow) (rw (to_z-of_z x_fits) at c.value_at.ensures.value)

pub returns-clause-low : goal.returns-clause-low
returns-clause-low c =
    let size : unsigned_abs c.value_at.result ≤ 1000000000000 = c.value_at.ensures.size 1000000000000 c.requires.within in
    let fits : FitsSigned w128 c.value_at.result = omega (arith, ints, size) in
    let narrow : FitsSigned w64 c.value_at.result = omega (arith, ints, size) in
    rw (to_z-of_z fits, to_z-of_z narrow) (c.value_at.ensures.least c.requires.least)

pub returns-clause-high : goal.returns-clause-high
returns-clause-high c =
    let size : unsigned_abs c.value_at.result ≤ 1000000000000 = c.value_at.ensures.size 1000000000000 c.requires.within in
    let fits : FitsSigned w128 c.value_at.result = omega (arith, ints, size) in
    let narrow : FitsSigned w64 c.value_at.result = omega (arith, ints, size) in
    rw (to_z-of_z fits, to_z-of_z narrow) (omega (arith, ints, size))

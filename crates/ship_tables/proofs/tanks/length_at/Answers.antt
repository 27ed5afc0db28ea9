use Rattle.std.proofs.Common.{◌∙◌, ◌≤◌, unsigned_abs, FitsSigned, w64, to_z-of_z, arith, rules}
use Rattle.std.specs.Int.{w128}
use Rattle.std.proofs.lemmas.Int.{ints}
use Rattle.ship_tables.proofs.tanks.length_at.Goals as goal

pub overflow_cast-value_at : goal.overflow_cast-value_at
overflow_cast-value_at c =
    let size : unsigned_abs c.value_at.result ≤ 1000000 = c.value_at.ensures.size 1000000 c.requires.within in
    let fits : FitsSigned w128 c.value_at.result = omega (arith, ints, size) in
    let narrow : FitsSigned w64 c.value_at.result = omega (arith, ints, size) in
    rw (to_z-of_z fits) narrow

pub of-requires : goal.of-requires
of-requires c =
    let size : unsigned_abs c.value_at.result ≤ 1000000 = c.value_at.ensures.size 1000000 c.requires.within in
    let fits : FitsSigned w128 c.value_at.result = omega (arith, ints, size) in
    let narrow : FitsSigned w64 c.value_at.result = omega (arith, ints, size) in
    rw (to_z-of_z fits, to_z-of_z narrow) size

pub returns-clause-value : goal.returns-clause-value
returns-clause-value c =
    let size : unsigned_abs c.value_at.result ≤ 1000000 = c.value_at.ensures.size 1000000 c.requires.within in
    let fits : FitsSigned w128 c.value_at.result = omega (arith, ints, size) in
    let narrow : FitsSigned w64 c.value_at.result = omega (arith, ints, size) in
    let x_fits : FitsSigned w128 c.args.x = search rules in
    let length = c.of.ensures in
    rw (to_z-of_z fits, to_z-of_z narrow) at length ∙ (rw (to_z-of_z x_fits) at c.value_at.ensures.value)

pub returns-clause-size : goal.returns-clause-size
returns-clause-size c =
    let size : unsigned_abs c.value_at.result ≤ 1000000 = c.value_at.ensures.size 1000000 c.requires.within in
    let fits : FitsSigned w128 c.value_at.result = omega (arith, ints, size) in
    let narrow : FitsSigned w64 c.value_at.result = omega (arith, ints, size) in
    let length = c.of.ensures in
    rw (rw (to_z-of_z fits, to_z-of_z narrow) at length) size

pub returns-clause-least : goal.returns-clause-least
returns-clause-least c h =
    let size : unsigned_abs c.value_at.result ≤ 1000000 = c.value_at.ensures.size 1000000 c.requires.within in
    let fits : FitsSigned w128 c.value_at.result = omega (arith, ints, size) in
    let narrow : FitsSigned w64 c.value_at.result = omega (arith, ints, size) in
    let length = c.of.ensures in
    rw (rw (to_z-of_z fits, to_z-of_z narrow) at length) (c.value_at.ensures.least h)

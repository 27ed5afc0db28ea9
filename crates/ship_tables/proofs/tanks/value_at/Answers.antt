use Rattle.std.proofs.Common.{to_z-of_z, FitsSigned, arith, rules}
use Rattle.std.specs.Int.{w128}
use Rattle.units_core.specs.Interpolation.{reading}
use Rattle.units_core.specs.Ratio.{IsFloor}
use Rattle.ship_tables.proofs.ValueLemmas.{reading-size, reading-least}
use Rattle.ship_tables.proofs.tanks.value_at.Goals as goal

pub returns-clause-size : goal.returns-clause-size
returns-clause-size c m h =
    let fits : FitsSigned w128 c.interp_floor.result = search rules in
    let encloses = c.requires.encloses in
    let floor : IsFloor c.interp_floor.result (reading c.args.arguments.now c.args.column.now c.args.row c.args.x) = search rules in
    rw (to_z-of_z fits)
    (reading-size c.args.arguments.now c.args.column.now c.args.row c.args.x c.interp_floor.result
    (c.requires.rises.rises c.args.row encloses.inside) encloses.from encloses.to floor m h)

pub returns-clause-least : goal.returns-clause-least
returns-clause-least c h =
    let fits : FitsSigned w128 c.interp_floor.result = search rules in
    let encloses = c.requires.encloses in
    let floor : IsFloor c.interp_floor.result (reading c.args.arguments.now c.args.column.now c.args.row c.args.x) = search rules in
    let inside = encloses.inside in
    let rows = c.requires.rows in
    rw (to_z-of_z fits)
    (reading-least c.args.arguments.now c.args.column.now c.args.row c.args.x c.interp_floor.result
    (c.requires.rises.rises c.args.row encloses.inside) encloses.from encloses.to floor (omega (arith, inside, rows)) h)

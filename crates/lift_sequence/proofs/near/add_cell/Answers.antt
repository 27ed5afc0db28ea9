use Rattle.std.proofs.Common.{◌∙◌, None, sym}
use Rattle.units_core.specs.Cells.{cell_eq}
use Rattle.indexmap.specs.IndexMap.{get}
use Rattle.lift_sequence.specs.Aboard.{Aboard, after_all, cargo_in}
use Rattle.lift_sequence.specs.Arrival.{cargo_on}
use Rattle.lift_sequence.proofs.NearLemmas.{kept_more, part_more}
use Rattle.lift_sequence.proofs.near.add_cell.Goals as goal

pub returns-in_ok-insert-clause-part : goal.returns-in_ok-insert-clause-part
returns-in_ok-insert-clause-part c =
    let whole : Aboard = after_all c.args.profile.now (cargo_on c.args.arrival.now) c.args.ops.now in
    let new : Aboard = record { cells = get cell_eq c.insert.new.self; tanks = λ tank. None } in
    part_more (cargo_in c.args.part.now) new whole c.args.cell c.in-Some.container c.in_ok-insert.ensures.updates.0
    (sym c.in-Some.is ∙ c.container_after.ensures c.args.profile.now) c.requires

pub returns-in_ok-insert-clause-kept : goal.returns-in_ok-insert-clause-kept
returns-in_ok-insert-clause-kept c =
    let whole : Aboard = after_all c.args.profile.now (cargo_on c.args.arrival.now) c.args.ops.now in
    let new : Aboard = record { cells = get cell_eq c.insert.new.self; tanks = λ tank. None } in
    kept_more (cargo_in c.args.part.now) new whole c.args.cell c.in-Some.container c.in_ok-insert.ensures.updates.0
    (sym c.in-Some.is ∙ c.container_after.ensures c.args.profile.now)

-- What a line says of the step that leads to it.
use Rattle.std.specs.Prelude.{ℕ, List, ◌++◌, map, Option, None, Some, codes}
use Rattle.stow_messages.specs.declared.lifts.Lift.TheVariants.{Load, Discharge}
use Rattle.lift_sequence.specs.declared.operations.Op as operation
use Rattle.lift_sequence.specs.declared.operations.Op.TheVariants.{Lift, Fill, Restow}
use Rattle.port_call.specs.Shown.{cell_text, shown}

-- a step: a letter for its kind, and the cell, the tank or both cells
abbrev pub op_text : operation.Op → List ℕ
op_text (Lift (Load item)) = codes "L" ++ cell_text item.cell
op_text (Lift (Discharge cell id)) = codes "D" ++ cell_text cell
op_text (Fill name kg) = codes "T" ++ map shown name.items
op_text (Restow from to id) = codes "R" ++ (cell_text from ++ (codes ">" ++ cell_text to))

-- nothing leads to the condition on arrival
abbrev pub lift_text : Option operation.Op → List ℕ
lift_text None = codes "-"
lift_text (Some op) = op_text op

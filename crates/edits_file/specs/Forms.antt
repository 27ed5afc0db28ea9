-- What a line orders, by its words: `swap A B`, `move FROM TO`, `remove AT`,
-- `insert AT L CELL KG ID`, `insert AT D CELL ID`, `insert AT T NAME KG`, `insert AT R FROM TO ID`,
-- `reweigh AT KG` or `undo`. Any other line is of no form.
use Rattle.std.specs.Prelude.{ℕ, List, [], ◌∷◌, if◌then◌else◌, codes, Option, Some, None}
use Rattle.std.specs.Prelude.{option_map}
use Rattle.std.specs.Str.{bytes_eq}
use Rattle.arrayvec.specs.ArrayVec.{ArrayVec}
use Rattle.units_core.specs.declared.cells.Cell.{Cell}
use Rattle.units_core.specs.Cells.{cell_in}
use Rattle.stow_messages.specs.declared.lifts.Lift.TheVariants.{Load, Discharge}
use Rattle.lift_sequence.specs.declared.operations.Op.{Op}
use Rattle.lift_sequence.specs.declared.operations.Op.TheVariants.{Lift, Fill, Restow}
use Rattle.step_edits.specs.declared.edits.Edit as edit
use Rattle.step_edits.specs.declared.edits.Edit.TheVariants.{Swap, Move, Remove, Insert, Reweigh}
use Rattle.edits_file.specs.declared.forms.EditLine.{EditLine}
use Rattle.edits_file.specs.declared.forms.EditLine.TheVariants.{Edit, Undo}
use Rattle.edits_file.specs.Words.{words_in, step_in, mass_in, id_in, name_in}

-- the step that words name, where each of them says what it should
abbrev pub load_of : Option Cell → Option ℕ → Option (ArrayVec ℕ) → Option Op
load_of (Some cell) (Some kg) (Some id) =
    Some (Lift (Load (record { cell = cell; id = id; kg = kg })))
load_of cell kg id = None

abbrev pub discharge_of : Option Cell → Option (ArrayVec ℕ) → Option Op
discharge_of (Some cell) (Some id) = Some (Lift (Discharge cell id))
discharge_of cell id = None

abbrev pub fill_of : Option (ArrayVec ℕ) → Option ℕ → Option Op
fill_of (Some name) (Some kg) = Some (Fill name kg)
fill_of name kg = None

abbrev pub restow_of : Option Cell → Option Cell → Option (ArrayVec ℕ) → Option Op
restow_of (Some from) (Some to) (Some id) = Some (Restow from to id)
restow_of from to id = None

-- `D CELL ID` and `T NAME KG`
abbrev pub short_step : List ℕ → List ℕ → List ℕ → Option Op
short_step letter a b =
    if bytes_eq letter (codes "D") then discharge_of (cell_in a) (id_in b)
    else if bytes_eq letter (codes "T") then fill_of (name_in a) (step_in b)
    else None

-- `L CELL KG ID` and `R FROM TO ID`
abbrev pub long_step : List ℕ → List ℕ → List ℕ → List ℕ → Option Op
long_step letter a b c =
    if bytes_eq letter (codes "L") then load_of (cell_in a) (mass_in b) (id_in c)
    else if bytes_eq letter (codes "R") then restow_of (cell_in a) (cell_in b) (id_in c)
    else None

-- an edit of two numbers, and the insertion of a step
abbrev pub swap_of : Option ℕ → Option ℕ → Option edit.Edit
swap_of (Some a) (Some b) = Some (Swap a b)
swap_of a b = None

abbrev pub move_of : Option ℕ → Option ℕ → Option edit.Edit
move_of (Some from) (Some to) = Some (Move from to)
move_of from to = None

abbrev pub reweigh_of : Option ℕ → Option ℕ → Option edit.Edit
reweigh_of (Some at) (Some kg) = Some (Reweigh at kg)
reweigh_of at kg = None

abbrev pub insert_of : Option ℕ → Option Op → Option edit.Edit
insert_of (Some at) (Some lift) = Some (Insert at lift)
insert_of at lift = None

-- `swap A B`, `move FROM TO` and `reweigh AT KG`
abbrev pub pair_of : List ℕ → List ℕ → List ℕ → Option edit.Edit
pair_of kind a b =
    if bytes_eq kind (codes "swap") then swap_of (step_in a) (step_in b)
    else if bytes_eq kind (codes "move") then move_of (step_in a) (step_in b)
    else if bytes_eq kind (codes "reweigh") then reweigh_of (step_in a) (mass_in b)
    else None

-- `remove AT`
abbrev pub removal_of : List ℕ → List ℕ → Option edit.Edit
removal_of kind at = if bytes_eq kind (codes "remove") then option_map Remove (step_in at) else None

-- `insert AT` and a step
abbrev pub short_insert : List ℕ → List ℕ → List ℕ → List ℕ → List ℕ → Option edit.Edit
short_insert kind at letter a b =
    if bytes_eq kind (codes "insert") then insert_of (step_in at) (short_step letter a b) else None

abbrev pub long_insert : List ℕ → List ℕ → List ℕ → List ℕ → List ℕ → List ℕ → Option edit.Edit
long_insert kind at letter a b c =
    if bytes_eq kind (codes "insert") then insert_of (step_in at) (long_step letter a b c) else None

-- the edit that the words of a line order, by how many they are
abbrev pub edit_of : List (List ℕ) → Option edit.Edit
edit_of (kind ∷ at ∷ []) = removal_of kind at
edit_of (kind ∷ a ∷ b ∷ []) = pair_of kind a b
edit_of (kind ∷ at ∷ letter ∷ a ∷ b ∷ []) = short_insert kind at letter a b
edit_of (kind ∷ at ∷ letter ∷ a ∷ b ∷ c ∷ []) = long_insert kind at letter a b c
edit_of words = None

-- what a line orders
abbrev pub line_in : List ℕ → Option EditLine
line_in text =
    if bytes_eq text (codes "undo") then Some Undo else option_map Edit (edit_of (words_in text))

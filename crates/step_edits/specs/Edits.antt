-- What an edit makes of a list of steps, why it can't be done, and the edit that takes it back.
-- Steps are numbered from 1.
use Rattle.std.specs.Prelude.{◌≡◌, ◌≢◌, ⊤, ℕ, zero, suc, ◌+◌, ◌≤◌, List, length, Option, None, Some}
use Rattle.std.specs.Prelude.{slice_get, nat_le, Bool, ◌&&◌, if◌then◌else◌}
use Rattle.std.specs.List.{swap, insert, remove}
use Rattle.std.specs.Option.{is_some}
use Rattle.stow_messages.specs.declared.lifts.Lift.TheVariants.{Load}
use Rattle.lift_sequence.specs.declared.operations.Op as operation
use Rattle.lift_sequence.specs.declared.operations.Op.TheVariants.{Lift}
use Rattle.lift_sequence.specs.Follow.{loaded_cell, weighed_at}
use Rattle.lift_sequence.specs.declared.faults.SeqCode.TheVariants.{NoMemory}
use Rattle.step_edits.specs.declared.edits.Edit.{Edit}
use Rattle.step_edits.specs.declared.edits.Edit.TheVariants.{Swap, Move, Remove, Insert, Reweigh}
use Rattle.step_edits.specs.declared.faults.EditFault.{EditFault}
use Rattle.step_edits.specs.declared.faults.EditFault.TheVariants.{NoStep, NotLoad, Sequence}

-- the place of a number, the first place being 0, and the step of a number
abbrev pub place_of : ℕ → ℕ
place_of zero = 0
place_of (suc i) = i

abbrev pub step_at : List operation.Op → ℕ → Option operation.Op
step_at ops zero = None
step_at ops (suc i) = slice_get ops i

-- the list with a step taken out of one place and put in again at another
abbrev pub moved_to : List operation.Op → Option operation.Op → ℕ → ℕ → List operation.Op
moved_to ops None i j = ops
moved_to ops (Some op) i j = insert (remove ops i) j op

-- The list after an edit: two steps in each other's places; a step at the number `to`; without a
-- step; with a new step at the number `at`; with another weight of a load.
abbrev pub edited : List operation.Op → Edit → List operation.Op
edited ops (Swap a b) = swap ops (place_of a) (place_of b)
edited ops (Move from to) = moved_to ops (step_at ops from) (place_of from) (place_of to)
edited ops (Remove at) = remove ops (place_of at)
edited ops (Insert at op) = insert ops (place_of at) op
edited ops (Reweigh at kg) = weighed_at kg (place_of at) ops

-- a number is that of a step in a list of `count` steps
abbrev pub is_number : ℕ → ℕ → Bool
is_number count number = nat_le 1 number && nat_le number count

abbrev pub number_fault : Bool → Option EditFault
number_fault found = if found then None else Some NoStep

abbrev pub weigh_fault : Option operation.Op → Option EditFault
weigh_fault None = Some NoStep
weigh_fault (Some op) = if is_some (loaded_cell op) then None else Some NotLoad

-- Why an edit can't be done, whatever its list then does aboard: a number is that of no step, or
-- the step to be weighed is no load. A new step may come behind all others.
abbrev pub edit_fault : List operation.Op → Edit → Option EditFault
edit_fault ops (Swap a b) = number_fault (is_number (length ops) a && is_number (length ops) b)
edit_fault ops (Move from to) =
    number_fault (is_number (length ops) from && is_number (length ops) to)
edit_fault ops (Remove at) = number_fault (is_number (length ops) at)
edit_fault ops (Insert at op) = number_fault (is_number (length ops + 1) at)
edit_fault ops (Reweigh at kg) = weigh_fault (step_at ops at)

-- out of memory stands for itself, and never inside the refusal of the edited list
abbrev pub TellsMemory : EditFault → Type 0
TellsMemory (Sequence fault) = fault.code ≢ NoMemory
TellsMemory fault = ⊤

-- a number is that of a step in a list of `count` steps, as a proposition
abbrev pub IsNumber : ℕ → ℕ → Type 0
IsNumber count number = (1 ≤ number) × (number ≤ count)

abbrev pub CanBeDone : List operation.Op → Edit → Type 0
CanBeDone ops (Swap a b) = IsNumber (length ops) a × IsNumber (length ops) b
CanBeDone ops (Move from to) = IsNumber (length ops) from × IsNumber (length ops) to
CanBeDone ops (Remove at) = IsNumber (length ops) at
CanBeDone ops (Insert at op) = IsNumber (length ops + 1) at
CanBeDone ops (Reweigh at kg) = IsNumber (length ops) at

-- The edit that puts a removed step back, and the one that gives a load its weight back. Where
-- there is no such step, or it is no load, the edit itself.
abbrev pub put_back : ℕ → Option operation.Op → Edit
put_back at None = Remove at
put_back at (Some op) = Insert at op

abbrev pub weigh_back : ℕ → ℕ → Option operation.Op → Edit
weigh_back at kg (Some (Lift (Load item))) = Reweigh at item.kg
weigh_back at kg other = Reweigh at kg

-- the edit that takes an edit of a list back
abbrev pub inverse : List operation.Op → Edit → Edit
inverse ops (Swap a b) = Swap a b
inverse ops (Move from to) = Move to from
inverse ops (Remove at) = put_back at (step_at ops at)
inverse ops (Insert at op) = Remove at
inverse ops (Reweigh at kg) = weigh_back at kg (step_at ops at)

-- An edit that can be done, and then its inverse, which can be done too, leave a list as it was.
abbrev pub TakesBack : Type 0
TakesBack = (ops : List operation.Op) (edit : Edit) → edit_fault ops edit ≡ None
    → (edit_fault (edited ops edit) (inverse ops edit) ≡ None)
    × (edited (edited ops edit) (inverse ops edit) ≡ ops)

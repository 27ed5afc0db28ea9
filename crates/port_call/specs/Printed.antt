-- What is printed behind `refused` in the line on a run without a report: the code of the input,
-- that of its fault, and the place.
use Rattle.std.specs.Prelude.{ℕ, List, [], ◌++◌, codes}
use Rattle.std.specs.Fmt.{decimal}
use Rattle.ship_profile.specs.Printed.{profile_fault_text}
use Rattle.stow_messages.specs.Printed.{stow_fault_text, steps_fault_text}
use Rattle.lift_sequence.specs.declared.faults.SeqCode.{SeqCode}
use Rattle.lift_sequence.specs.declared.faults.SeqCode.TheVariants.{Overlap, TankOver}
use Rattle.lift_sequence.specs.declared.faults.SeqFault.{SeqFault}
use Rattle.lift_sequence.specs.Printed.{seq_code_text}
use Rattle.prefix_scan.specs.Printed.{cut_fault_text}
use Rattle.port_call.specs.declared.faults.RunFault.{RunFault}
use Rattle.port_call.specs.declared.faults.RunFault.TheVariants.{Profile, Baplie, Arrival, Movins}
use Rattle.port_call.specs.declared.faults.RunFault.TheVariants.{Steps, Sequence, Cuts, NoMemory}
use Rattle.port_call.specs.declared.faults.RunFault.TheVariants.{Write}
use Rattle.port_call.specs.Shown.{cell_text}

-- the other cell of two that overlap
abbrev pub rival_text : SeqCode → List ℕ
rival_text (Overlap cell) = codes " cell " ++ cell_text cell
rival_text code = []

-- a code, the thing at which the fault was found, and its number
abbrev pub placed_text : List ℕ → SeqFault → List ℕ
placed_text thing fault =
    seq_code_text fault.code
    ++ (codes " " ++ (thing ++ (codes " " ++ (decimal fault.at ++ rival_text fault.code))))

-- a fault of the arrival is that of a fill or of an item
abbrev pub thing_of : SeqCode → List ℕ
thing_of TankOver = codes "fill"
thing_of code = codes "item"

abbrev pub run_fault_text : RunFault → List ℕ
run_fault_text (Profile fault) = codes "F1 " ++ profile_fault_text fault
run_fault_text (Baplie fault) = codes "F2 " ++ stow_fault_text fault
run_fault_text (Arrival fault) = codes "F3 " ++ placed_text (thing_of fault.code) fault
run_fault_text (Movins fault) = codes "F4 " ++ stow_fault_text fault
run_fault_text (Steps fault) = codes "F9 " ++ steps_fault_text fault
run_fault_text (Sequence fault) = codes "F5 " ++ placed_text (codes "step") fault
run_fault_text (Cuts fault) = codes "F6 " ++ cut_fault_text fault
run_fault_text NoMemory = codes "F7"
run_fault_text (Write written) = codes "F8 " ++ decimal written

-- The refusals of the inputs as faults of a run, and what kinds of faults a run can have.
use Rattle.std.specs.Prelude.{◌≢◌, Result, Ok, Err, Bool, true, false}
use Rattle.stow_messages.specs.declared.faults.StowCode.TheVariants as stow
use Rattle.stow_messages.specs.declared.step_faults.StepsCode.TheVariants as rows
use Rattle.ship_profile.specs.declared.faults.ProfileFault.TheVariants as profile
use Rattle.lift_sequence.specs.declared.faults.SeqCode.TheVariants as seq
use Rattle.prefix_scan.specs.declared.divisions.CutFault.{CutFault}
use Rattle.prefix_scan.specs.declared.divisions.CutFault.TheVariants as cut
use Rattle.port_call.specs.declared.faults.InputFault.{InputFault}
use Rattle.port_call.specs.declared.faults.InputFault.TheVariants as input
use Rattle.port_call.specs.declared.faults.RunFault.{RunFault}
use Rattle.port_call.specs.declared.faults.RunFault.TheVariants.{Profile, Baplie, Arrival, Movins}
use Rattle.port_call.specs.declared.faults.RunFault.TheVariants.{Steps, Sequence, Cuts, NoMemory}
use Rattle.port_call.specs.declared.faults.RunFault.TheVariants.{Write}

-- a refusal of an input
abbrev pub refused_as : {A E : Type 0} → (E → InputFault) → Result A E → Result A InputFault
refused_as fault (Ok a) = Ok a
refused_as fault (Err e) = Err (fault e)

-- a refusal of the inputs as a fault of the run
abbrev pub run_fault : InputFault → RunFault
run_fault (input.Profile fault) = Profile fault
run_fault (input.Baplie fault) = Baplie fault
run_fault (input.Arrival fault) = Arrival fault
run_fault (input.Movins fault) = Movins fault
run_fault (input.Steps fault) = Steps fault
run_fault (input.Sequence fault) = Sequence fault
run_fault input.NoMemory = NoMemory

-- a fault of the plan of the cuts as one of the run: out of memory stands for itself
abbrev pub cuts_refusal : CutFault → RunFault
cuts_refusal cut.NoMemory = NoMemory
cuts_refusal fault = Cuts fault

-- the sink failed
abbrev pub is_write_fault : RunFault → Bool
is_write_fault (Write written) = true
is_write_fault fault = false

abbrev pub is_write : {A : Type 0} → Result A RunFault → Bool
is_write (Ok a) = false
is_write (Err e) = is_write_fault e

-- the inputs are refused, by their bytes alone; a cut that doesn't fit is no fault of theirs
abbrev pub is_refusal : RunFault → Bool
is_refusal NoMemory = false
is_refusal (Cuts fault) = false
is_refusal (Write written) = false
is_refusal fault = true

-- a fault of a run whose inputs and cuts are right: out of memory, or the sink failed
abbrev pub IsOfRun : RunFault → Type 0
IsOfRun NoMemory = Unit {0}
IsOfRun (Write written) = Unit {0}
IsOfRun fault = ⊥

-- out of memory stands for itself, and never inside the refusal of an input
abbrev pub TellsMemory : RunFault → Type 0
TellsMemory (Profile fault) = fault ≢ profile.NoMemory
TellsMemory (Baplie fault) = fault.code ≢ stow.NoMemory
TellsMemory (Arrival fault) = fault.code ≢ seq.NoMemory
TellsMemory (Movins fault) = fault.code ≢ stow.NoMemory
TellsMemory (Steps fault) = fault.code ≢ rows.NoMemory
TellsMemory (Sequence fault) = fault.code ≢ seq.NoMemory
TellsMemory (Cuts fault) = fault ≢ cut.NoMemory
TellsMemory fault = Unit {0}

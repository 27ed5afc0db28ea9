-- The printed text of codes and faults.
use Rattle.std.specs.Prelude.{ℕ, List, ◌++◌, codes, decimal}
use Rattle.edifact_text.specs.Printed.{edi_fault_text}
use Rattle.stow_messages.specs.declared.faults.StowCode.{StowCode}
use Rattle.stow_messages.specs.declared.faults.StowCode.TheVariants as stow
use Rattle.stow_messages.specs.declared.faults.StowFault.{StowFault}
use Rattle.stow_messages.specs.declared.step_faults.StepsCode.{StepsCode}
use Rattle.stow_messages.specs.declared.step_faults.StepsCode.TheVariants as steps
use Rattle.stow_messages.specs.declared.step_faults.StepsFault.{StepsFault}

-- The fault of an envelope is printed behind its code.
abbrev pub stow_code_text : StowCode → List ℕ
stow_code_text (stow.Envelope fault) = codes "M1 " ++ edi_fault_text fault
stow_code_text stow.BadCell = codes "M2"
stow_code_text stow.IdTooLong = codes "M3"
stow_code_text stow.BadWeight = codes "M4"
stow_code_text stow.WrongUnit = codes "M5"
stow_code_text stow.NoWeight = codes "M6"
stow_code_text stow.LiftWithoutHandling = codes "M7"
stow_code_text stow.UnknownHandling = codes "M8"
stow_code_text stow.TooMany = codes "M9"
stow_code_text stow.NoMemory = codes "M10"

-- The number of the segment is printed behind a code that is found at one.
abbrev pub at_segment : StowCode → ℕ → List ℕ
at_segment (stow.Envelope fault) segment = stow_code_text (stow.Envelope fault)
at_segment stow.NoMemory segment = stow_code_text stow.NoMemory
at_segment code segment = stow_code_text code ++ (codes " segment " ++ decimal segment)

-- As "M2 segment 7", "M1 E7 at 57" and "M10".
abbrev pub stow_fault_text : StowFault → List ℕ
stow_fault_text fault = at_segment fault.code fault.segment

abbrev pub steps_code_text : StepsCode → List ℕ
steps_code_text steps.BadCsv = codes "G1"
steps_code_text steps.BadKind = codes "G2"
steps_code_text steps.BadField = codes "G3"
steps_code_text steps.NoLift = codes "G4"
steps_code_text steps.LiftTwice = codes "G5"
steps_code_text steps.LiftMissing = codes "G6"
steps_code_text steps.TooMany = codes "G7"
steps_code_text steps.NoMemory = codes "G8"

-- The number of the line is printed behind a code, or that of the missing lift.
abbrev pub at_line : StepsCode → ℕ → List ℕ
at_line steps.NoMemory at = steps_code_text steps.NoMemory
at_line steps.LiftMissing at = steps_code_text steps.LiftMissing ++ (codes " lift " ++ decimal at)
at_line code at = steps_code_text code ++ (codes " line " ++ decimal at)

-- As "G3 line 2", "G6 lift 1" and "G8".
abbrev pub steps_fault_text : StepsFault → List ℕ
steps_fault_text fault = at_line fault.code fault.at

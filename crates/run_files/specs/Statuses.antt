-- The exit statuses of the program.
use Rattle.std.specs.Prelude.{ℕ, List, [], ◌∷◌, ◌++◌, map, codes, string_bytes, Option, None, Some}
use Rattle.std.specs.Fmt.{decimal}
use Rattle.edits_file.specs.declared.files.EditsFault.{EditsFault}
use Rattle.edits_file.specs.declared.files.EditsFault.TheVariants as file
use Rattle.port_call.specs.Shown.{shown}
use Rattle.port_call.specs.Printed.{run_fault_text}
use Rattle.port_call.specs.declared.faults.RunFault.{RunFault}
use Rattle.port_call.specs.declared.faults.RunFault.TheVariants as run
use Rattle.command_line.specs.declared.lines.LineFault.{LineFault}
use Rattle.command_line.specs.declared.lines.LineFault.TheVariants as line
use Rattle.run_files.specs.declared.stops.Stop.{Stop}
use Rattle.run_files.specs.declared.stops.Stop.TheVariants.{Refused, Edits, Usage, NoMemory, Read}
use Rattle.run_files.specs.declared.stops.Stop.TheVariants.{Write}

-- of a run that writes its whole report: by the first step that fails, if there is one
abbrev pub status_on : {A : Type 0} → Option A → ℕ
status_on None = 0
status_on (Some first) = 1

-- what stopped a run before its report was whole: an input or a line of the edits file is refused,
-- the words are wrong, out of memory, a file can't be read, standard output can't be written
abbrev pub status_of : Stop → ℕ
status_of (Refused fault) = 2
status_of (Edits number) = 2
status_of (Usage text) = 3
status_of NoMemory = 4
status_of (Read name) = 5
status_of Write = 5

-- the line that standard error gets
abbrev pub stop_text : Stop → List ℕ
stop_text (Refused fault) = codes "refused " ++ run_fault_text fault
stop_text (Edits number) = codes "refused edits line " ++ decimal number
stop_text (Usage text) = string_bytes text
stop_text NoMemory = codes "no memory"
stop_text (Read name) = codes "read fault " ++ string_bytes name
stop_text Write = codes "write fault"

-- a file can't be read: its name is given, or memory ran out
abbrev pub IsUnread : Stop → Type 0
IsUnread NoMemory = Unit {0}
IsUnread (Read name) = Unit {0}
IsUnread stop = ⊥

-- a name on one line: each byte that isn't a visible ASCII character as a question mark
abbrev pub name_shown : List ℕ → List ℕ
name_shown [] = codes "(empty name)"
name_shown (byte ∷ more) = map shown (byte ∷ more)

-- a usage error, a file of edits that isn't read, and a run without a report, as what stopped the
-- program
abbrev pub stop_of_line : LineFault → Stop
stop_of_line (line.Usage text) = Usage text
stop_of_line line.NoMemory = NoMemory

abbrev pub stop_of_edits : EditsFault → Stop
stop_of_edits (file.Line number) = Edits number

abbrev pub stop_of_run : RunFault → Stop
stop_of_run run.NoMemory = NoMemory
stop_of_run (run.Write written) = Write
stop_of_run fault = Refused fault

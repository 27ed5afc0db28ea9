-- What a fault of the profile prints as; a key prints as it is written.
use Rattle.std.specs.Prelude.{ℕ, List, ◌++◌, codes}
use Rattle.std.specs.Fmt.{decimal}
use Rattle.ship_tables.specs.Printed.{file_text, record_text}
use Rattle.ship_profile.specs.declared.faults.ProfileFault.{ProfileFault}
use Rattle.ship_profile.specs.declared.faults.ProfileFault.TheVariants as fault
use Rattle.ship_profile.specs.Keys.{name_of}

-- a fault: its code and its place
abbrev pub profile_fault_text : ProfileFault → List ℕ
profile_fault_text fault.BadToml = codes "P1"
profile_fault_text (fault.MissingKey k) = codes "P2 " ++ name_of k
profile_fault_text (fault.BadKey k) = codes "P3 " ++ name_of k
profile_fault_text (fault.BadCsv f line) = codes "P4 " ++ record_text f line
profile_fault_text (fault.BadNumber f line) = codes "P5 " ++ record_text f line
profile_fault_text (fault.OutOfLimits f line) = codes "P6 " ++ record_text f line
profile_fault_text (fault.NotRising f line) = codes "P7 " ++ record_text f line
profile_fault_text (fault.DoubleCell line) = codes "P8 " ++ decimal line
profile_fault_text (fault.FrameNotStation frame) = codes "P9 " ++ decimal frame
profile_fault_text (fault.OutsideStations f line) = codes "P10 " ++ record_text f line
profile_fault_text (fault.Downflooding angle) = codes "P11 " ++ decimal angle
profile_fault_text (fault.UnknownTank fill) = codes "P12 " ++ decimal fill
profile_fault_text (fault.TooFewRows f) = codes "P13 " ++ file_text f
profile_fault_text fault.NoMemory = codes "P14"

-- What a file of a profile and a fault of its tables print as.
use Rattle.std.specs.Prelude.{ℕ, List, ◌++◌, codes}
use Rattle.std.specs.Fmt.{decimal}
use Rattle.ship_tables.specs.declared.faults.File.{File}
use Rattle.ship_tables.specs.declared.faults.File.TheVariants as file
use Rattle.ship_tables.specs.declared.faults.TableFault.{TableFault}
use Rattle.ship_tables.specs.declared.faults.TableFault.TheVariants as fault

-- the name of a file
abbrev pub file_text : File → List ℕ
file_text file.Ship = codes "ship.toml"
file_text file.Cells = codes "cells.csv"
file_text file.Hydro = codes "hydro.csv"
file_text file.Levers = codes "kn.csv"
file_text file.Bonjean = codes "bonjean.csv"
file_text file.Tanks = codes "tanks.csv"
file_text file.LeastGm = codes "gm.csv"

-- a record of a file: the file's name and the record's number
abbrev pub record_text : File → ℕ → List ℕ
record_text f line = file_text f ++ (codes " " ++ decimal line)

-- a fault: its code and its place
abbrev pub table_fault_text : TableFault → List ℕ
table_fault_text (fault.BadCsv f line) = codes "P4 " ++ record_text f line
table_fault_text (fault.BadNumber f line) = codes "P5 " ++ record_text f line
table_fault_text (fault.OutOfLimits f line) = codes "P6 " ++ record_text f line
table_fault_text (fault.NotRising f line) = codes "P7 " ++ record_text f line
table_fault_text (fault.DoubleCell line) = codes "P8 " ++ decimal line
table_fault_text (fault.OutsideStations f line) = codes "P10 " ++ record_text f line
table_fault_text (fault.TooFewRows f) = codes "P13 " ++ file_text f
table_fault_text fault.NoMemory = codes "P14"

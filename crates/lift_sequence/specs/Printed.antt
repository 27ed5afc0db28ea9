-- The codes of an arrival's and a sequence's faults, as they are printed.
use Rattle.std.specs.Prelude.{ℕ, List, codes}
use Rattle.lift_sequence.specs.declared.faults.SeqCode.{SeqCode}
use Rattle.lift_sequence.specs.declared.faults.SeqCode.TheVariants.{UnknownCell, CellTaken, Overlap}
use Rattle.lift_sequence.specs.declared.faults.SeqCode.TheVariants.{CellEmpty, WrongContainer}
use Rattle.lift_sequence.specs.declared.faults.SeqCode.TheVariants.{TankOver, TooManySteps}
use Rattle.lift_sequence.specs.declared.faults.SeqCode.TheVariants.{NoMemory, UnknownTank}

abbrev pub seq_code_text : SeqCode → List ℕ
seq_code_text UnknownCell = codes "S1"
seq_code_text CellTaken = codes "S2"
seq_code_text (Overlap cell) = codes "S3"
seq_code_text CellEmpty = codes "S4"
seq_code_text WrongContainer = codes "S5"
seq_code_text TankOver = codes "S6"
seq_code_text TooManySteps = codes "S7"
seq_code_text NoMemory = codes "S8"
seq_code_text UnknownTank = codes "S9"

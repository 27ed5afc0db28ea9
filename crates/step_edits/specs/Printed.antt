-- The codes of an edit's faults, as they are printed.
use Rattle.std.specs.Prelude.{ℕ, List, codes}
use Rattle.step_edits.specs.declared.faults.EditFault.{EditFault}
use Rattle.step_edits.specs.declared.faults.EditFault.TheVariants.{NoStep, NotLoad, Sequence}
use Rattle.step_edits.specs.declared.faults.EditFault.TheVariants.{NoMemory}

abbrev pub edit_code_text : EditFault → List ℕ
edit_code_text NoStep = codes "X1"
edit_code_text NotLoad = codes "X2"
edit_code_text (Sequence fault) = codes "X3"
edit_code_text NoMemory = codes "X4"

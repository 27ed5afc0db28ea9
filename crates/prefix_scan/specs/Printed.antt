-- The codes of the faults of cuts, as they are printed.
use Rattle.std.specs.Prelude.{ℕ, List, codes}
use Rattle.prefix_scan.specs.declared.divisions.CutFault.{CutFault}
use Rattle.prefix_scan.specs.declared.divisions.CutFault.TheVariants.{Empty, NotRising, WrongEnd}
use Rattle.prefix_scan.specs.declared.divisions.CutFault.TheVariants.{NoMemory}

abbrev pub cut_fault_text : CutFault → List ℕ
cut_fault_text Empty = codes "K1"
cut_fault_text NotRising = codes "K2"
cut_fault_text WrongEnd = codes "K3"
cut_fault_text NoMemory = codes "K4"

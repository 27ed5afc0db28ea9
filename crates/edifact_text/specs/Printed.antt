-- The printed text of a code, and of a fault.
use Rattle.std.specs.Prelude.{ℕ, List, ◌++◌, codes, decimal}
use Rattle.edifact_text.specs.declared.faults.EdiCode.{EdiCode}
use Rattle.edifact_text.specs.declared.faults.EdiCode.TheVariants.{Truncated, BadUna, NoUnb, Groups}
use Rattle.edifact_text.specs.declared.faults.EdiCode.TheVariants.{NoUnh, WrongType, SegmentCount}
use Rattle.edifact_text.specs.declared.faults.EdiCode.TheVariants.{MessageRef}
use Rattle.edifact_text.specs.declared.faults.EdiCode.TheVariants.{SeveralMessages}
use Rattle.edifact_text.specs.declared.faults.EdiCode.TheVariants.{InterchangeCount, InterchangeRef}
use Rattle.edifact_text.specs.declared.faults.EdiCode.TheVariants.{Trailing, EmptySegment}
use Rattle.edifact_text.specs.declared.faults.EdiCode.TheVariants.{TooManyElements}
use Rattle.edifact_text.specs.declared.faults.EdiFault.{EdiFault}

abbrev pub edi_code_text : EdiCode → List ℕ
edi_code_text Truncated = codes "E1"
edi_code_text BadUna = codes "E2"
edi_code_text NoUnb = codes "E3"
edi_code_text Groups = codes "E4"
edi_code_text NoUnh = codes "E5"
edi_code_text WrongType = codes "E6"
edi_code_text SegmentCount = codes "E7"
edi_code_text MessageRef = codes "E8"
edi_code_text SeveralMessages = codes "E9"
edi_code_text InterchangeCount = codes "E10"
edi_code_text InterchangeRef = codes "E11"
edi_code_text Trailing = codes "E12"
edi_code_text EmptySegment = codes "E13"
edi_code_text TooManyElements = codes "E14"

-- As "E7 at 57".
abbrev pub edi_fault_text : EdiFault → List ℕ
edi_fault_text fault = edi_code_text fault.code ++ (codes " at " ++ decimal fault.place)

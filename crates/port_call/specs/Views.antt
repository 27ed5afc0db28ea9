-- Bookkeeping: the case that the code looks at.
use Rattle.port_call.specs.declared.cases.Case.{Case}
use Rattle.port_call.specs.Cases.{CaseRecord, case_on}

abbrev pub case_in_view : Case → CaseRecord
case_in_view view = case_on view.profile.now view.arrival.now view.sequence.now

use Rattle.std.proofs.Common.{drop}
use Rattle.csv_text.specs.Reading.{HasLeft, records_of}
use Rattle.view_quotes.proofs.records.record_at.Given as goal

abbrev pub invariant-loop-record : goal.invariant-loop-record
invariant-loop-record l = HasLeft l.reader (drop l._record (records_of l.text))

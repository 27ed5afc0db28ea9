use Rattle.csv_text.proofs.ReadingLemmas.{after_read}
use Rattle.csv_text.proofs.records.next_record.Goals as goal
use Rattle.csv_text.proofs.records.next_record.Goals.{in-Ok, in-Err}

pub returns : goal.returns
returns c =
    elim c.match-read_byte_record.branch [
      | in-Ok w ↦ rw w.result-is (λ rest left.
          after_read c.args.reader.now c.read_byte_record.new.self w.in-Ok.found _ rest left (w.in-Ok.ensures.reads left.plain left.ready) (w.in-Ok.ensures.ready left.plain))
      | in-Err w ↦ rw w.result-is _
    ]

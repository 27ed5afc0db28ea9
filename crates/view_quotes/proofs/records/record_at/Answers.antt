use Rattle.std.proofs.Common.{◌≡◌, ℕ, List, drop, Option, Some, slice_get, sym, subst, arith}
use Rattle.csv.specs.Records.{fields_of}
use Rattle.csv_text.specs.Reading.{Fields, HasLeft, records_of}
use Rattle.csv_text.proofs.ReadingLemmas.{gave_one, gave_none}
use Rattle.view_quotes.proofs.RecordLemmas.{left_first, left_more, left_none}
use Rattle.view_quotes.proofs.records.record_at.Goals as goal

pub returns-then-not-branch : goal.returns-then-not-branch
returns-then-not-branch c =
    let all = records_of c.args.text.now in
    let none = gave_none _ _ _ _ c.if-not-branch.true (c.in_ok-next_record.ensures _ c.loop-record.invariant) in
    sym (left_none all c.loop-record._record c.args.place none (omega (arith, c.loop-record-test.true)))

pub loop-record-preserved : goal.loop-record-preserved
loop-record-preserved c =
    let all = records_of c.args.text.now in
    let gave = gave_one _ _ _ _ c.if-not-branch.false (c.in_ok-next_record.ensures _ c.loop-record.invariant) in
    subst (λ (rest : List Fields). HasLeft c.next_record.new.reader rest) (sym (left_more all c.loop-record._record _ gave.0 gave.1)) gave.2

pub returns-then-branch : goal.returns-then-branch
returns-then-branch c =
    let all = records_of c.args.text.now in
    let gave = gave_one _ _ _ _ c.if-branch.true (c.in_ok-next_record-2.ensures _ c.loop-record.invariant) in
    let end : c.loop-record._record ≡ c.args.place = omega (arith, c.loop-record-test.false, c.loop-record.auto._record-end) in
    sym (subst (λ (k : ℕ). ◌≡◌ {A = Option (List (List ℕ))} (slice_get all k) (Some (fields_of c.next_record-2.new.fields))) end (left_first all c.loop-record._record _ gave.0 gave.1))

pub returns : goal.returns
returns c =
    let all = records_of c.args.text.now in
    let none = gave_none _ _ _ _ c.if-branch.false (c.in_ok-next_record-2.ensures _ c.loop-record.invariant) in
    sym (left_none all c.loop-record._record c.args.place none (omega (arith, c.loop-record-test.false, c.loop-record.auto._record-end)))

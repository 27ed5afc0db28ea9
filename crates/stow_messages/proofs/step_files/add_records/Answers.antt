use Rattle.std.proofs.Common.{◌∙◌, arith}
use Rattle.std.proofs.lemmas.Result.{err_from_is_err_and}
use Rattle.csv_text.proofs.ReadingLemmas.{gave_one, gave_none}
use Rattle.stow_messages.proofs.StepLemmas.{rows-more, rows-stop, rows-end}
use Rattle.stow_messages.proofs.step_files.add_records.Goals as goal

pub loop-gathered-preserved : goal.loop-gathered-preserved
loop-gathered-preserved c = record {
  flags = c.in_ok-add_record.ensures.flags;
  few = omega (arith, c.in_ok-add_record.ensures.len, c.in_ok-add_record.ensures.room);
  rest = λ rest has.
      let left = c.loop-gathered.invariant.rest rest has in
      let gave = gave_one _ _ _ _ c.if-branch.true (c.in_ok-read.ensures.ok left.0 left.1) in
      (gave.0, gave.2, left.2 ∙ rows-more _ _ _ _ _ _ gave.1 (omega arith) _ c.in_ok-add_record.ensures.ok);
}

pub returns-in_err-add_record-clause-refused : goal.returns-in_err-add_record-clause-refused
returns-in_err-add_record-clause-refused c =
    let p = err_from_is_err_and c.from_residual-in_err-add_record.result c.from_residual-in_err-add_record.ensures.1 in
    rw (p.1, p.2) (λ rest has m.
    let left = c.loop-gathered.invariant.rest rest has in
    let gave = gave_one _ _ _ _ c.if-branch.true (c.in_ok-read.ensures.ok left.0 left.1) in
    left.2 ∙ rows-stop _ _ _ _ _ _ gave.1 (omega arith) _ (c.in_err-add_record.ensures.refused m))

pub returns-clause-ok : goal.returns-clause-ok
returns-clause-ok c rest has =
    let left = c.loop-gathered.invariant.rest rest has in
    left.2 ∙ rows-end _ _ _ (gave_none _ _ _ _ c.if-branch.false (c.in_ok-read.ensures.ok left.0 left.1))

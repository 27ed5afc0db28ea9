use Rattle.std.proofs.Common.{sym, subst}
use Rattle.seq_report.specs.Written.{HasWritten}
use Rattle.view_sittings.specs.Sessions.{IsFrom}
use Rattle.view_sittings.proofs.SittingLemmas.{written_any, written_on}
use Rattle.view_sittings.proofs.sessions.sit.Goals as goal
use Rattle.view_sittings.proofs.sessions.sit.Goals.{else-loop-test, then-loop-test+in_ok-put+then-not-has_more, then-loop-test+in_ok-put+else-not-has_more+in_ok-take_line+in_ok-next+then-not-goes_on}

pub loop-preserved : goal.loop-preserved
loop-preserved g c = record {
  from = λ base from h. c.in_ok-next.ensures.from base from (c.loop.invariant.from base from h);
  written = written_on _ _ _ c.loop.invariant.written (written_on _ _ _ (written_any _ _ _ c.in_ok-put.ensures) c.in_ok-next.ensures.written);
}

pub returns-clause-from : goal.returns-clause-from
returns-clause-from g c = λ base from h.
    elim c.loop-test.branch [
      | else-loop-test w ↦ subst (IsFrom base from) (sym w.now-is) (c.loop.invariant.from base from h)
      | then-loop-test+in_ok-put+then-not-has_more w ↦ subst (IsFrom base from) (sym w.now-is) (c.loop.invariant.from base from h)
      | then-loop-test+in_ok-put+else-not-has_more+in_ok-take_line+in_ok-next+then-not-goes_on w ↦
          subst (IsFrom base from) (sym w.now-is) (w.in_ok-next.ensures.from base from (c.loop.invariant.from base from h))
    ]

pub returns-clause-written : goal.returns-clause-written
returns-clause-written g c =
    elim c.loop-test.branch [
      | else-loop-test w ↦ rw w.out-is c.loop.invariant.written
      | then-loop-test+in_ok-put+then-not-has_more w ↦ rw w.out-is (written_on _ _ _ c.loop.invariant.written (written_any _ _ _ w.in_ok-put.ensures))
      | then-loop-test+in_ok-put+else-not-has_more+in_ok-take_line+in_ok-next+then-not-goes_on w ↦
          rw w.out-is (written_on _ _ _ c.loop.invariant.written (written_on _ _ _ (written_any _ _ _ w.in_ok-put.ensures) w.in_ok-next.ensures.written))
    ]

use Rattle.std.proofs.Common.{◌∙◌, subst, sym, arith}
use Rattle.moment_sums.specs.Bounded.{IsBounded}
use Rattle.moment_sums.specs.Kept.{size_of}
use Rattle.port_call.specs.Views.{case_in_view}
use Rattle.running_sums.proofs.SumLemmas.{room_behind}
use Rattle.seq_report.proofs.SumLemmas.{sum_here}
use Rattle.seq_report.proofs.failures.sum_at.Goals as goal

pub loop-line-init : goal.loop-line-init
loop-line-init c =
    let case = case_in_view c.args.case in
    let ready = c.args.case.ready in
    record {
      value = c.requires.total.sum;
      bounded = subst IsBounded (sym (c.requires.total.sum ∙ sum_here case ready 0)) (ready.bounded 0);
      room = room_behind case.sequence.steps 0 (size_of c.args.total.now) (omega (arith, ready.few, ready.long)) (omega arith)
          (omega (arith, c.requires.total.size));
    }

use Rattle.std.proofs.Common.{◌∙◌, ◌+◌, ap, refl, subst, sym, arith}
use Rattle.moment_sums.specs.Bounded.{IsBounded}
use Rattle.port_call.specs.Views.{case_in_view}
use Rattle.running_sums.specs.Lines.{change_behind}
use Rattle.running_sums.proofs.SumLemmas.{parts_split}
use Rattle.seq_report.proofs.SumLemmas.{next_size, next_sum, sum_here}
use Rattle.seq_report.proofs.sums.walk_on.Goals as goal

pub pass_line-requires-clause-room : goal.pass_line-requires-clause-room
pass_line-requires-clause-room c =
    let split = parts_split (case_in_view c.args.case).sequence.steps c.args.k in
    omega (arith, split, c.requires.sum.room)

pub returns : goal.returns
returns c =
    let case = case_in_view c.args.case in
    let ready = c.args.case.ready in
    let k = c.args.k in
    let change = change_behind c.frames.result.now case.sequence.steps k in
    let is = ap (λ frames. change_behind frames case.sequence.steps k) c.frames.ensures.value in
    let value = next_sum case ready k c.args.sum.now change c.pass_line.new.sum c.requires.sum.value is c.pass_line.ensures in
    record {
      value = value;
      bounded = subst IsBounded (sym (value ∙ sum_here case ready (k + 1))) (ready.bounded (k + 1));
      room = next_size case ready k c.args.sum.now change c.pass_line.new.sum c.requires.sum.room is c.pass_line.ensures;
    }

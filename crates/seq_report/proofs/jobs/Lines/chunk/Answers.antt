use Rattle.std.proofs.Common.{◌∙◌, ap, subst, sym, arith}
use Rattle.moment_sums.specs.Bounded.{IsBounded}
use Rattle.port_call.specs.Views.{case_in_view}
use Rattle.running_sums.specs.Lines.{parts_behind}
use Rattle.seq_report.specs.Sums.{sum_in}
use Rattle.seq_report.proofs.SumLemmas.{sum_here}
use Rattle.seq_report.proofs.jobs.Lines.chunk.Goals as goal

pub returns-clause-chunk : goal.returns-clause-chunk
returns-clause-chunk c =
    let case = case_in_view c.args.self.now.case in
    let sums = c.args.self.now.sum in
    let start = c.lines_of-lines.ensures.start in
    let at = c.index-self-k.result in
    let value = sums.sum c.args.k at c.requires ∙ ap (sum_in case) (sym start) in
    record {
      some = c.lines_of-lines.ensures.some;
      inside = c.lines_of-lines.ensures.inside;
      sum = record {
        value = value;
        bounded = subst IsBounded (sym (value ∙ sum_here case c.args.self.now.case.ready c.lines_of-lines.result.start)) (c.args.self.now.case.ready.bounded c.lines_of-lines.result.start);
        room = let size = sums.size c.args.k at c.requires in omega (arith, size, ap (parts_behind case.sequence.steps) start);
      };
    }

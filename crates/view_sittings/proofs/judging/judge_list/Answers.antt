use Rattle.std.proofs.Common.{◌∙◌, ap}
use Rattle.seq_report.specs.Refusal.{Outcome}
use Rattle.what_if.specs.Bases.{case_of}
use Rattle.worst_values.specs.Findings.{found_in}
use Rattle.view_sittings.proofs.SittingLemmas.{reported}
use Rattle.view_sittings.proofs.judging.judge_list.Goals as goal

pub returns : goal.returns
returns g c =
    let base = c.args.session.now.base in
    let ops = c.args.session.now.ops in
    c.first_failing-first.ensures (case_of base ops) (c.in_ok-findings.ensures.found ∙ ap found_in c.lines_of-lines.ensures)
    ∙ ap (λ (o : Outcome). o.summary.first) (reported base ops)

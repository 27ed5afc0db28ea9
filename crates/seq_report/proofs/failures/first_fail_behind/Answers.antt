use Rattle.std.proofs.Common.{◌≡◌, ◌∙◌, ◌+◌, ◌-◌, suc, length, map, ap, sym, arith}
use Rattle.std.specs.List.{range_with_len}
use Rattle.port_call.specs.Views.{case_in_view}
use Rattle.seq_report.specs.Cases.{line_in}
use Rattle.seq_report.specs.Report.{first_of}
use Rattle.seq_report.proofs.PassedLemmas.{first_behind}
use Rattle.seq_report.proofs.failures.first_fail_behind.Goals as goal

pub first_failing-requires-clause-chunk : goal.first_failing-requires-clause-chunk
first_failing-requires-clause-chunk c =
    record {
      some = omega (arith, c.lines.ensures, c.requires.inside);
      inside = omega (arith, c.lines.ensures);
      sum = c.sum_at.ensures;
    }

pub returns : goal.returns
returns c =
    let case = case_in_view c.args.case in
    let n = length c.args.case.sequence.now.ops in
    let a = c.args.start in
    let rest = c.lines.result - a in
    let all : a + rest ≡ suc n = omega (arith, c.lines.ensures, c.requires.inside) in
    let here : 0 + a ≡ a = omega arith in
    c.first_failing.ensures ∙ sym (ap (λ m. first_of (map (line_in case) (range_with_len 0 m))) (sym all)
    ∙ (first_behind case a 0 rest (λ k low high. c.requires.passed k (omega (arith, high))) ∙ ap (λ b. first_of (map (line_in case) (range_with_len b rest))) here))

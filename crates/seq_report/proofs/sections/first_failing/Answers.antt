use Rattle.std.proofs.Common.{◌∙◌, ◌+◌, ◌-◌, map, ap, refl, sym}
use Rattle.std.specs.List.{range_with_len}
use Rattle.std.specs.Option.{option_or}
use Rattle.moment_sums.specs.Kept.{values}
use Rattle.port_call.specs.Views.{case_in_view}
use Rattle.seq_report.specs.Cases.{line_in}
use Rattle.seq_report.specs.Report.{first_of, step_line}
use Rattle.seq_report.proofs.ChunkLemmas.{first_here, or_other, or_some}
use Rattle.seq_report.proofs.LineLemmas.{line_told}
use Rattle.seq_report.proofs.sections.first_failing.Goals as goal

pub returns-then-is_some : goal.returns-then-is_some
returns-then-is_some c =
    let case = case_in_view c.args.case in
    let k = c.loop-k.k in
    let e = c.args.chunk.now.end in
    let told = line_told case c.args.case.ready k (values c.loop-k.sum) (step_line case.profile k (values c.loop-k.sum)) c.failure_at-failure.result c.loop-k.invariant.sum.value refl c.failure_at-failure.ensures in
    sym (c.loop-k.invariant.first ∙ first_here case k e c.loop-k-test.true
    ∙ ap (λ o. option_or o (first_of (map (line_in case) (range_with_len (k + 1) (e - (k + 1)))))) (sym told)
    ∙ or_some c.failure_at-failure.result _ (sym c.is_some.ensures ∙ c.if-is_some.true))

pub loop-k-preserved : goal.loop-k-preserved
loop-k-preserved c =
    let case = case_in_view c.args.case in
    let ready = c.args.case.ready in
    let k = c.loop-k.k in
    let e = c.args.chunk.now.end in
    let inv = c.loop-k.invariant in
    let told = line_told case ready k (values c.loop-k.sum) (step_line case.profile k (values c.loop-k.sum)) c.failure_at-failure.result inv.sum.value refl c.failure_at-failure.ensures in
    record {
      first = inv.first ∙ first_here case k e c.loop-k-test.true
          ∙ ap (λ o. option_or o (first_of (map (line_in case) (range_with_len (k + 1) (e - (k + 1)))))) (sym told)
          ∙ or_other c.failure_at-failure.result _ (sym c.is_some.ensures ∙ c.if-is_some.false);
      sum = c.walk_on.ensures;
    }

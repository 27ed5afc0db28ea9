use Rattle.std.proofs.Common.{◌≡◌, ◌∙◌, ◌++◌, ◌+◌, ◌-◌, [], ◌∷◌, map, ap, sym, arith}
use Rattle.std.specs.List.{range_with_len}
use Rattle.std.specs.Option.{option_or}
use Rattle.std.proofs.lemmas.List.FromFn.{map-range_with_len_more}
use Rattle.moment_sums.specs.Kept.{values}
use Rattle.port_call.specs.Views.{case_in_view}
use Rattle.seq_report.specs.Cases.{line_in}
use Rattle.seq_report.specs.Chunks.{Part, part_of}
use Rattle.seq_report.specs.Report.{Line, Statement, failure_of, lift_to, line_of, step_line, text_of}
use Rattle.seq_report.proofs.ChunkLemmas.{part_more}
use Rattle.seq_report.proofs.LineLemmas.{line_here}
use Rattle.seq_report.proofs.sections.make_section.Goals as goal

pub loop-k-preserved : goal.loop-k-preserved
loop-k-preserved c =
    let case = case_in_view c.args.case in
    let ready = c.args.case.ready in
    let ops = case.sequence.ops in
    let k = c.loop-k.k in
    let start = c.args.chunk.now.start in
    let inv = c.loop-k.invariant in
    let n = k - start in
    let lines = map (line_in case) (range_with_len start n) in
    let here : start + n ≡ k = omega arith in
    let more : n + 1 ≡ k + 1 - start = omega arith in
    let s : Statement = step_line case.profile k (values c.loop-k.sum) in
    let line : Line = record { lift = lift_to ops k; step = s } in
    record {
      lines = c.in_ok-add.ensures
          ∙ (λ j. record { text = c.loop-k.section.text ++ line_of (c.lift_to.ensures j) (c.judge.ensures j); first = option_or c.loop-k.section.first (failure_of (c.judge.ensures j)) })
          ∙ ap (λ (p : Part). record { text = p.text ++ text_of line; first = option_or p.first (failure_of s) }) inv.lines
          ∙ part_more lines line
          ∙ ap (λ (l : Line). part_of (lines ++ l ∷ [])) (line_here case ready k (values c.loop-k.sum) inv.sum.value)
          ∙ ap part_of (sym (map-range_with_len_more (line_in case) start n k here))
          ∙ ap (λ m. part_of (map (line_in case) (range_with_len start m))) more;
      sum = c.walk_on.ensures;
    }

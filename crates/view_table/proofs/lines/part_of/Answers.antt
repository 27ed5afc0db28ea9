use Rattle.std.proofs.Common.{◌≡◌, ◌∙◌, ◌+◌, ◌-◌, ℕ, map, string_bytes, ap, sym, arith}
use Rattle.std.specs.List.{range_with_len}
use Rattle.std.proofs.lemmas.List.FromFn.{map-range_with_len_more}
use Rattle.moment_sums.specs.Kept.{values}
use Rattle.port_call.specs.Views.{case_in_view}
use Rattle.seq_report.specs.Cases.{line_in}
use Rattle.seq_report.specs.Report.{Line}
use Rattle.seq_report.proofs.LineLemmas.{line_here}
use Rattle.view_table.specs.Tables.{statement_by}
use Rattle.view_table.proofs.LineLemmas.{line_more}
use Rattle.view_table.proofs.lines.part_of.Goals as goal

pub loop-k-preserved : goal.loop-k-preserved
loop-k-preserved c =
    let case = case_in_view c.args.case in
    let k = c.loop-k.k in
    let start = c.args.chunk.now.start in
    let inv = c.loop-k.invariant in
    let n = k - start in
    let form = c.args.source.now.form in
    let here : start + n ≡ k = omega arith in
    let more : n + 1 ≡ k + 1 - start = omega arith in
    let same = c.judge.ensures k ∙ ap (λ (l : Line). l.step) (line_here case c.args.case.ready k (values c.loop-k.sum) inv.sum.value) in
    let lines = map (line_in case) (range_with_len start n) in
    let whole = sym (map-range_with_len_more (line_in case) start n k here) ∙ ap (λ (m : ℕ). map (line_in case) (range_with_len start m)) more in
    record {
      part = line_more form lines (map (line_in case) (range_with_len start (k + 1 - start))) (line_in case k) (statement_by k c.judge.new.self) (string_bytes c.loop-k.text)
          (string_bytes c.add_line.new.text) c.loop-k.first c.failure.result c.or-first.result whole c.or-first.ensures same inv.part c.in_ok-add_line.ensures c.failure.ensures;
      sum = c.walk_on.ensures;
    }

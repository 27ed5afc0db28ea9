use Rattle.std.proofs.Common.{◌≡◌, ◌∙◌, ◌+◌, ◌++◌, ℕ, List, length, map, flat_map, ap, subst, refl, arith}
use Rattle.std.specs.List.{range_with_len}
use Rattle.port_call.specs.Views.{case_in_view}
use Rattle.running_sums.specs.Lines.{chunk_of}
use Rattle.seq_report.specs.Cases.{line_in}
use Rattle.seq_report.specs.Report.{Line}
use Rattle.seq_report.specs.Written.{HasWritten}
use Rattle.seq_report.proofs.WrittenLemmas.{behind}
use Rattle.worst_values.proofs.GatherLemmas.{all_chunks}
use Rattle.view_table.specs.Tables.{IsPart}
use Rattle.view_table.proofs.LineLemmas.{chunks_join, part_join}
use Rattle.view_table.proofs.tables.write_batches.Goals as goal

pub loop-begin-preserved : goal.loop-begin-preserved
loop-begin-preserved g c =
    let form = c.args.source.now.form in
    let case = case_in_view c.args.lines.now.case in
    let ends = c.args.lines.now.cuts.now in
    let begin = c.loop-begin.begin in
    let count = c.batch_size-count.result in
    let inv = c.loop-begin.invariant in
    let more = c.in_ok-write_batch.ensures in
    let lines : ℕ → ℕ → List Line = λ a n. map (line_in case) (flat_map (chunk_of ends) (range_with_len a n)) in
    record {
      inside = c.batch_size-count.ensures.inside;
      written = behind (g.O.Write.contents c.args.out.now) (g.O.Write.contents c.loop-begin.out) (g.O.Write.contents c.write_batch.new.out) (λ front. IsPart form (lines 0 begin) front c.loop-begin.first)
          (λ whole. IsPart form (lines 0 (begin + count)) whole c.or-first.result) more.0 inv.written more.2
          (λ front q.
          part_join form (lines 0 begin) (lines begin count) (lines 0 (begin + count)) front more.0 c.loop-begin.first c.in_ok-write_batch.field-0 c.or-first.result
          (chunks_join (line_in case) (chunk_of ends) 0 begin begin count (begin + count) (omega arith) refl) c.or-first.ensures q more.1);
    }

pub returns : goal.returns
returns g c =
    let form = c.args.source.now.form in
    let case = case_in_view c.args.lines.now.case in
    let ends = c.args.lines.now.cuts.now in
    let inv = c.loop-begin.invariant in
    let long : c.loop-begin.begin ≡ length ends = omega (arith, c.loop-begin-test.false, inv.inside, c.chunks-chunks.ensures) in
    let whole = ap (λ (n : ℕ). flat_map (chunk_of ends) (range_with_len 0 n)) long ∙ all_chunks case ends c.args.lines.now.cut in
    subst (λ (ks : List ℕ). HasWritten (g.O.Write.contents c.args.out.now) (g.O.Write.contents c.loop-begin.out) (λ text. IsPart form (map (line_in case) ks) text c.loop-begin.first)) whole inv.written

use Rattle.std.proofs.Common.{◌≡◌, ◌∙◌, ◌+◌, ◌++◌, ◌<◌, ℕ, List, length, map, flat_map, get_or, ap, subst, arith}
use Rattle.std.specs.List.{range_with_len}
use Rattle.std.specs.Io.KnownBytes.{Appends}
use Rattle.std.proofs.lemmas.List.FromFn.{get_or-map-range_with_len, length-map-range_with_len}
use Rattle.port_call.specs.Views.{case_in_view}
use Rattle.running_sums.specs.Lines.{chunk_of}
use Rattle.seq_report.specs.Cases.{line_in}
use Rattle.seq_report.specs.Written.{HasWritten}
use Rattle.seq_report.proofs.WrittenLemmas.{behind}
use Rattle.view_table.specs.Tables.{IsPart, Piece, lines_of_piece}
use Rattle.view_table.proofs.LineLemmas.{chunk_more, part_join}
use Rattle.view_table.proofs.tables.write_batch.Goals as goal

pub loop-piece-preserved : goal.loop-piece-preserved
loop-piece-preserved g c =
    let batch = c.args.batch.now in
    let form = batch.source.now.form in
    let case = case_in_view batch.lines.now.case in
    let ends = batch.lines.now.cuts.now in
    let value : ℕ → Piece = λ k. record { form = form; case = case; numbers = chunk_of ends (batch.first + k) } in
    let i = c.loop-piece.piece-index in
    let piece = c.piece-item.result in
    let are = c.deref-piece-items.ensures.value ∙ c.in-Ok.ensures in
    let inside : i < batch.count = omega (arith, c.loop-piece-test.true, ap length are, length-map-range_with_len value 0 batch.count) in
    let is : piece ≡ value i = c.piece-item.is ∙ ap (λ (l : List Piece). get_or l i piece) are ∙ get_or-map-range_with_len value 0 batch.count i i piece inside (omega arith) in
    let text = c.text.result.now in
    let first = c.first.result in
    let part = subst (λ (p : Piece). IsPart p.form (lines_of_piece p) text first) is (record { lines_are = c.text.ensures; first_is = c.first.ensures }) in
    let old = g.O.Write.contents c.args.out.now in
    let mid = g.O.Write.contents c.loop-piece.out in
    let new = g.O.Write.contents c.write_all.new.self in
    let put = subst (λ (bytes : List ℕ). Appends mid new bytes) c.as_bytes.ensures.value c.in-Ok-write_all.ensures.bytes in
    let before = map (line_in case) (flat_map (chunk_of ends) (range_with_len batch.first i)) in
    let here = map (line_in case) (chunk_of ends (batch.first + i)) in
    behind old mid new (λ front. IsPart form before front c.loop-piece.first)
    (λ whole. IsPart form (map (line_in case) (flat_map (chunk_of ends) (range_with_len batch.first (i + 1)))) whole c.or-first.result) text c.loop-piece.invariant put
    (λ front q.
    part_join form before here (map (line_in case) (flat_map (chunk_of ends) (range_with_len batch.first (i + 1)))) front text c.loop-piece.first first c.or-first.result
    (chunk_more (line_in case) (chunk_of ends) batch.first i) c.or-first.ensures q part)

pub returns : goal.returns
returns g c =
    let batch = c.args.batch.now in
    let form = batch.source.now.form in
    let case = case_in_view batch.lines.now.case in
    let ends = batch.lines.now.cuts.now in
    let value : ℕ → Piece = λ k. record { form = form; case = case; numbers = chunk_of ends (batch.first + k) } in
    let are = c.deref-piece-items.ensures.value ∙ c.in-Ok.ensures in
    let long : c.loop-piece.piece-index ≡ batch.count = omega (arith, c.loop-piece-test.false, ap length are, length-map-range_with_len value 0 batch.count) in
    subst (λ (n : ℕ). HasWritten (g.O.Write.contents c.args.out.now) (g.O.Write.contents c.loop-piece.out)
    (λ text. IsPart form (map (line_in case) (flat_map (chunk_of ends) (range_with_len batch.first n))) text c.loop-piece.first)) long c.loop-piece.invariant

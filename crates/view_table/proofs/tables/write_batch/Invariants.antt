use Rattle.std.proofs.Common.{flat_map, map}
use Rattle.std.specs.List.{range_with_len}
use Rattle.port_call.specs.Views.{case_in_view}
use Rattle.running_sums.specs.Lines.{chunk_of}
use Rattle.seq_report.specs.Cases.{line_in}
use Rattle.seq_report.specs.Written.{HasWritten}
use Rattle.view_table.specs.Tables.{IsPart}
use Rattle.view_table.proofs.tables.write_batch.Given as goal

abbrev pub invariant-loop-piece : goal.invariant-loop-piece
invariant-loop-piece g l =
    HasWritten (g.O.Write.contents l.fn.out) (g.O.Write.contents l.out)
    (λ text. IsPart l.fn.batch.source.now.form
    (map (line_in (case_in_view l.fn.batch.lines.now.case)) (flat_map (chunk_of l.fn.batch.lines.now.cuts.now) (range_with_len l.fn.batch.first l.piece-index))) text l.first)

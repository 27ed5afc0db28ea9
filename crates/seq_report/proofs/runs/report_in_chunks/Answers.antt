use Rattle.std.proofs.Common.{◌∙◌, map, ap}
use Rattle.std.specs.List.{range_with_len}
use Rattle.std.proofs.lemmas.Result.{IfOk-weaker}
use Rattle.port_call.specs.Views.{case_in_view}
use Rattle.seq_report.proofs.ChunkLemmas.{part_at, parts_whole}
use Rattle.seq_report.proofs.runs.report_in_chunks.Goals as goal

pub returns : goal.returns
returns g c =
    let case = case_in_view c.args.lines.now.case in
    let ends = c.args.lines.now.cuts.now in
    let are = c.in_ok-made.ensures ∙ ap (λ n. map (part_at case ends) (range_with_len 0 n)) c.chunks.ensures in
    let whole = parts_whole case ends c.args.lines.now.cut c.in_ok-made.made.items _ are c.lines.ensures in
    IfOk-weaker c.join.result _ _ (λ made is. is ∙ whole) c.join.ensures

use Rattle.std.proofs.Common.{◌∙◌, ℕ, List, ◌++◌, ap}
use Rattle.seq_report.specs.Report.{last_line}
use Rattle.view_program.proofs.serving.explanation_text.Goals as goal

pub returns : goal.returns
returns c =
    let first = c.first-first.result in
    let behind = c.as_str.result.now in
    let begun = c.in_ok-write_last_line.ensures ∙ ap (λ (t : List ℕ). t ++ last_line first) c.new-text.ensures.bytes ∙ ap last_line c.first-first.ensures in
    (behind, c.in_ok-push_str.ensures.bytes ∙ ap (λ (t : List ℕ). t ++ behind) begun)

use Rattle.std.proofs.Common.{ℕ, List, ◌++◌, ◌∙◌, codes, string_bytes, append_assoc, ap}
use Rattle.std.proofs.lemmas.Result.{IfOk-weaker}
use Rattle.seq_report.specs.Report.{judged_headings}
use Rattle.seq_report.proofs.lines.write_header.Goals as goal

pub returns : goal.returns
returns c =
    IfOk-weaker c.write_judged_headings.result _ _ (λ x h. h ∙ ap (λ (t : List ℕ). t ++ judged_headings) c.in_ok-push_str.ensures.bytes
    ∙ append_assoc (string_bytes c.args.text.now) (codes "STEP LIFT KG") judged_headings) c.write_judged_headings.ensures

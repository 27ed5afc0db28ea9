use Rattle.std.proofs.Common.{◌≡◌, ◌∙◌, ◌++◌, ap}
use Rattle.port_call.specs.Grounds.{GroundRecord}
use Rattle.run_files.specs.Statuses.{status_on}
use Rattle.seq_report.specs.Report.{last_line}
use Rattle.what_if.specs.Bases.{report_on}
use Rattle.view_sittings.proofs.SittingLemmas.{left_by, written_any}
use Rattle.view_sittings.proofs.sessions.hold.Goals as goal

pub returns : goal.returns
returns g c =
    let base = c.args.session.base in
    let end = c.in_ok-end.end in
    let ops = end.tried.session.ops in
    let from = c.in_ok-end.ensures.from base c.args.session.ops c.in_ok-start.ensures in
    let first : end.first ≡ (report_on base ops).summary.first = end.told ∙ ap (λ (b : GroundRecord). (report_on b ops).summary.first) from.0 in
    let last : c.as_str-2.result.now ≡ last_line (report_on base ops).summary.first =
    c.as_str-2.ensures.value ∙ c.in_ok-write_last_line.ensures ∙ (λ j. c.new-last.ensures.bytes j ++ last_line (first j)) in
    let put = c.in_ok-put-2.ensures in
    left_by base c.args.session.ops (status_on end.first) _ _ _ _ end.tried (written_any _ _ _ c.in_ok-put.ensures) c.in_ok-end.ensures.written
    (put.0, put.1 ∙ last, put.2) from.0 from.1 (ap status_on first)

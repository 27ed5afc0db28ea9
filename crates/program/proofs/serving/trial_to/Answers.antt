use Rattle.std.proofs.Common.{ℕ, ◌<◌, List, length, take, ◌∙◌, Ok, Err, sym, string_bytes, subst, arith}
use Rattle.std.proofs.lemmas.Bool.{true≢false}
use Rattle.std.specs.Io.KnownBytes.{Appends}
use Rattle.port_call.specs.declared.faults.RunFault.{RunFault}
use Rattle.seq_report.specs.Delivery.{IsByPlan}
use Rattle.seq_report.specs.Plans.{IsPlanFault}
use Rattle.seq_report.proofs.RunLemmas.{all_given, part_given}
use Rattle.what_if.specs.Bases.{report_on}
use Rattle.command_line.specs.declared.lines.Task.TheVariants.{WhatIf}
use Rattle.program.proofs.StopLemmas.{of_run}
use Rattle.program.proofs.TrialLemmas.{cut_in_answers, left_behind, whole}
use Rattle.program.proofs.serving.trial_to.Goals as goal

pub returns-clause-written : goal.returns-clause-written
returns-clause-written g c =
    let session = c.in_ok-trial.trial.session in
    let given = all_given (report_on session.base session.ops) (g.S.Sink.contents c.put_all.new.sink) (g.S.Sink.contents c.report.new.sink) (g.S.Sink.has_failed c.report.new.sink)
    (Ok c.in-Ok-report.summary) c.in-Ok-report.ensures.delivers in
    whole c.args.inputs.now c.args.edits.now c.in_ok-trial.trial.session (string_bytes c.in_ok-trial.trial.answers) c.in_ok-trial.ensures.tried
    _ _ _ _ c.in-Ok-report.summary given.0 c.status_on.ensures.value
    (subst (λ (text : List ℕ). Appends (g.S.Sink.contents c.args.sink.now) (g.S.Sink.contents c.put_all.new.sink) text) c.as_bytes.ensures.value c.in-Ok.ensures.ok)
    given.1

pub returns-in_default-clause-left : goal.returns-in_default-clause-left
returns-in_default-clause-left g c =
    cut_in_answers c.args.inputs.now c.args.edits.now c.in_ok-trial.trial.session (string_bytes c.in_ok-trial.trial.answers) c.in_ok-trial.ensures.tried
    _ _ c.in_default.field-0
    (subst (λ (text : List ℕ). c.in_default.field-0 < length text) c.as_bytes.ensures.value c.in_default.ensures.err_short)
    (subst (λ (text : List ℕ). Appends (g.S.Sink.contents c.args.sink.now) (g.S.Sink.contents c.put_all.new.sink) (take c.in_default.field-0 text)) c.as_bytes.ensures.value
    c.in_default.ensures.err)

pub returns-in-Err-clause-stopped : goal.returns-in-Err-clause-stopped
returns-in-Err-clause-stopped g c =
    of_run WhatIf c.args.inputs.now c.args.edits.now _ c.in-Err.fault _ c.from.ensures c.in-Err.ensures.delivers.failed (λ refusal. absurd (true≢false (sym refusal ∙ c.in-Err.ensures.accepted)))
    (λ f is.
    let session = c.in_ok-trial.trial.session in
    let unfit = subst (λ (e : RunFault). IsByPlan c.options_of-options.result.cuts (Ok (report_on session.base session.ops)) (Err e)) is c.in-Err.ensures.plan in
    let none = subst (λ plan. IsPlanFault plan unfit.0.summary.lines f) c.options_of-options.ensures.cuts unfit.2 in
    absurd (omega (arith, none.0)))

pub returns-in-Err-clause-left : goal.returns-in-Err-clause-left
returns-in-Err-clause-left g c =
    left_behind c.args.inputs.now c.args.edits.now c.in_ok-trial.trial.session (string_bytes c.in_ok-trial.trial.answers) c.in_ok-trial.ensures.tried
    _ _ _ c.in-Err.fault _ c.from.ensures c.in-Err.ensures.accepted
    (λ f is.
    let session = c.in_ok-trial.trial.session in
    let unfit = subst (λ (e : RunFault). IsByPlan c.options_of-options.result.cuts (Ok (report_on session.base session.ops)) (Err e)) is c.in-Err.ensures.plan in
    let none = subst (λ plan. IsPlanFault plan unfit.0.summary.lines f) c.options_of-options.ensures.cuts unfit.2 in
    absurd (omega (arith, none.0)))
    (subst (λ (text : List ℕ). Appends (g.S.Sink.contents c.args.sink.now) (g.S.Sink.contents c.put_all.new.sink) text) c.as_bytes.ensures.value c.in-Ok.ensures.ok)
    c.in-Err.ensures.delivers.untouched
    (part_given (report_on c.in_ok-trial.trial.session.base c.in_ok-trial.trial.session.ops) (g.S.Sink.contents c.put_all.new.sink) (g.S.Sink.contents c.report.new.sink)
    (g.S.Sink.has_failed c.report.new.sink) (Err c.in-Err.fault) c.in-Err.ensures.delivers)

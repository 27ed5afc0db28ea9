use Rattle.std.proofs.Common.{◌∙◌, ap, subst, sym}
use Rattle.std.proofs.lemmas.Bool.{true≢false}
use Rattle.std.proofs.lemmas.Result.{IfErr-weaker, IfOk-weaker}
use Rattle.port_call.specs.Refusals.{TellsMemory}
use Rattle.seq_report.specs.Cases.{outcome_in}
use Rattle.seq_report.specs.Refusal.{outcome_if}
use Rattle.seq_report.proofs.RunLemmas.{is_silent, refused, uncut}
use Rattle.seq_report.proofs.failures.first_fail.Goals as goal

pub returns-in-Err-clause-refused : goal.returns-in-Err-clause-refused
returns-in-Err-clause-refused g c =
    (refused c.args.inputs.now c.args.options.now.cuts c.in-Err.fault c.from.result c.from.ensures c.in-Err.ensures.reads.refused).refused

pub returns-in-Err-clause-unfit : goal.returns-in-Err-clause-unfit
returns-in-Err-clause-unfit g c = λ fault is.
    absurd ((refused c.args.inputs.now c.args.options.now.cuts c.in-Err.fault c.from.result c.from.ensures c.in-Err.ensures.reads.refused).uncut fault is)

pub returns-in-Err-clause-silent : goal.returns-in-Err-clause-silent
returns-in-Err-clause-silent g c =
    (refused c.args.inputs.now c.args.options.now.cuts c.in-Err.fault c.from.result c.from.ensures c.in-Err.ensures.reads.refused).silent

pub returns-in-Err-clause-memory : goal.returns-in-Err-clause-memory
returns-in-Err-clause-memory g c = subst TellsMemory (sym c.from.ensures) c.in-Err.ensures.reads.memory

pub returns-clause-first : goal.returns-clause-first
returns-clause-first g c =
    IfOk-weaker c.first_of_call.result _ _ (λ first h. (outcome_in c.in-Ok.call, ap outcome_if c.in-Ok.ensures.reads.read, h.0, h.1)) c.first_of_call.ensures.first

pub returns-clause-refused : goal.returns-clause-refused
returns-clause-refused g c =
    IfErr-weaker c.first_of_call.result _ _
    (λ e h is. absurd (true≢false (sym is ∙ (uncut c.args.options.now.cuts (outcome_in c.in-Ok.call) e h).accepted)))
    c.first_of_call.ensures.uncut

pub returns-clause-unfit : goal.returns-clause-unfit
returns-clause-unfit g c =
    IfErr-weaker c.first_of_call.result _ _
    (λ e h fault is. (outcome_in c.in-Ok.call, ap outcome_if c.in-Ok.ensures.reads.read, ((uncut c.args.options.now.cuts (outcome_in c.in-Ok.call) e h).unfit fault is).1))
    c.first_of_call.ensures.uncut

pub returns-clause-silent : goal.returns-clause-silent
returns-clause-silent g c =
    is_silent c.first_of_call.result
    (IfErr-weaker c.first_of_call.result _ _ (λ e h. (uncut c.args.options.now.cuts (outcome_in c.in-Ok.call) e h).silent) c.first_of_call.ensures.uncut)

pub returns-clause-memory : goal.returns-clause-memory
returns-clause-memory g c =
    IfErr-weaker c.first_of_call.result _ _ (λ e h. (uncut c.args.options.now.cuts (outcome_in c.in-Ok.call) e h).memory) c.first_of_call.ensures.uncut

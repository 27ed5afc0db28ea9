use Rattle.std.proofs.Common.{◌≡◌, ◌∙◌, Ok, ap, sym}
use Rattle.seq_report.specs.Cases.{outcome_in}
use Rattle.seq_report.specs.Refusal.{outcome_if}
use Rattle.port_call.specs.Grounds.{GroundRecord}
use Rattle.what_if.specs.Bases.{report_on}
use Rattle.what_if.specs.Sessions.{SessionRecord}
use Rattle.what_if.proofs.ChangeLemmas.{reports}
use Rattle.what_if.proofs.sessions.Session.read.Goals as goal

pub returns-in-Ok-of_call-clause-outcome : goal.returns-in-Ok-of_call-clause-outcome
returns-in-Ok-of_call-clause-outcome c =
    let call = c.in-Ok.call in
    let base : GroundRecord = record { ship = call.profile; arrival = call.arrival } in
    let same : outcome_in call ≡ report_on c.in-Ok-of_call.session.base c.in-Ok-of_call.session.ops
    = sym (reports base call.sequence) ∙ ap (λ (v : SessionRecord). report_on v.base v.ops) (sym c.in-Ok-of_call.ensures.made) in
    ap outcome_if c.in-Ok.ensures.reads.read ∙ (λ i. Ok (same i))

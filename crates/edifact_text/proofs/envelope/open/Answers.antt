use Rattle.std.proofs.Common.{◌≡◌, ℕ, List, Result, Ok, Err, sym, ◌∙◌}
use Rattle.std.specs.Result.{MatchResult, IfOk, IfErr}
use Rattle.edifact_text.specs.declared.faults.EdiFault.{EdiFault}
use Rattle.edifact_text.specs.declared.faults.Kind.{Kind}
use Rattle.edifact_text.specs.declared.message.Message.{Message}
use Rattle.edifact_text.specs.Faults.{IsMessage, IsFault}
use Rattle.edifact_text.specs.Reading.{opened}
use Rattle.edifact_text.specs.Stages.{Gives, staged}
use Rattle.edifact_text.specs.Views.{message_view}
use Rattle.edifact_text.proofs.OpenedLemmas.{staged_opened, message_is, fault_is}
use Rattle.edifact_text.proofs.envelope.open.Goals as goal

exact_is : (kind : Kind) (text : List ℕ) (r : Result Message EdiFault) → Gives message_view r (staged kind text) →
    MatchResult r (λ m. opened kind text ≡ Ok (message_view m)) (λ e. opened kind text ≡ Err e)
exact_is kind text (Ok m) h = sym (staged_opened kind text) ∙ h
exact_is kind text (Err e) h = sym (staged_opened kind text) ∙ h

if_message : (kind : Kind) (text : List ℕ) (r : Result Message EdiFault) → Gives message_view r (staged kind text) →
    IfOk r (λ m. IsMessage kind text (message_view m).mark (message_view m).segments)
if_message kind text (Ok m) h = message_is kind text (message_view m) (sym (staged_opened kind text) ∙ h)
if_message kind text (Err e) h = tt

if_fault : (kind : Kind) (text : List ℕ) (r : Result Message EdiFault) → Gives message_view r (staged kind text) → IfErr r (λ e. IsFault kind text e)
if_fault kind text (Ok m) h = tt
if_fault kind text (Err e) h = fault_is kind text e (sym (staged_opened kind text) ∙ h)

pub returns : goal.returns
returns c = record {
  exact = exact_is c.args.kind c.args.bytes.now c.read_text.result c.read_text.ensures;
  message = if_message c.args.kind c.args.bytes.now c.read_text.result c.read_text.ensures;
  fault = if_fault c.args.kind c.args.bytes.now c.read_text.result c.read_text.ensures;
}

use Rattle.std.proofs.Common.{sym, ap, ◌∙◌}
use Rattle.edifact_text.specs.Rows.{is_text}
use Rattle.edifact_text.specs.Stages.{part}
use Rattle.edifact_text.specs.Views.{meaning_of}
use Rattle.edifact_text.specs.declared.service.Service.{Service}
use Rattle.edifact_text.proofs.Texts.{told}
use Rattle.edifact_text.proofs.segment_text.SegmentText.same.Goals as goal

pub returns : goal.returns
returns c =
    told c.same.result (meaning_of c.component.result) (meaning_of c.component-2.result) c.same.ensures
    ∙ (ap (λ xs. is_text xs (meaning_of c.component-2.result)) c.component.ensures
    ∙ (ap (is_text (part c.args.self.service c.args.self.bytes.now c.args.i c.args.j)) c.component-2.ensures
    ∙ ap (λ (sv : Service). is_text (part c.args.self.service c.args.self.bytes.now c.args.i c.args.j)
    (part sv c.args.other.bytes.now c.args.k c.args.l)) (sym c.requires)))

use Rattle.edifact_text.proofs.OrdinaryLemmas.{capital_parts}
use Rattle.edifact_text.proofs.components.is_plain.Goals as goal

pub returns-in-len4-up : goal.returns-in-len4-up
returns-in-len4-up c = λ h.
    capital_parts c.args.service c.args.bytes.now c.requires c.in-len4-up.len_at_least c.if-is_capital.ensures c.if-is_capital-2.ensures
    c.if-is_capital-3.ensures c.if-d-service.true

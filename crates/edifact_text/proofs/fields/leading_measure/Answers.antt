use Rattle.std.proofs.Common.{ap, ◌∙◌}
use Rattle.edifact_text.specs.Rows.{count_of}
use Rattle.edifact_text.proofs.FieldLemmas.{measure_parts}
use Rattle.edifact_text.proofs.fields.leading_measure.Goals as goal

pub returns-in_ok-number-in-len4-up-clause-unit : goal.returns-in_ok-number-in-len4-up-clause-unit
returns-in_ok-number-in-len4-up-clause-unit c =
    (measure_parts c.args.service c.args.bytes.now c.args.first c.args.second c.args.third c.requires c.in-len4-up.len_at_least c.if-a-first.true
    c.if-b-second.true c.if-c-third.true c.if-d-service.true c.if-is_capital.ensures c.if-is_capital-2.ensures c.if-is_capital-3.ensures).0

pub returns-in_ok-number-in-len4-up-clause-number : goal.returns-in_ok-number-in-len4-up-clause-number
returns-in_ok-number-in-len4-up-clause-number c =
    ap count_of (measure_parts c.args.service c.args.bytes.now c.args.first c.args.second c.args.third c.requires c.in-len4-up.len_at_least c.if-a-first.true
    c.if-b-second.true c.if-c-third.true c.if-d-service.true c.if-is_capital.ensures c.if-is_capital-2.ensures c.if-is_capital-3.ensures).1
    ∙ c.in_ok-number-in-len4-up.ensures

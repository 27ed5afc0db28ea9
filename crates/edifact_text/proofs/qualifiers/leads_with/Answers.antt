use Rattle.std.proofs.Common.{sym}
use Rattle.edifact_text.proofs.QualifierLemmas.{goes_on}
use Rattle.edifact_text.proofs.qualifiers.leads_with.Goals as goal

pub loop-expected-preserved : goal.loop-expected-preserved
loop-expected-preserved c =
    goes_on c.args.service c.args.bytes.now c.loop-expected.left.now c.args.text.now c.loop-expected.expected-index c.requires c.loop-expected-test.true
    (sym c.if-not-is_plain.ensures) c.in-len1-up.len_at_least c.if-first-expected.false c.loop-expected.invariant

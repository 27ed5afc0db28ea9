use Rattle.std.proofs.Common.{arith, get_or}
use Rattle.edifact_text.proofs.FieldLemmas.{digit_further, number_further, small_further}
use Rattle.edifact_text.proofs.fields.leading_count.Goals as goal

pub loop-at-preserved : goal.loop-at-preserved
loop-at-preserved c = record {
  lead = digit_further c.args.service c.args.bytes.now c.loop-at.at c.requires c.loop-at-test.true c.if-not-is_digit.ensures c.loop-at.invariant.lead;
  number = number_further c.args.bytes.now c.loop-at.at c.loop-at.value c.from.result c.loop-at-test.true c.if-not-is_digit.ensures c.from.ensures
      c.loop-at.invariant.number;
  few = omega arith;
  small = small_further c.loop-at.at c.loop-at.value c.from.result (get_or c.args.bytes.now c.loop-at.at 0) c.loop-at.invariant.small
      c.if-not-is_digit.ensures c.from.ensures;
}

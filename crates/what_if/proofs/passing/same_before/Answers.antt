use Rattle.std.proofs.Common.{◌≡◌, ◌∙◌, ◌<◌, get_or, length, ap, sym, arith}
use Rattle.lift_sequence.specs.declared.operations.Op.{Op}
use Rattle.what_if.proofs.PassingLemmas.{one_more_alike}
use Rattle.what_if.proofs.passing.same_before.Goals as goal

pub loop-k-preserved : goal.loop-k-preserved
loop-k-preserved c =
    let k = c.loop-k.k in
    let one = c.index-ops-k.result in
    let other = c.index-others-k.result in
    let equal : one ≡ other = c.same_op.ensures c.if-not-same_op.false in
    let inside : k < length c.args.ops.now = omega (arith, c.loop-k-test.true, c.min-most.ensures) in
    let there : k < length c.args.others.now = omega (arith, c.loop-k-test.true, c.min-most.ensures) in
    record {
      alike = one_more_alike c.args.ops.now c.args.others.now k one inside there c.loop-k.invariant.alike
          (sym c.index-ops-k.is ∙ (equal ∙ (c.index-others-k.is ∙ ap (λ (d : Op). get_or c.args.others.now k d) (sym equal))));
    }

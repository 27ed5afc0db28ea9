use Rattle.std.proofs.Common.{◌≡◌, ◌∙◌, take, List, ap, subst, sym, arith}
use Rattle.std.specs.Arc.{arc_value}
use Rattle.lift_sequence.specs.declared.operations.Op.{Op}
use Rattle.port_call.specs.Grounds.{GroundRecord}
use Rattle.what_if.specs.Bases.{Pass}
use Rattle.what_if.proofs.PassingLemmas.{pass_alike}
use Rattle.what_if.proofs.passing.Passed.count_on.Goals as goal

pub returns-clause-pass : goal.returns-clause-pass
returns-clause-pass c =
    let kept = c.args.self.now in
    let same = c.same_before.result in
    let n = c.min-count.result in
    let equal : arc_value kept.base ≡ c.args.base.now = sym c.deref-2.ensures ∙ c.same.ensures.0 c.if-not-same.false in
    let alike : take same kept.ops.items ≡ take same c.args.ops.now = ap (λ (l : List Op). take same l) (sym c.deref.ensures.value) ∙ c.same_before.ensures.same in
    subst (λ (b : GroundRecord). Pass b c.args.ops.now n) equal
    (pass_alike (arc_value kept.base) kept.ops.items c.args.ops.now kept.count same n alike (omega (arith, c.min-count.ensures)) (omega (arith, c.min-count.ensures)) kept.pass)

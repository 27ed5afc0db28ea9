use Rattle.std.proofs.Common.{◌≡◌, ◌∙◌, ◌-◌, ◌<◌, ◌≤◌, arith, ap, length, refl, subst, sym}
use Rattle.std.specs.List.{AllByRecursion}
use Rattle.lift_sequence.specs.Independent.{CanPass, moved}
use Rattle.lift_sequence.specs.Sequence.{IsLight, SequenceRecord}
use Rattle.lift_sequence.proofs.LightLemmas.{light_moved}
use Rattle.lift_sequence.proofs.ShiftLemmas.{moved_legal, moved_steps}
use Rattle.lift_sequence.proofs.sequences.Sequence.shift.Goals as goal

pub returns-clause-legal : goal.returns-clause-legal
returns-clause-legal c =
    let i = c.args.from - 1 in
    let j = c.args.to - 1 in
    let old = c.args.self.now in
    let orders : c.self.inside.ops.items ≡ old.ops = ap (λ (s : SequenceRecord). s.ops) c.self.view_is in
    let free : CanPass old.ops i j = subst (λ ops. CanPass ops i j) (c.deref.ensures.value ∙ orders) (c.if-not-can_pass.ensures.0 refl) in
    let ops = c.carry.ensures.list ∙ ap (λ xs. moved xs i j) orders in
    let low : i < length old.ops = omega (arith, c.requires.first.0, c.requires.last.0) in
    let high : j < length old.ops = omega (arith, c.requires.first.1, c.requires.last.1) in
    λ ship at legal. moved_legal ship at old.ops _ i j low high free ops legal

pub returns-clause-done : goal.returns-clause-done
returns-clause-done c =
    let i = c.args.from - 1 in
    let j = c.args.to - 1 in
    let old = c.args.self.now in
    let orders : c.self.inside.ops.items ≡ old.ops = ap (λ (s : SequenceRecord). s.ops) c.self.view_is in
    let steps : c.self.inside.steps.items ≡ old.steps = ap (λ (s : SequenceRecord). s.steps) c.self.view_is in
    let free : CanPass old.ops i j = subst (λ ops. CanPass ops i j) (c.deref.ensures.value ∙ orders) (c.if-not-can_pass.ensures.0 refl) in
    let ops = c.carry.ensures.list ∙ ap (λ xs. moved xs i j) orders in
    let are = c.carry-2.ensures.list ∙ ap (λ xs. moved xs i j) steps in
    let low : i < length old.ops = omega (arith, c.requires.first.0, c.requires.last.0) in
    let high : j < length old.ops = omega (arith, c.requires.first.1, c.requires.last.1) in
    λ ship at legal done. moved_steps ship at old.ops _ old.steps _ i j low high free ops are legal done

pub invariant_of-self : goal.invariant_of-self
invariant_of-self c = record {
  long = c.carry-2.ensures.long ∙ c.self.invariant.long ∙ sym c.carry.ensures.long;
  few = subst (λ n. n ≤ 120000) (sym c.carry.ensures.long) c.self.invariant.few;
  light = subst (AllByRecursion IsLight) (sym c.carry.ensures.list) (light_moved c.self.inside.ops.items (c.args.from - 1) (c.args.to - 1) c.self.invariant.light);
}

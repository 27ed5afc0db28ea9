use Rattle.std.proofs.Common.{◌≡◌, ◌∙◌, ◌∷◌, ◌+◌, ◌++◌, ◌≤◌, ap, arith, drop, length, refl, rules, take}
use Rattle.std.specs.List.{insert}
use Rattle.lift_sequence.specs.Sequence.{SequenceRecord}
use Rattle.lift_sequence.specs.Singles.{handed_by}
use Rattle.lift_sequence.proofs.SingleLemmas.{before_put, behind_put}
use Rattle.lift_sequence.proofs.WalkLemmas.{all_written}
use Rattle.lift_sequence.proofs.sequences.Sequence.add.Goals as goal

pub returns-clause-steps : goal.returns-clause-steps
returns-clause-steps c =
    let i = c.args.place in
    let old = c.args.self.now in
    let op = c.args.op.now in
    let step = c.args.step in
    let orders : c.self.inside.ops.items ≡ old.ops = ap (λ (s : SequenceRecord). s.ops) c.self.view_is in
    let steps : c.self.inside.steps.items ≡ old.steps = ap (λ (s : SequenceRecord). s.steps) c.self.view_is in
    let long : length c.hand_on_by.new.steps ≡ c.insert-2.new.self.len = search rules in
    let written = all_written c.hand_on_by.new.steps (drop (length c.hand_on_by.new.steps) c.insert-2.new.self.items) c.insert-2.new.self.len long in
    let steps_in : c.deref_mut.result.now ≡ insert old.steps i step =
    c.deref_mut.ensures.value ∙ c.in-Ok-insert.ensures.items ∙ ap (λ l. insert l i step) (c.in_ok-reserve-2.ensures.items ∙ steps) in
    let orders_in : c.deref.result.now ≡ insert old.ops i op =
    c.deref.ensures.value ∙ c.in-Ok.ensures.items ∙ (λ j. insert ((c.in_ok-reserve.ensures.items ∙ orders) j) i (c.copy.ensures j)) in
    let within_steps : i ≤ length old.steps = omega (arith, c.requires.within, c.self.invariant.long, ap length orders, ap length steps) in
    written ∙ c.hand_on_by.ensures.steps
    ∙ (λ j. take (i + 1) (steps_in j) ++ handed_by op step.put (drop (i + 1) (orders_in j)) (drop (i + 1) (steps_in j)))
    ∙ before_put old.steps i (i + 1) step within_steps refl (handed_by op step.put (drop (i + 1) (insert old.ops i op)) (drop (i + 1) (insert old.steps i step)))
    ∙ (λ j. take i old.steps
    ++ (step ∷ handed_by op step.put (behind_put old.ops i (i + 1) op c.requires.within refl j) (behind_put old.steps i (i + 1) step within_steps refl j)))

use Rattle.std.proofs.Common.{◌≡◌, ◌∙◌, ◌+◌, ◌-◌, ◌<◌, ◌≤◌, ap, arith, drop, get_or, length, refl, rules, subst, sym, true}
use Rattle.std.specs.List.{AllByRecursion}
use Rattle.std.proofs.lemmas.Slice.Eq.{bytes_eq-Decides}
use Rattle.units_core.specs.declared.steps.Step.{Step}
use Rattle.lift_sequence.specs.declared.operations.Op.TheVariants.{Fill}
use Rattle.lift_sequence.specs.Bodies.{step_of, steps_of}
use Rattle.lift_sequence.specs.Independent.{fills, moved}
use Rattle.lift_sequence.specs.Sequence.{IsLight, SequenceRecord, sequence_fault}
use Rattle.lift_sequence.specs.Singles.{filled_past, next_filling}
use Rattle.lift_sequence.proofs.LightLemmas.{light_moved}
use Rattle.lift_sequence.proofs.PastLemmas.{is_one, moved_there, next_is, past_legal, past_steps}
use Rattle.lift_sequence.proofs.sequences.Sequence.shift_filling.Goals as goal

-- the step is a filling of the tank of its name
is_there : (c : goal.After-carry_filling-next) → (c.args.from - 1 < length c.args.self.now.ops)
    × (c.index.result.now ≡ get_or c.args.self.now.ops (c.args.from - 1) c.index.result.now) × (fills c.index.result.now c.in-Fill.name.items ≡ true)
is_there c =
    let name = c.in-Fill.name.items in
    let op = c.index.result.now in
    let is : op ≡ Fill c.in-Fill.name c.in-Fill.kg = search rules in (
      omega (arith, c.requires.first.0, c.requires.last.0),
      search rules,
      (λ k. fills (is k) name) ∙ (bytes_eq-Decides name name).1 refl,
    )

pub invariant_of-self : goal.invariant_of-self
invariant_of-self c = record {
  long = c.carry_filling-next.ensures.as_many;
  few = subst (λ n. n ≤ 120000) (sym c.carry_filling-next.ensures.long) c.self.invariant.few;
  light = subst (AllByRecursion IsLight) (sym c.carry_filling-next.ensures.ops)
      (light_moved c.self.inside.ops.items (c.args.from - 1) (c.args.to - 1) c.self.invariant.light);
}

pub returns-clause-answers : goal.returns-clause-answers
returns-clause-answers c =
    let is = is_there c in
    is_one c.in-Fill.name.items c.args.self.now.ops (c.args.from - 1) c.index.result.now is.0 is.1 is.2

pub returns-clause-next : goal.returns-clause-next
returns-clause-next c =
    let i = c.args.from - 1 in
    let j = c.args.to - 1 in
    let old = c.args.self.now in
    let op = c.index.result.now in
    let name = c.in-Fill.name.items in
    let is = is_there c in
    let orders : c.self.inside.ops.items ≡ old.ops = ap (λ (s : SequenceRecord). s.ops) c.self.view_is in
    let ops = c.carry_filling-next.ensures.ops ∙ ap (λ l. moved l i j) orders in
    let called : c.as_slice.result.now ≡ name = search rules in
    let high : j < length old.ops = omega (arith, c.requires.first.1, c.requires.last.1) in
    let high_now : j < length c.carry_filling-next.new.ops.items = omega (arith, high, c.carry_filling-next.ensures.long, ap length orders) in
    let there = subst (λ l. op ≡ get_or l j op) (sym ops) (moved_there old.ops i j op is.0 high is.1) in (
      c.carry_filling-next.ensures.behind_old ∙ (λ k. i + 1 + next_filling (called k) (drop (i + 1) (orders k))) ∙ next_is name old.ops i op is.0 is.1 is.2,
      c.carry_filling-next.ensures.behind_new ∙ (λ k. j + 1 + next_filling (called k) (drop (j + 1) c.carry_filling-next.new.ops.items))
          ∙ next_is name c.carry_filling-next.new.ops.items j op high_now there is.2,
    )

pub returns-clause-legal : goal.returns-clause-legal
returns-clause-legal c =
    let i = c.args.from - 1 in
    let j = c.args.to - 1 in
    let old = c.args.self.now in
    let is = is_there c in
    let orders : c.self.inside.ops.items ≡ old.ops = ap (λ (s : SequenceRecord). s.ops) c.self.view_is in
    let ops = c.carry_filling-next.ensures.ops ∙ ap (λ l. moved l i j) orders in
    let high : j < length old.ops = omega (arith, c.requires.first.1, c.requires.last.1) in
    λ ship at legal. ap (sequence_fault ship at) ops ∙ past_legal c.in-Fill.name.items ship at old.ops i j c.index.result.now is.0 high is.1 is.2 legal

pub returns-clause-done : goal.returns-clause-done
returns-clause-done c =
    let i = c.args.from - 1 in
    let j = c.args.to - 1 in
    let old = c.args.self.now in
    let op = c.index.result.now in
    let name = c.in-Fill.name.items in
    let is = is_there c in
    let orders : c.self.inside.ops.items ≡ old.ops = ap (λ (s : SequenceRecord). s.ops) c.self.view_is in
    let steps : c.self.inside.steps.items ≡ old.steps = ap (λ (s : SequenceRecord). s.steps) c.self.view_is in
    let ops = c.carry_filling-next.ensures.ops ∙ ap (λ l. moved l i j) orders in
    let called : c.as_slice.result.now ≡ name = search rules in
    let high : j < length old.ops = omega (arith, c.requires.first.1, c.requires.last.1) in
    let long : length old.steps ≡ length old.ops = ap length (sym steps) ∙ c.self.invariant.long ∙ ap length orders in
    λ ship at legal done.
    let some : Step = step_of ship at op in
    c.carry_filling-next.ensures.steps some ∙ (λ k. filled_past (called k) i j (orders k) some (steps k))
    ∙ past_steps name ship at old.ops i j op is.0 high is.1 is.2 legal old.steps some done long ∙ ap (steps_of ship at) (sym ops)

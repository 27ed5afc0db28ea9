use Rattle.std.proofs.Common.{◌≡◌, ◌∙◌, ◌+◌, ◌-◌, ◌<◌, ap, arith, drop, get_or, length, refl, rules, swap, sym, true}
use Rattle.std.proofs.lemmas.List.{get_or_default}
use Rattle.std.proofs.lemmas.Slice.Eq.{bytes_eq-Decides}
use Rattle.units_core.specs.declared.steps.Step.{Step}
use Rattle.lift_sequence.specs.declared.operations.Op.TheVariants.{Fill}
use Rattle.lift_sequence.specs.Bodies.{step_of, steps_of}
use Rattle.lift_sequence.specs.Independent.{fills}
use Rattle.lift_sequence.specs.Sequence.{SequenceRecord, sequence_fault}
use Rattle.lift_sequence.specs.Singles.{next_filling, refilled}
use Rattle.lift_sequence.proofs.FillingLemmas.{fillings_legal, fillings_steps}
use Rattle.lift_sequence.proofs.PastLemmas.{next_is}
use Rattle.lift_sequence.proofs.WalkLemmas.{all_written}
use Rattle.lift_sequence.proofs.sequences.Sequence.swap_fillings.Goals as goal

-- both steps fill the tank of the first one's name
both_fill : (c : goal.After-swap) → (fills (get_or c.args.self.now.ops (c.args.a - 1) c.index.result.now) c.in-Fill.name.items ≡ true)
    × (fills (get_or c.args.self.now.ops (c.args.b - 1) c.index.result.now) c.in-Fill.name.items ≡ true)
both_fill c =
    let ops = c.args.self.now.ops in
    let d = c.index.result.now in
    let e = c.index-2.result.now in
    let name = c.in-Fill.name.items in
    let high : c.args.b - 1 < length ops = omega (arith, c.requires.first.1, c.requires.last.1) in
    let is : d ≡ Fill c.in-Fill.name c.in-Fill.kg = search rules in
    let first : d ≡ get_or ops (c.args.a - 1) d = search rules in
    let second : e ≡ get_or ops (c.args.b - 1) e = search rules in
    let other : fills e name ≡ true = search rules in (
      (λ k. fills (sym first k) name) ∙ (λ k. fills (is k) name) ∙ (bytes_eq-Decides name name).1 refl,
      ap (λ x. fills x name) (get_or_default ops (c.args.b - 1) d e high ∙ sym second) ∙ other,
    )

pub returns-clause-legal : goal.returns-clause-legal
returns-clause-legal c =
    let i = c.args.a - 1 in
    let j = c.args.b - 1 in
    let old = c.args.self.now in
    let low : i < length old.ops = omega (arith, c.requires.first.0, c.requires.last.0) in
    let high : j < length old.ops = omega (arith, c.requires.first.1, c.requires.last.1) in
    let both = both_fill c in
    let ops : c.swap.new.self.items ≡ swap old.ops i j = c.swap.ensures.items ∙ ap (λ (s : SequenceRecord). swap s.ops i j) c.self.view_is in
    λ ship at legal. ap (sequence_fault ship at) ops ∙ fillings_legal ship c.in-Fill.name.items at old.ops i j c.index.result.now low high both.0 both.1 legal

pub returns-clause-done : goal.returns-clause-done
returns-clause-done c =
    let i = c.args.a - 1 in
    let j = c.args.b - 1 in
    let old = c.args.self.now in
    let d = c.index.result.now in
    let name = c.in-Fill.name.items in
    let orders : c.self.inside.ops.items ≡ old.ops = ap (λ (s : SequenceRecord). s.ops) c.self.view_is in
    let steps : c.self.inside.steps.items ≡ old.steps = ap (λ (s : SequenceRecord). s.steps) c.self.view_is in
    let low : i < length old.ops = omega (arith, c.requires.first.0, c.requires.last.0) in
    let high : j < length old.ops = omega (arith, c.requires.first.1, c.requires.last.1) in
    let both = both_fill c in
    let ops : c.swap.new.self.items ≡ swap old.ops i j = c.swap.ensures.items ∙ ap (λ l. swap l i j) orders in
    let long : length c.exchange_puts-next.new.steps ≡ c.self.inside.steps.len = search rules in
    let written = all_written c.exchange_puts-next.new.steps (drop (length c.exchange_puts-next.new.steps) c.self.inside.steps.items) c.self.inside.steps.len long in
    let steps_in = c.deref_mut.ensures.value ∙ steps in
    let orders_in = c.deref.ensures.value ∙ orders in
    let called : c.as_slice-2.result.now ≡ name = search rules in
    λ ship at legal done.
    let some : Step = step_of ship at d in
    written ∙ c.exchange_puts-next.ensures.steps some
    ∙ (λ k. refilled (called k) (get_or (steps_in k) i some).put j (orders_in k) (refilled (called k) (get_or (steps_in k) j some).put i (orders_in k) (steps_in k)))
    ∙ fillings_steps ship name at old.ops i j d low high both.0 both.1 old.steps some legal done ∙ ap (steps_of ship at) (sym ops)

pub returns-clause-next : goal.returns-clause-next
returns-clause-next c =
    let i = c.args.a - 1 in
    let j = c.args.b - 1 in
    let ops = c.args.self.now.ops in
    let name = c.in-Fill.name.items in
    let d = c.index.result.now in
    let low : i < length ops = omega (arith, c.requires.first.0, c.requires.last.0) in
    let high : j < length ops = omega (arith, c.requires.first.1, c.requires.last.1) in
    let both = both_fill c in
    let called : c.as_slice-2.result.now ≡ name = search rules in
    let orders_in = c.deref.ensures.value ∙ ap (λ (s : SequenceRecord). s.ops) c.self.view_is in (
      c.exchange_puts-next.ensures.behind_one ∙ (λ k. i + 1 + next_filling (called k) (drop (i + 1) (orders_in k)))
          ∙ next_is name ops i (get_or ops i d) low (get_or_default ops i d (get_or ops i d) low) both.0,
      c.exchange_puts-next.ensures.behind_other ∙ (λ k. j + 1 + next_filling (called k) (drop (j + 1) (orders_in k)))
          ∙ next_is name ops j (get_or ops j d) high (get_or_default ops j d (get_or ops j d) high) both.1,
    )

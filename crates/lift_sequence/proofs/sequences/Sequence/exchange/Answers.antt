use Rattle.std.proofs.Common.{◌≡◌, ◌∙◌, ◌<◌, ◌≤◌, ap, arith, length, refl, subst, swap, sym}
use Rattle.std.specs.List.{AllByRecursion}
use Rattle.std.proofs.lemmas.List.Edits.{length-swap}
use Rattle.lift_sequence.specs.Independent.{AreExchangeable}
use Rattle.lift_sequence.specs.Sequence.{IsLight, SequenceRecord}
use Rattle.lift_sequence.proofs.ExchangeLemmas.{exchanged_legal, exchanged_steps}
use Rattle.lift_sequence.proofs.LightLemmas.{light_swapped}
use Rattle.lift_sequence.proofs.sequences.Sequence.exchange.Goals as goal

pub returns-clause-legal : goal.returns-clause-legal
returns-clause-legal c =
    let i = c.args.i in
    let j = c.args.j in
    let old = c.args.self.now in
    let orders : c.self.inside.ops.items ≡ old.ops = ap (λ (s : SequenceRecord). s.ops) c.self.view_is in
    let free : AreExchangeable old.ops i j = subst (λ ops. AreExchangeable ops i j) (c.deref.ensures.value ∙ orders) (c.if-not-are_exchangeable.ensures.0 refl) in
    let ops = c.swap.ensures.items ∙ ap (λ xs. swap xs i j) orders in
    λ ship at legal. exchanged_legal ship at old.ops _ i j c.requires.order c.requires.within free ops legal

pub returns-clause-done : goal.returns-clause-done
returns-clause-done c =
    let i = c.args.i in
    let j = c.args.j in
    let old = c.args.self.now in
    let orders : c.self.inside.ops.items ≡ old.ops = ap (λ (s : SequenceRecord). s.ops) c.self.view_is in
    let steps : c.self.inside.steps.items ≡ old.steps = ap (λ (s : SequenceRecord). s.steps) c.self.view_is in
    let free : AreExchangeable old.ops i j = subst (λ ops. AreExchangeable ops i j) (c.deref.ensures.value ∙ orders) (c.if-not-are_exchangeable.ensures.0 refl) in
    let ops = c.swap.ensures.items ∙ ap (λ xs. swap xs i j) orders in
    let are = c.swap-2.ensures.items ∙ ap (λ xs. swap xs i j) steps in
    λ ship at legal done. exchanged_steps ship at old.ops _ old.steps _ i j c.requires.order c.requires.within free ops are legal done

pub invariant_of-self : goal.invariant_of-self
invariant_of-self c =
    let i = c.args.i in
    let j = c.args.j in
    let ops = c.self.inside.ops.items in
    let steps = c.self.inside.steps.items in
    let viewed : length ops ≡ length c.args.self.now.ops = ap (λ (s : SequenceRecord). length s.ops) c.self.view_is in
    let low : i < length ops = omega (arith, c.requires.order, c.requires.within, viewed) in
    let high : j < length ops = omega (arith, c.requires.within, viewed) in
    let as_many : length c.swap.new.self.items ≡ length ops = ap length c.swap.ensures.items ∙ length-swap ops i j in
    record {
      long = ap length c.swap-2.ensures.items ∙ length-swap steps i j ∙ c.self.invariant.long ∙ sym as_many;
      few = subst (λ n. n ≤ 120000) (sym as_many) c.self.invariant.few;
      light = subst (AllByRecursion IsLight) (sym c.swap.ensures.items) (light_swapped ops i j low high c.self.invariant.light);
    }

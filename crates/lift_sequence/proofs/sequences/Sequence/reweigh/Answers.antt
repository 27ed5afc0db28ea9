use Rattle.std.proofs.Common.{◌≡◌, ◌∙◌, ◌-◌, ap, arith, drop, length, sym}
use Rattle.lift_sequence.specs.Sequence.{SequenceRecord}
use Rattle.lift_sequence.proofs.FollowLemmas.{load_within, set_is, still_done, still_legal}
use Rattle.lift_sequence.proofs.WalkLemmas.{all_written, carried}
use Rattle.lift_sequence.proofs.sequences.Sequence.reweigh.Goals as goal

pub returns : goal.returns
returns c =
    let kg = c.args.kg in
    let i = c.args.k - 1 in
    let old = c.args.self.now in
    let inside = c.self.inside in
    let orders : inside.ops.items ≡ old.ops = ap (λ (s : SequenceRecord). s.ops) c.self.view_is in
    let steps : inside.steps.items ≡ old.steps = ap (λ (s : SequenceRecord). s.steps) c.self.view_is in
    let ops = set_is kg inside.ops.items old.ops i c.index.result.now c.with_weight.result orders
    (omega (arith, load_within old.ops i c.requires.load, ap length orders)) c.index.ensures c.with_weight.ensures in
    let written = all_written c.weigh_steps.new.steps (drop (length c.weigh_steps.new.steps) inside.steps.items) inside.steps.len
    (omega (arith, c.weigh_steps.ensures.as_many, ap length c.deref.ensures.value, c.self.invariant, inside.steps.ok.0)) in
    let are = carried kg i c.deref.result.now old.ops c.deref_mut.result.now old.steps _ _ (c.deref.ensures.value ∙ orders) (c.deref_mut.ensures.value ∙ steps)
    (sym written) c.weigh_steps.ensures.steps in
    record {
      ops = ops;
      steps = are;
      legal = λ ship at legal. still_legal ship at kg i old.ops _ c.requires.load ops legal;
      done = λ ship at legal done. still_done ship at kg i old.ops _ old.steps _ c.requires.load ops are legal done;
    }

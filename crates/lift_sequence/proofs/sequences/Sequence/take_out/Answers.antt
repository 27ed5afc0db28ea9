use Rattle.std.proofs.Common.{◌≡◌, ◌∙◌, ◌++◌, ◌-◌, ◌<◌, ap, arith, drop, get_or, length, rules, sym, take, true}
use Rattle.std.specs.List.{remove}
use Rattle.lift_sequence.specs.Sequence.{SequenceRecord, sequence_fault}
use Rattle.lift_sequence.specs.Bodies.{steps_of}
use Rattle.lift_sequence.specs.Singles.{can_go, handed_by}
use Rattle.lift_sequence.proofs.SingleLemmas.{apart_there, front_left, out_legal, out_steps}
use Rattle.lift_sequence.proofs.WalkLemmas.{all_written}
use Rattle.lift_sequence.proofs.sequences.Sequence.take_out.Goals as goal

pub returns-clause-legal : goal.returns-clause-legal
returns-clause-legal c =
    let i = c.args.k - 1 in
    let old = c.args.self.now in
    let op = c.remove-op.result in
    let orders : c.self.inside.ops.items ≡ old.ops = ap (λ (s : SequenceRecord). s.ops) c.self.view_is in
    let within : i < length old.ops = omega (arith, c.requires.first, c.requires.last) in
    let there : op ≡ get_or old.ops i op = c.remove-op.ensures.value ∙ ap (λ l. get_or l i op) orders in
    let goes : can_go old.ops i ≡ true = (λ j. can_go (sym (c.deref.ensures.value ∙ orders) j) i) ∙ sym c.if-not-can_go.ensures in
    let apart = apart_there old.ops i op within there goes in
    λ ship at legal. ap (sequence_fault ship at) (c.remove-op.ensures.items ∙ ap (λ l. remove l i) orders) ∙ out_legal ship at old.ops i op within there apart legal

pub returns-clause-done : goal.returns-clause-done
returns-clause-done c =
    let i = c.args.k - 1 in
    let old = c.args.self.now in
    let op = c.remove-op.result in
    let step = c.remove-out.result in
    let orders : c.self.inside.ops.items ≡ old.ops = ap (λ (s : SequenceRecord). s.ops) c.self.view_is in
    let steps : c.self.inside.steps.items ≡ old.steps = ap (λ (s : SequenceRecord). s.steps) c.self.view_is in
    let within : i < length old.ops = omega (arith, c.requires.first, c.requires.last) in
    let there : op ≡ get_or old.ops i op = c.remove-op.ensures.value ∙ ap (λ l. get_or l i op) orders in
    let there_too : step ≡ get_or old.steps i step = c.remove-out.ensures.value ∙ ap (λ l. get_or l i step) steps in
    let goes : can_go old.ops i ≡ true = (λ j. can_go (sym (c.deref.ensures.value ∙ orders) j) i) ∙ sym c.if-not-can_go.ensures in
    let apart = apart_there old.ops i op within there goes in
    let ops = c.remove-op.ensures.items ∙ ap (λ l. remove l i) orders in
    let left = c.remove-out.ensures.items ∙ ap (λ l. remove l i) steps in
    let long : length c.hand_on_by.new.steps ≡ c.remove-out.new.self.len = search rules in
    let written = all_written c.hand_on_by.new.steps (drop (length c.hand_on_by.new.steps) c.remove-out.new.self.items) c.remove-out.new.self.len long in
    let handed_in = c.deref_mut.ensures.value ∙ left in
    let orders_in = c.deref-2.ensures.value ∙ ops in
    λ ship at legal done. written ∙ c.hand_on_by.ensures.steps
    ∙ (λ j. take i (handed_in j) ++ handed_by op step.out (drop i (orders_in j)) (drop i (handed_in j)))
    ∙ out_steps ship at old.ops old.steps i op step within there there_too apart legal done ∙ ap (steps_of ship at) (sym ops)

pub returns-clause-front : goal.returns-clause-front
returns-clause-front c =
    let i = c.args.k - 1 in
    let old = c.args.self.now in
    let orders : c.self.inside.ops.items ≡ old.ops = ap (λ (s : SequenceRecord). s.ops) c.self.view_is in
    let steps : c.self.inside.steps.items ≡ old.steps = ap (λ (s : SequenceRecord). s.steps) c.self.view_is in
    let within : i < length old.steps = omega (arith, c.requires.first, c.requires.last, c.self.invariant.long, ap length orders, ap length steps) in
    let long : length c.hand_on_by.new.steps ≡ c.remove-out.new.self.len = search rules in
    let written = all_written c.hand_on_by.new.steps (drop (length c.hand_on_by.new.steps) c.remove-out.new.self.items) c.remove-out.new.self.len long in
    let handed_in = c.deref_mut.ensures.value ∙ c.remove-out.ensures.items ∙ ap (λ l. remove l i) steps in
    let behind = handed_by c.remove-op.result c.remove-out.result.out (drop i c.deref-2.result.now) (drop i c.deref_mut.result.now) in
    ap (take i) (written ∙ c.hand_on_by.ensures.steps) ∙ (λ j. take i (take i (handed_in j) ++ behind)) ∙ front_left old.steps behind i within

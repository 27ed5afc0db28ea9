use Rattle.std.proofs.Common.{◌≡◌, ◌∙◌, ◌∷◌, ◌++◌, ◌-◌, ◌<◌, ◌≤◌, None, Some, ap, arith, drop, length, refl, rules, subst, sym, take, true}
use Rattle.std.specs.Prelude.{◌≢◌}
use Rattle.std.specs.List.{insert}
use Rattle.lift_sequence.specs.declared.faults.SeqCode.TheVariants.{NoMemory}
use Rattle.lift_sequence.specs.Aboard.{after_all, cargo_in}
use Rattle.lift_sequence.specs.Arrival.{cargo_on}
use Rattle.lift_sequence.specs.Bodies.{step_of, steps_of}
use Rattle.lift_sequence.specs.Legal.{fault_of}
use Rattle.lift_sequence.specs.Sequence.{SequenceRecord, sequence_fault}
use Rattle.lift_sequence.specs.Singles.{AreAlikeFor, handed_by, is_apart}
use Rattle.lift_sequence.proofs.NearLemmas.{fault_alike, step_alike}
use Rattle.lift_sequence.proofs.SingleLemmas.{comes, front_stays, not_legal, put_legal, put_steps, rest_is}
use Rattle.lift_sequence.proofs.sequences.Sequence.put_in.Goals as goal

pub returns-clause-legal : goal.returns-clause-legal
returns-clause-legal c =
    let i = c.args.k - 1 in
    let old = c.args.self.now in
    let op = c.args.op.now in
    let ship = c.args.profile.now in
    let at = cargo_on c.args.arrival.now in
    let part = cargo_in c.in_ok-part.part in
    let whole = after_all ship at (take i old.ops) in
    let orders : c.self.inside.ops.items ≡ old.ops = ap (λ (s : SequenceRecord). s.ops) c.self.view_is in
    let within : i ≤ length old.ops = omega (arith, c.requires.first, c.requires.last) in
    let room : length old.ops < 120000 = omega (arith, c.if-len-ge-MAX_STEPS.false, c.len.ensures, ap length orders) in
    let apart : is_apart op (drop i old.ops) ≡ true = (λ j. is_apart op (drop i (sym (c.deref.ensures.value ∙ orders) j))) ∙ ap (is_apart op) (sym (rest_is c.deref.result.now i)) ∙ sym c.if-not-is_apart.ensures in
    let alike : AreAlikeFor ship op part whole = subst (λ l. AreAlikeFor ship op part (after_all ship at (take i l))) (c.deref-2.ensures.value ∙ orders) c.in_ok-part.ensures in
    let fits : fault_of ship whole op ≡ None = sym (fault_alike ship op part whole alike) ∙ c.in-Ok.ensures.legal in
    let ops : c.add.new.self.ops ≡ insert old.ops i op = search rules in
    λ legal. ap (sequence_fault ship at) ops ∙ put_legal ship at old.ops i op within room apart fits legal

pub returns-clause-done : goal.returns-clause-done
returns-clause-done c =
    let i = c.args.k - 1 in
    let old = c.args.self.now in
    let op = c.args.op.now in
    let ship = c.args.profile.now in
    let at = cargo_on c.args.arrival.now in
    let part = cargo_in c.in_ok-part.part in
    let whole = after_all ship at (take i old.ops) in
    let orders : c.self.inside.ops.items ≡ old.ops = ap (λ (s : SequenceRecord). s.ops) c.self.view_is in
    let within : i ≤ length old.ops = omega (arith, c.requires.first, c.requires.last) in
    let room : length old.ops < 120000 = omega (arith, c.if-len-ge-MAX_STEPS.false, c.len.ensures, ap length orders) in
    let apart : is_apart op (drop i old.ops) ≡ true = (λ j. is_apart op (drop i (sym (c.deref.ensures.value ∙ orders) j))) ∙ ap (is_apart op) (sym (rest_is c.deref.result.now i)) ∙ sym c.if-not-is_apart.ensures in
    let alike : AreAlikeFor ship op part whole = subst (λ l. AreAlikeFor ship op part (after_all ship at (take i l))) (c.deref-2.ensures.value ∙ orders) c.in_ok-part.ensures in
    let fits : fault_of ship whole op ≡ None = sym (fault_alike ship op part whole alike) ∙ c.in-Ok.ensures.legal in
    let ops : c.add.new.self.ops ≡ insert old.ops i op = search rules in
    let does : c.in-Ok.step ≡ step_of ship whole op = c.in-Ok.ensures.step ∙ step_alike ship op part whole alike in
    let are : c.add.new.self.steps ≡ take i old.steps ++ (c.in-Ok.step ∷ handed_by op c.in-Ok.step.put (drop i old.ops) (drop i old.steps)) = search rules in
    λ legal done. are ∙ put_steps ship at old.ops old.steps i op c.in-Ok.step within room apart fits does legal done ∙ ap (steps_of ship at) (sym ops)

pub returns-clause-front : goal.returns-clause-front
returns-clause-front c =
    let i = c.args.k - 1 in
    let old = c.args.self.now in
    let op = c.args.op.now in
    let orders : c.self.inside.ops.items ≡ old.ops = ap (λ (s : SequenceRecord). s.ops) c.self.view_is in
    let steps : c.self.inside.steps.items ≡ old.steps = ap (λ (s : SequenceRecord). s.steps) c.self.view_is in
    let within : i ≤ length old.steps = omega (arith, c.requires.first, c.requires.last, c.self.invariant.long, ap length orders, ap length steps) in
    let behind = c.in-Ok.step ∷ handed_by op c.in-Ok.step.put (drop i old.ops) (drop i old.steps) in
    let are : c.add.new.self.steps ≡ take i old.steps ++ behind = search rules in
    ap (take i) are ∙ front_stays old.steps behind i within

pub returns-in-Err : goal.returns-in-Err
returns-in-Err c =
    let i = c.args.k - 1 in
    let old = c.args.self.now in
    let op = c.args.op.now in
    let ship = c.args.profile.now in
    let at = cargo_on c.args.arrival.now in
    let part = cargo_in c.in_ok-part.part in
    let whole = after_all ship at (take i old.ops) in
    let orders : c.self.inside.ops.items ≡ old.ops = ap (λ (s : SequenceRecord). s.ops) c.self.view_is in
    let alike : AreAlikeFor ship op part whole = subst (λ l. AreAlikeFor ship op part (after_all ship at (take i l))) (c.deref-2.ensures.value ∙ orders) c.in_ok-part.ensures in
    let other : c.in-Err.field-0 ≢ NoMemory = search rules in
    let faulty : fault_of ship whole op ≡ Some c.in-Err.field-0 = sym (fault_alike ship op part whole alike) ∙ c.in-Err.ensures.refused other in
    record {
      answers = sym (not_legal ship at old.ops i op c.in-Err.field-0 faulty);
      ops = tt;
      same = refl;
      before = tt;
      front = refl;
      legal = λ legal. legal;
      done = λ legal done. done;
    }

pub returns-clause-answers : goal.returns-clause-answers
returns-clause-answers c =
    let i = c.args.k - 1 in
    let old = c.args.self.now in
    let op = c.args.op.now in
    let ship = c.args.profile.now in
    let at = cargo_on c.args.arrival.now in
    let part = cargo_in c.in_ok-part.part in
    let whole = after_all ship at (take i old.ops) in
    let orders : c.self.inside.ops.items ≡ old.ops = ap (λ (s : SequenceRecord). s.ops) c.self.view_is in
    let room : length old.ops < 120000 = omega (arith, c.if-len-ge-MAX_STEPS.false, c.len.ensures, ap length orders) in
    let apart : is_apart op (drop i old.ops) ≡ true = (λ j. is_apart op (drop i (sym (c.deref.ensures.value ∙ orders) j))) ∙ ap (is_apart op) (sym (rest_is c.deref.result.now i)) ∙ sym c.if-not-is_apart.ensures in
    let alike : AreAlikeFor ship op part whole = subst (λ l. AreAlikeFor ship op part (after_all ship at (take i l))) (c.deref-2.ensures.value ∙ orders) c.in_ok-part.ensures in
    let fits : fault_of ship whole op ≡ None = sym (fault_alike ship op part whole alike) ∙ c.in-Ok.ensures.legal in
    sym (comes ship at old.ops i op room apart fits)

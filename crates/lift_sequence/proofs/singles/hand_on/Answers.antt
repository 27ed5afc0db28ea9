use Rattle.std.proofs.Common.{◌≡◌, ◌∙◌, ℕ, ◌+◌, ◌<◌, ap, arith, false, get_or, length, refl, rules, set, sym, true}
use Rattle.std.specs.Prelude.{slice_get}
use Rattle.lift_sequence.specs.Independent.{fills}
use Rattle.lift_sequence.proofs.FillingLemmas.{still_elsewhere}
use Rattle.lift_sequence.proofs.HeldLemmas.{next_end, next_here, next_on}
use Rattle.lift_sequence.proofs.SingleLemmas.{handed_here, handed_next}
use Rattle.lift_sequence.proofs.singles.hand_on.Goals as goal

pub returns-then-fills-clause-steps : goal.returns-then-fills-clause-steps
returns-then-fills-clause-steps c =
    let ops = c.args.ops.now in
    let place = c.loop-place.place in
    let op = c.index-ops-place.result in
    let step = c.index-steps-place.result in
    let within : place < length ops = search rules in
    let fills_it : fills (get_or ops place op) c.args.name.now ≡ true = search rules in
    ap (λ l. set l place (record { out = c.args.out; put = (get_or l place step).put })) c.loop-place.invariant.same
    ∙ sym (c.loop-place.invariant.passed ∙ handed_here c.args.name.now c.args.out ops c.args.steps.now place op step within c.requires.as_many fills_it)

pub loop-place-preserved : goal.loop-place-preserved
loop-place-preserved c =
    let ops = c.args.ops.now in
    let place = c.loop-place.place in
    let op = c.index-ops-place.result in
    let within : place < length ops = search rules in
    let fills_not : fills (get_or ops place op) c.args.name.now ≡ false = search rules in
    record {
      same = c.loop-place.invariant.same;
      passed = c.loop-place.invariant.passed
          ∙ handed_next c.args.name.now c.args.out ops c.args.steps.now place (place + 1) op within c.requires.as_many refl fills_not;
      next = c.loop-place.invariant.next ∙ next_on c.args.name.now ops place op within fills_not;
    }

pub returns-then-fills-clause-place : goal.returns-then-fills-clause-place
returns-then-fills-clause-place c =
    let ops = c.args.ops.now in
    let place = c.loop-place.place in
    let op = c.index-ops-place.result in
    let within : place < length ops = search rules in
    let fills_it : fills (get_or ops place op) c.args.name.now ≡ true = search rules in
    let none = next_here c.args.name.now ops place op within fills_it in
    at_once place _ none ∙ sym c.loop-place.invariant.next where
      at_once : (i n : ℕ) → n ≡ 0 → i ≡ i + n
      at_once i n is = omega (arith, is)

pub returns-then-fills-clause-others : goal.returns-then-fills-clause-others
returns-then-fills-clause-others c = λ k not.
    still_elsewhere c.loop-place.steps c.loop-place.place k _ not ∙ ap (λ l. slice_get l k) c.loop-place.invariant.same

pub returns-clause-place : goal.returns-clause-place
returns-clause-place c =
    let ops = c.args.ops.now in
    let place = c.loop-place.place in
    let none = next_end c.args.name.now ops place (omega (arith, c.loop-place-test.false)) in
    at_end place _ _ (omega (arith, c.loop-place-test.false, c.loop-place.auto.place-end)) none ∙ sym c.loop-place.invariant.next where
      at_end : (i n long : ℕ) → i ≡ long → n ≡ 0 → long ≡ i + n
      at_end i n long last is = omega (arith, last, is)

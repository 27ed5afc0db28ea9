use Rattle.std.proofs.Common.{rules, ◌≡◌, ◌∙◌, None, ap, length, subst, sym}
use Rattle.lift_sequence.specs.Aboard.{cargo_in}
use Rattle.lift_sequence.specs.Arrival.{on_arrival}
use Rattle.lift_sequence.specs.Bodies.{steps_of}
use Rattle.lift_sequence.specs.Sequence.{AreSteps, first_fault}
use Rattle.lift_sequence.proofs.Changes.{add_up}
use Rattle.lift_sequence.proofs.States.{as_many, each_step}
use Rattle.lift_sequence.proofs.sequences.Sequence.new.Goals as goal

pub invariant_of-result : goal.invariant_of-result
invariant_of-result c = record {
  long = ap (λ steps. length steps) c.in_ok-steps.ensures.steps ∙ as_many c.args.profile.now (cargo_in c.in-Ok.stowage) c.deref.result.now
      ∙ ap (λ ops. length ops) c.deref.ensures.value;
  few = search rules;
  light = search rules;
}

pub returns-clause-each : goal.returns-clause-each
returns-clause-each c =
    let ship = c.args.profile.now in
    let at = on_arrival c.args.arrival.now.items c.args.arrival.now.fills in
    let is : c.in_ok-steps.steps.items ≡ steps_of ship at c.args.ops.items =
    c.in_ok-steps.ensures.steps ∙ (λ j. steps_of ship (c.in-Ok.ensures j) (c.deref.ensures.value j)) in
    subst (λ steps. AreSteps ship at c.args.ops.items steps) (sym is) (each_step ship at c.args.ops.items)

pub returns-clause-sums : goal.returns-clause-sums
returns-clause-sums c =
    let ship = c.args.profile.now in
    let at = on_arrival c.args.arrival.now.items c.args.arrival.now.fills in
    let is : c.in_ok-steps.steps.items ≡ steps_of ship at c.args.ops.items =
    c.in_ok-steps.ensures.steps ∙ (λ j. steps_of ship (c.in-Ok.ensures j) (c.deref.ensures.value j)) in
    let legal : first_fault ship at 1 c.args.ops.items ≡ None =
    (λ j. first_fault ship (sym c.in-Ok.ensures j) 1 (sym c.deref.ensures.value j)) ∙ c.in_ok-steps.ensures.legal in
    add_up ship at c.args.ops.items c.in_ok-steps.steps.items 1 c.requires.sound.tables.tables.distinct legal is

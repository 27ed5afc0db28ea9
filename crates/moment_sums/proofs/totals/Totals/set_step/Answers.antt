use Rattle.std.proofs.Common.{◌∙◌, ap, arith}
use Rattle.moment_sums.specs.Kept.{Kept, bodies_of, both_kept, kept_of, size_of}
use Rattle.moment_sums.specs.Sum.{changed_by}
use Rattle.moment_sums.proofs.ChangeLemmas.{added_to_nothing, few_bodies}
use Rattle.moment_sums.proofs.KeptLemmas.{kept_size}
use Rattle.moment_sums.proofs.totals.Totals.set_step.Goals as goal

pub change_by-requires : goal.change_by-requires
change_by-requires c =
    let few = few_bodies c.args.step.now in
    record { room = omega (arith, ap size_of c.unit.ensures, few) }

pub returns-clause-kept : goal.returns-clause-kept
returns-clause-kept c =
    let sum = changed_by c.args.frames.now c.args.step.now in
    let few = few_bodies c.args.step.now in
    c.change_by.ensures.kept
    ∙ ap (λ (s : Kept). both_kept s (kept_of sum (bodies_of c.args.step.now))) c.unit.ensures
    ∙ added_to_nothing sum (bodies_of c.args.step.now) (omega (arith, few))

pub returns-clause-size : goal.returns-clause-size
returns-clause-size c =
    let few = few_bodies c.args.step.now in
    let size = ap size_of (returns-clause-kept c) ∙ kept_size (changed_by c.args.frames.now c.args.step.now) (bodies_of c.args.step.now) in
    omega (arith, size, few)

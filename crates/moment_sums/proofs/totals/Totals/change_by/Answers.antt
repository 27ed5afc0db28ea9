use Rattle.std.proofs.Common.{◌∙◌, ◌+◌, ◌≤◌, true, false, ap, arith, length}
use Rattle.std.specs.Option.{option_to_list}
use Rattle.prefix_scan.specs.Laws.{most_parts}
use Rattle.moment_sums.specs.Changes.{change_in}
use Rattle.moment_sums.specs.Kept.{Kept, both_kept, kept_of, size_of, values}
use Rattle.moment_sums.specs.Sum.{Sum, changed_by, joined}
use Rattle.moment_sums.proofs.ChangeLemmas.{change_of_step, joined_step, size_more, two_changes}
use Rattle.moment_sums.proofs.totals.Totals.change_by.Goals as goal

pub change_in-requires-2 : goal.change_in-requires-2
change_in-requires-2 c =
    let step = c.args.step.now in
    let out = change_in true c.args.frames.now step.out in
    let room : size_of c.args.self.now + length (option_to_list step.out) ≤ most_parts = omega (arith, c.requires.room) in
    let size = ap size_of c.change_in.ensures.kept ∙ size_more c.args.self.now out (length (option_to_list step.out)) room in
    record { room = omega (arith, size, c.requires.room) }

pub returns-clause-kept : goal.returns-clause-kept
returns-clause-kept c =
    let frames = c.args.frames.now in
    let step = c.args.step.now in
    let put = change_in false frames step.put in
    c.change_in-2.ensures.kept
    ∙ ap (λ (s : Kept). both_kept s (kept_of put (length (option_to_list step.put)))) c.change_in.ensures.kept
    ∙ two_changes c.args.self.now (change_in true frames step.out) put (changed_by frames step) (length (option_to_list step.out)) (length (option_to_list step.put))
    c.requires.room (change_of_step frames step)

pub returns-clause-values : goal.returns-clause-values
returns-clause-values c =
    let frames = c.args.frames.now in
    let step = c.args.step.now in
    c.change_in-2.ensures.values
    ∙ ap (λ (s : Sum). joined s (change_in false frames step.put)) c.change_in.ensures.values
    ∙ joined_step frames step (values c.args.self.now)

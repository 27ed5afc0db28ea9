use Rattle.std.proofs.Common.{◌∙◌, ◌≤◌, ap, sym, arith, length, Option, None}
use Rattle.std.specs.Option.{option_to_list}
use Rattle.prefix_scan.specs.Laws.{most_parts}
use Rattle.units_core.specs.Bodies.{Mass}
use Rattle.moment_sums.specs.Changes.{change_in, change_of}
use Rattle.moment_sums.specs.Kept.{both_kept, kept_of, size_of, values}
use Rattle.moment_sums.specs.Sum.{Sum, joined}
use Rattle.moment_sums.proofs.Bounds.{values_both}
use Rattle.moment_sums.proofs.ChangeLemmas.{change_of_none, change_of_some, joined_nothing, no_change, one_kept}
use Rattle.moment_sums.proofs.totals.Totals.change_in.Goals as goal

pub returns-in-Some-clause-kept : goal.returns-in-Some-clause-kept
returns-in-Some-clause-kept c =
    let old = c.args.self.now in
    let frames = c.args.frames.now in
    c.change.ensures.kept
    ∙ ap (λ (s : Sum). both_kept old (kept_of s 1)) (change_of_some c.args.taken frames c.in-Some.body)
    ∙ ap (λ (o : Option Mass). both_kept old (kept_of (change_in c.args.taken frames o) (length (option_to_list o)))) (sym c.in-Some.is)

pub returns-in_default-clause-kept : goal.returns-in_default-clause-kept
returns-in_default-clause-kept c =
    let old = c.args.self.now in
    let frames = c.args.frames.now in
    let fits : size_of old ≤ most_parts = omega (arith, c.requires.room) in
    no_change old (change_in c.args.taken frames None) fits (change_of_none c.args.taken frames)
    ∙ ap (λ (o : Option Mass). both_kept old (kept_of (change_in c.args.taken frames o) (length (option_to_list o)))) (sym c.in_default.is)

pub returns-in-Some-clause-values : goal.returns-in-Some-clause-values
returns-in-Some-clause-values c =
    let old = c.args.self.now in
    let taken = c.args.taken in
    let frames = c.args.frames.now in
    let b = c.in-Some.body in
    ap values c.change.ensures.kept
    ∙ values_both old (kept_of (change_of taken frames b) 1)
    ∙ ap (joined (values old)) (one_kept taken frames b 1 c.change.ensures.few ∙ change_of_some taken frames b)
    ∙ ap (λ (o : Option Mass). joined (values old) (change_in taken frames o)) (sym c.in-Some.is)

pub returns-in_default-clause-values : goal.returns-in_default-clause-values
returns-in_default-clause-values c =
    let old = c.args.self.now in
    let taken = c.args.taken in
    let frames = c.args.frames.now in
    joined_nothing (values old) (change_in taken frames None) (change_of_none taken frames)
    ∙ ap (λ (o : Option Mass). joined (values old) (change_in taken frames o)) (sym c.in_default.is)

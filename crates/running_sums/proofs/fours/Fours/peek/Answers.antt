use Rattle.std.proofs.Common.{◌∙◌, ◌/◌, List, length, map, ap, arith}
use Rattle.std.proofs.lemmas.List.{length-map}
use Rattle.prefix_scan.specs.Counted.{Counted}
use Rattle.prefix_scan.specs.Folds.{prefix}
use Rattle.moment_sums.specs.Kept.{Kept, both_kept, none_kept}
use Rattle.running_sums.specs.Fours.{change_of}
use Rattle.running_sums.proofs.ChangeLemmas.{sizes_few}
use Rattle.running_sums.proofs.FourLemmas.{fours-prefix, length-fours}
use Rattle.running_sums.proofs.fours.Fours.peek.Goals as goal

pub peek-sum-requires : goal.peek-sum-requires
peek-sum-requires c =
    let xs : List Kept = map (change_of c.args.frames.now) c.args.sequence.now.steps in
    let is = ap (λ (f : Counted Kept). f.values) c.self.view_is ∙ c.requires.sums in
    omega (arith, ap length is, length-fours xs, length-map c.args.sequence.now.steps (change_of c.args.frames.now), c.facts.ensures.long, c.requires.within)

pub add_single-requires-clause-so_far : goal.add_single-requires-clause-so_far
add_single-requires-clause-so_far c =
    let steps = c.args.sequence.now.steps in
    let xs : List Kept = map (change_of c.args.frames.now) steps in
    let k = c.args.k in
    let is = ap (λ (f : Counted Kept). f.values) c.self.view_is ∙ c.requires.sums in
    c.peek-sum.ensures ∙ ap (λ (l : List Kept). prefix none_kept both_kept l (k / 4)) is
    ∙ fours-prefix xs (k / 4) (omega (arith, length-map steps (change_of c.args.frames.now), c.facts.ensures.long, c.requires.within))
    (sizes_few c.args.frames.now steps (omega (arith, c.facts.ensures.long, c.facts.ensures.few)))

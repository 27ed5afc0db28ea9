use Rattle.std.proofs.Common.{◌^◌, ◌≤◌, List, map, sum_by, subst, sym, arith}
use Rattle.moment_sums.specs.Kept.{Kept, size_of}
use Rattle.running_sums.specs.Fours.{change_of}
use Rattle.running_sums.proofs.ChangeLemmas.{sizes_few}
use Rattle.running_sums.proofs.FourLemmas.{fours-weight}
use Rattle.running_sums.proofs.fours.Fours.of.Goals as goal

pub of-requires : goal.of-requires
of-requires c =
    let frames = c.args.frames.now in
    let steps = c.args.sequence.now.steps in
    let few = sizes_few frames steps (omega (arith, c.facts.ensures.long, c.facts.ensures.few)) in
    subst (λ (l : List Kept). sum_by size_of l ≤ 2 ^ 19) (sym c.in_ok-sums.ensures) (fours-weight (map (change_of frames) steps) few)

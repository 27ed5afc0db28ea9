use Rattle.std.proofs.Common.{◌∙◌, ◌<◌, ◌++◌, ◌∷◌, [], List, length, map, sym, arith}
use Rattle.std.proofs.lemmas.List.{length-map, take_all, take_more}
use Rattle.moment_sums.specs.Kept.{Kept, none_kept}
use Rattle.running_sums.specs.Fours.{change_of, fours}
use Rattle.running_sums.proofs.FourLemmas.{length-fours}
use Rattle.running_sums.proofs.fours.sums.Goals as goal

pub loop-four-preserved : goal.loop-four-preserved
loop-four-preserved c =
    let steps = c.args.sequence.now.steps in
    let xs : List Kept = map (change_of c.args.frames.now) steps in
    let four = c.loop-four.four in
    let long = length-map steps (change_of c.args.frames.now) ∙ c.facts.ensures.long in
    let low : four < length (fours xs) = omega (arith, length-fours xs, long, c.loop-four-test.true, c.len-number.ensures) in
    c.in_ok-push.ensures.items ∙ (λ j. c.loop-four.invariant j ++ c.sum_of_four.ensures.value j ∷ []) ∙ sym (take_more (fours xs) four none_kept low)

pub returns : goal.returns
returns c =
    let steps = c.args.sequence.now.steps in
    let xs : List Kept = map (change_of c.args.frames.now) steps in
    let four = c.loop-four.four in
    let long = length-map steps (change_of c.args.frames.now) ∙ c.facts.ensures.long in
    c.loop-four.invariant ∙ take_all four (fours xs) (omega (arith, length-fours xs, long, c.loop-four-test.false, c.len-number.ensures))

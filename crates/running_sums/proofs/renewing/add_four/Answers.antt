use Rattle.std.proofs.Common.{◌≡◌, ◌∙◌, ◌/◌, List, length, map, refl, sym, ap, arith}
use Rattle.std.proofs.lemmas.List.{length-map}
use Rattle.moment_sums.specs.Kept.{Kept}
use Rattle.prefix_scan.specs.Counted.{Counted}
use Rattle.running_sums.specs.Fours.{change_of, fours}
use Rattle.running_sums.proofs.FourLemmas.{length-fours}
use Rattle.running_sums.proofs.RunLemmas.{run_anew, run_grows}
use Rattle.running_sums.proofs.renewing.add_four.Goals as goal
use Rattle.running_sums.proofs.renewing.add_four.Goals.{then-run-four, else-run-four+else-run-room}

pub returns-clause-added : goal.returns-clause-added
returns-clause-added c wanted past lacks =
    let ys : List Kept = map (change_of c.args.frames.now) c.args.sequence.now.steps in
    let same = length-map c.args.sequence.now.steps (change_of c.args.frames.now) ∙ c.facts.ensures.long in
    let sums : List Kept = c.args.sums.now.values in
    let here = c.args.place / 4 in
    let run = c.args.run.now in
    let now : List Kept = c.if-run-four.sums.values in
    let from = c.if-run-four.run.four in
    let long : length sums ≡ length (fours ys) = c.requires.long ∙ ap (λ n. n / 4) (sym same) ∙ sym (length-fours ys) in (
      refl,
      elim c.if-run-four.branch [
        | then-run-four w ↦ run_anew (fours ys) sums wanted w.set_run.new.self.values now run.four run.end here from long (ap (λ (f : Counted Kept). f.values) w.sums-is) (ap (λ r. r.four) w.run-is) lacks w.set_run.ensures.values
        | else-run-four+else-run-room w ↦ run_grows (fours ys) sums wanted now run.four run.end here from long (omega (arith, c.requires.some)) (omega (arith, w.if-run-four, past))
            (ap (λ (f : Counted Kept). f.values) w.sums-is) (ap (λ r. r.four) w.run-is) lacks
      ],
    )

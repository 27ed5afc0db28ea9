use Rattle.std.proofs.Common.{◌≡◌, ◌∙◌, ◌+◌, ◌/◌, List, length, map, min, ap, sym}
use Rattle.moment_sums.specs.Kept.{Kept}
use Rattle.running_sums.specs.Fours.{change_of, fours}
use Rattle.running_sums.proofs.PlaceLemmas.{last_of, place_set}
use Rattle.running_sums.proofs.renewing.renew_place.Goals as goal

pub returns-clause-set : goal.returns-clause-set
returns-clause-set c = λ places lack.
    let all : List Kept = fours (map (change_of c.args.frames.now) c.args.sequence.now.steps) in
    let four = c.args.place / 4 in
    let end = c.min-end.result in
    let whole : c.len.result / 4 ≡ length c.args.sums.now.values = ap (λ n. n / 4) c.len.ensures ∙ sym c.requires.long in
    let is : end ≡ min (four + 1) (length c.args.sums.now.values) = c.min-end.ensures ∙ ap (λ n. min (four + 1) n) whole in
    place_set places all c.args.sums.now.values c.renew.new.self.values c.args.place end (last_of four (length c.args.sums.now.values) end is) c.renew.ensures.values lack

use Rattle.std.proofs.Common.{◌≡◌, ◌∙◌, ◌<◌, ◌/◌, List, length, map, ap, sym, subst, get_or}
use Rattle.std.proofs.lemmas.List.{length-map}
use Rattle.moment_sums.specs.Kept.{Kept, none_kept}
use Rattle.running_sums.specs.Fours.{AreOfFour, change_of, fours}
use Rattle.running_sums.proofs.ChangeLemmas.{small}
use Rattle.running_sums.proofs.FourLemmas.{of_four}
use Rattle.running_sums.proofs.RenewLemmas.{set_long, set_small}
use Rattle.running_sums.proofs.SwapLemmas.{both_set, were_long}
use Rattle.running_sums.proofs.renewing.renew_both.Goals as goal

pub set-requires-clause-long : goal.set-requires-clause-long
set-requires-clause-long c =
    let ys : List Kept = map (change_of c.args.frames.now) c.args.sequence.now.steps in
    let same : length ys ≡ length c.args.sequence.now.ops = length-map c.args.sequence.now.steps (change_of c.args.frames.now) ∙ c.facts.ensures.long in
    were_long c.args.one c.args.other ys c.args.sums.now.values c.requires.exchanged ∙ ap (λ n. n / 4) same

pub set-requires-clause-small : goal.set-requires-clause-small
set-requires-clause-small c = let were = c.requires.exchanged in subst AreOfFour (sym were.are) (of_four were.olds were.small)

pub set-requires-2-clause-long : goal.set-requires-2-clause-long
set-requires-2-clause-long c =
    let ys : List Kept = map (change_of c.args.frames.now) c.args.sequence.now.steps in
    let same : length ys ≡ length c.args.sequence.now.ops = length-map c.args.sequence.now.steps (change_of c.args.frames.now) ∙ c.facts.ensures.long in
    set_long c.args.sums.now.values c.set.new.self.values (get_or (fours ys) (c.args.one / 4) none_kept) (c.args.one / 4) c.set.ensures.values
    ∙ were_long c.args.one c.args.other ys c.args.sums.now.values c.requires.exchanged ∙ ap (λ n. n / 4) same

pub set-requires-2-clause-small : goal.set-requires-2-clause-small
set-requires-2-clause-small c =
    let ys : List Kept = map (change_of c.args.frames.now) c.args.sequence.now.steps in
    let were = c.requires.exchanged in
    set_small ys (c.args.one / 4) c.args.sums.now.values c.set.new.self.values (subst AreOfFour (sym were.are) (of_four were.olds were.small))
    (small c.args.frames.now c.args.sequence.now.steps) c.set.ensures.values

pub returns-clause-values : goal.returns-clause-values
returns-clause-values c =
    let ys : List Kept = map (change_of c.args.frames.now) c.args.sequence.now.steps in
    let same : length ys ≡ length c.args.sequence.now.ops = length-map c.args.sequence.now.steps (change_of c.args.frames.now) ∙ c.facts.ensures.long in
    both_set c.args.one c.args.other ys c.args.sums.now.values c.set.new.self.values c.set-2.new.self.values c.requires.exchanged
    (subst (λ n. c.args.one < n) (sym same) c.requires.one) (subst (λ n. c.args.other < n) (sym same) c.requires.other) c.set.ensures.values c.set-2.ensures.values

use Rattle.std.proofs.Common.{◌≡◌, ◌∙◌, ◌+◌, ◌∷◌, ◌/◌, List, [], length, map, drop, get_or, ap, subst, refl, arith}
use Rattle.std.proofs.lemmas.List.{drop_all, drop_more, length-map}
use Rattle.moment_sums.specs.Kept.{Kept}
use Rattle.running_sums.specs.Fours.{LackPlaces, change_of, fours}
use Rattle.running_sums.proofs.FourLemmas.{length-fours}
use Rattle.running_sums.proofs.PlaceLemmas.{places_set}
use Rattle.running_sums.proofs.renewing.renew_places.Goals as goal

pub loop-n-init : goal.loop-n-init
loop-n-init c =
    let ys : List Kept = map (change_of c.args.frames.now) c.args.sequence.now.steps in
    let same : length ys ≡ length c.args.sequence.now.ops = length-map c.args.sequence.now.steps (change_of c.args.frames.now) ∙ c.facts.ensures.long in
    record {
      long = c.requires.lack.long ∙ length-fours ys ∙ ap (λ n. n / 4) same;
      small = c.requires.small;
      lack = c.requires.lack;
      joins = refl;
    }

pub renew_place-requires-clause-long : goal.renew_place-requires-clause-long
renew_place-requires-clause-long c = c.loop-n.invariant.long

pub renew_place-requires-clause-small : goal.renew_place-requires-clause-small
renew_place-requires-clause-small c = c.loop-n.invariant.small

pub loop-n-preserved : goal.loop-n-preserved
loop-n-preserved c =
    let inv = c.loop-n.invariant in
    let places = c.args.places.now in
    let n = c.loop-n.n in
    let all : List Kept = fours (map (change_of c.args.frames.now) c.args.sequence.now.steps) in
    let next : drop n places ≡ get_or places n 0 ∷ drop (n + 1) places = drop_more places n 0 (omega (arith, c.loop-n-test.true)) in
    record {
      long = c.renew_place.ensures.long ∙ inv.long;
      small = c.renew_place.ensures.small;
      lack = c.renew_place.ensures.set (drop (n + 1) places) (subst (λ l. LackPlaces l all c.loop-n.sums.values) next inv.lack);
      joins = c.renew_place.ensures.joins ∙ inv.joins;
    }

pub returns-clause-values : goal.returns-clause-values
returns-clause-values c =
    let inv = c.loop-n.invariant in
    let ys : List Kept = map (change_of c.args.frames.now) c.args.sequence.now.steps in
    let none : drop c.loop-n.n c.args.places.now ≡ [] = drop_all c.loop-n.n c.args.places.now (omega (arith, c.loop-n-test.false)) in
    places_set ys c.loop-n.sums.values (subst (λ l. LackPlaces l (fours ys) c.loop-n.sums.values) none inv.lack)

pub returns-clause-joins : goal.returns-clause-joins
returns-clause-joins c = c.loop-n.invariant.joins

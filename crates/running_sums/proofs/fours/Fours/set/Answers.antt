use Rattle.std.proofs.Common.{◌∙◌, ◌-◌, ◌/◌, ◌^◌, ◌≤◌, List, length, map, set, get_or, sum_by, sym, ap, arith, subst}
use Rattle.std.proofs.lemmas.List.{length-set}
use Rattle.prefix_scan.specs.Counted.{Counted}
use Rattle.moment_sums.specs.Kept.{Kept, none_kept, size_of}
use Rattle.running_sums.specs.Fours.{AreOfFour, change_of, fours}
use Rattle.running_sums.proofs.ChangeLemmas.{small}
use Rattle.running_sums.proofs.FourLemmas.{of_four, of_four_at, of_four_set, of_four_sum, quarter}
use Rattle.running_sums.proofs.fours.Fours.set.Goals as goal

pub set-requires-clause-sizes : goal.set-requires-clause-sizes
set-requires-clause-sizes c =
    let steps = c.args.sequence.now.steps in
    let xs : List Kept = map (change_of c.args.frames.now) steps in
    let is = ap (λ (f : Counted Kept). f.values) c.self.view_is in
    let four = c.args.place / 4 in
    let v : Kept = get_or (fours xs) four none_kept in
    let few = of_four_set c.self.inside.tree.values four v (subst AreOfFour (sym is) c.requires.small) (of_four_at (fours xs) four (of_four xs (small c.args.frames.now steps))) in
    let sum = of_four_sum (set c.self.inside.tree.values four v) few in
    subst (λ (x : Kept). sum_by size_of (set c.self.inside.tree.values four x) ≤ 2 ^ 19) (sym c.sum_of_four-sum.ensures.value)
    (omega (arith, sum, length-set c.self.inside.tree.values four v, ap length is, c.requires.long, c.facts.ensures.few))

pub returns-clause-cost : goal.returns-clause-cost
returns-clause-cost c =
    let count = ap (λ (f : Counted Kept). f.joins) c.self.view_is in (
      omega (arith, count, c.set.ensures.grows, c.sum_of_four-sum.ensures.bound),
      λ levels h.
          let long = ap length (ap (λ (f : Counted Kept). f.values) c.self.view_is) ∙ c.requires.long in
          let q = quarter (length c.args.sequence.now.ops) levels (omega (arith, c.if-four-len.false, c.len.ensures, long)) h in
          let cost = c.set.ensures.few (levels - 2) (omega (arith, long, q.1)) in
          omega (arith, cost, q.0, count, c.sum_of_four-sum.ensures.bound),
    )

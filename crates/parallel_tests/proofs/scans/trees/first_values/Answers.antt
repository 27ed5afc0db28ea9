use Rattle.std.proofs.Common.{arith, ◌≡◌, ◌++◌, ◌∷◌, [], ap, length, sum_by, length-append}
use Rattle.std.proofs.lemmas.List.Sums.{sum_by_push}
use Rattle.parallel_tests.proofs.scans.trees.first_values.Goals as goal

pub loop-k-preserved : goal.loop-k-preserved
loop-k-preserved c =
    let before = c.loop-k.values.items in
    let pushed : c.push.new.self.items ≡ before ++ c.last_of.result ∷ [] = c.in_ok-push.ensures.items in
    let parts = c.last_of.ensures in
    let inv = c.loop-k.invariant in
    (omega (arith, ap length pushed, length-append before (c.last_of.result ∷ [])), omega (arith, ap (sum_by (λ x. x.parts)) pushed, sum_by_push (λ x. x.parts) before c.last_of.result))

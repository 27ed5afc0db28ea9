use Rattle.std.proofs.Common.{◌≡◌, ◌∙◌, ◌++◌, ◌∷◌, [], List, sym, subst}
use Rattle.prefix_scan.specs.Folds.{folded, offset_list}
use Rattle.prefix_scan.specs.Stored.{AreSums}
use Rattle.prefix_scan.proofs.StoredLemmas.{are_sums}
use Rattle.prefix_scan.proofs.flat_prefixes.Flat.build.Goals as goal

pub invariant_of-result : goal.invariant_of-result
invariant_of-result g c =
    let m = g.M.Monoid in
    let xs = c.args.values.now in
    let values : c.in_ok-values.values.items ≡ xs = c.in_ok-values.ensures in
    let before : c.in_ok-sums.sums.items ≡ offset_list m.empty m.op xs = c.in_ok-sums.ensures in
    let whole : c.fold.result ≡ folded m.empty m.op xs = c.fold.ensures in
    let pushed : c.push.new.self.items ≡ c.in_ok-sums.sums.items ++ c.fold.result ∷ [] = c.in_ok-push.ensures.items in
    let sums : c.push.new.self.items ≡ offset_list m.empty m.op xs ++ folded m.empty m.op xs ∷ [] = pushed ∙ (λ i. before i ++ whole i ∷ []) in
    subst (λ (t : List g.row.M.Denot × List g.row.M.Denot). AreSums m.empty m.op t.0 t.1) (λ i. (sym values i, sym sums i)) (are_sums m.empty m.op xs)

use Rattle.std.proofs.Common.{◌++◌, List, [], ◌∷◌, length, ap, sym, subst, arith}
use Rattle.std.proofs.lemmas.List.{length-append}
use Rattle.prefix_scan.specs.Counted.{Counted}
use Rattle.moment_sums.specs.Kept.{Kept, size_of}
use Rattle.moment_sums.specs.KeptLaws.{kept_laws}
use Rattle.running_sums.specs.Fours.{AreOfFour}
use Rattle.running_sums.proofs.FourLemmas.{of_four_append, of_four_sum}
use Rattle.running_sums.proofs.fours.Fours.lengthen.Goals as goal

pub push-requires : goal.push-requires
push-requires c =
    let is = ap (λ (f : Counted Kept). f.values) c.self.view_is in
    let old : List Kept = c.self.inside.tree.values in
    let unit : Kept = c.unit.result in
    let none = kept_laws.empty_weight in
    let small : AreOfFour old = subst AreOfFour (sym is) c.requires.small in
    let more : AreOfFour (unit ∷ []) = (omega (arith, none, ap size_of c.unit.ensures), tt) in
    let all = of_four_sum (old ++ unit ∷ []) (of_four_append old (unit ∷ []) small more) in
    omega (arith, all, length-append old (unit ∷ []), ap length is, c.requires.no_fewer, c.requires.few)

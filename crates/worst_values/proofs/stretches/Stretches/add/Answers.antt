use Rattle.std.proofs.Common.{◌≡◌, ◌+◌, true, refl, arith}
use Rattle.std.specs.Cmp.{booleans_Decides}
use Rattle.std.proofs.lemmas.Slice.Eq.{slice_eq-Decides}
use Rattle.worst_values.specs.Stretches.{lines_of_all}
use Rattle.worst_values.proofs.RowLemmas.{alike}
use Rattle.worst_values.proofs.stretches.Stretches.add.Goals as goal

pub returns-in-Some : goal.returns-in-Some
returns-in-Some c =
    let last = c.self.inside.last in
    let next = c.args.next.now in
    let same : last.unmet ≡ next.unmet = (slice_eq-Decides booleans_Decides last.unmet next.unmet true c.if-eq.ensures).0 refl in
    let sum : c.in-Some.lines ≡ last.lines + next.lines = omega (arith, c.in-Some.ensures) in
    alike (lines_of_all c.self.inside.closed.items) c.args.self.now last.unmet next.unmet last.lines next.lines c.in-Some.lines c.self.view_is same sum

use Rattle.std.proofs.Common.{rules, ◌≡◌, ◌∙◌, true, ℤ, Option, Some, option_map, FitsSigned, to_z-of_z, sym, ap}
use Rattle.std.specs.Int.{w32}
use Rattle.worst_values.specs.Rows.{is_marked}
use Rattle.worst_values.specs.Worst.{candidate_of}
use Rattle.worst_values.proofs.MarkLemmas.{kept_by_mark}
use Rattle.worst_values.proofs.row.Row.is_below.Goals as goal

pub returns-in-Some : goal.returns-in-Some
returns-in-Some c =
    let row = c.args.self.now in
    let m = c.in-Some.mark in
    let worst = option_map candidate_of row.worst in
    let f : FitsSigned w32 m = search rules in
    let from = simp (to_z-of_z f) at c.is_value_from.ensures in
    let marked : is_marked worst (Some m) ≡ true = ap (λ (o : Option ℤ). is_marked worst o) (sym c.in-Some.is) ∙ row.marked in
    λ held. kept_by_mark worst m (candidate_of c.args.found.now) marked (from held)

use Rattle.std.proofs.Common.{rules, ◌∙◌, Bool, FitsSigned, to_z-of_z, ap}
use Rattle.std.specs.Int.{w32}
use Rattle.units_core.specs.Ratio.{◌over◌}
use Rattle.worst_values.specs.Lowest.{lowest}
use Rattle.worst_values.specs.Rows.{mark_of}
use Rattle.worst_values.specs.Worst.{is_worse}
use Rattle.worst_values.proofs.MarkLemmas.{not_below_mark}
use Rattle.worst_values.proofs.marks.is_value_from.Goals as goal

pub returns-then-not-value : goal.returns-then-not-value
returns-then-not-value c =
    let by = c.args.value.now.by in
    let m = c.args.mark in
    let f : FitsSigned w32 m = search rules in
    let from = simp (to_z-of_z f) at c.is_from_mark.ensures in
    λ held.
    ap (λ (b : Bool). is_worse (record { beyond = b; by = lowest (by.num over by.den) }) (mark_of m)) c.if-not-value.true
    ∙ not_below_mark by.num by.den m by.positive (from held)

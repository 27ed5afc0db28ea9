use Rattle.std.proofs.Common.{◌≡◌, ◌∙◌, ◌<◌, List, get_or, length, Option, Some, option_map, sym, ap, arith}
use Rattle.std.proofs.Math.ListN.{set}
use Rattle.std.proofs.lemmas.List.{get_or-set_other, get_or-set_same, length-map}
use Rattle.worst_values.specs.declared.row.Row.{Row}
use Rattle.worst_values.specs.declared.values.Value.{Value}
use Rattle.worst_values.specs.Worst.{Candidate, candidate_of, joined}
use Rattle.worst_values.specs.Rows.{row_of}
use Rattle.worst_values.proofs.RowLemmas.{any_default, empty, row_of_values, shown}
use Rattle.worst_values.proofs.rows.Rows.note.Goals as goal

pub returns-then-not-is_below-clause-here : goal.returns-then-not-is_below-clause-here
returns-then-not-is_below-clause-here c =
    let xs = c.self.inside.rows in
    let row = c.args.row in
    let y = c.with_value.result in
    let inside : row < length xs = omega (arith, c.requires, ap length c.self.view_is, length-map xs shown) in
    let old : (d : Row) → shown (get_or xs row d) ≡ row_of c.args.self.now row =
    λ d. ap shown (any_default xs row d empty inside) ∙ sym (row_of_values xs row) ∙ ap (λ (l : List (Option Candidate)). row_of l row) c.self.view_is in
    row_of_values (set xs row y) row ∙ ap shown (get_or-set_same xs row y empty inside) ∙ c.with_value.ensures
    ∙ ap (λ (o : Option Candidate). joined o (Some (candidate_of c.in-Some.found))) (old _)
    ∙ ap (λ (o : Option Value). joined (row_of c.args.self.now row) (option_map candidate_of o)) (sym c.in-Some.is)

pub returns-then-not-is_below-clause-others : goal.returns-then-not-is_below-clause-others
returns-then-not-is_below-clause-others c =
    let xs = c.self.inside.rows in
    let row = c.args.row in
    let y = c.with_value.result in
    λ j apart. row_of_values (set xs row y) j ∙ ap shown (get_or-set_other xs row j y empty apart) ∙ sym (row_of_values xs j) ∙ ap (λ (l : List (Option Candidate)). row_of l j) c.self.view_is

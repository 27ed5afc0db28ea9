use Rattle.std.proofs.Common.{rules, ◌∙◌, refl, sym, ap, Some, FitsSigned, to_z-of_z}
use Rattle.std.specs.Int.{w64}
use Rattle.worst_values.specs.Limits.{part_of}
use Rattle.worst_values.specs.Rows.{row_of}
use Rattle.worst_values.specs.Worst.{Candidate, joined}
use Rattle.worst_values.proofs.noting.note_load.Goals as goal

pub returns-then-not-is_within-clause-here : goal.returns-then-not-is_within-clause-here
returns-then-not-is_within-clause-here c =
    let f : FitsSigned w64 c.args.load = search rules in
    let g : FitsSigned w64 c.args.limit = search rules in
    let part = simp (to_z-of_z f, to_z-of_z g) at c.part_of.ensures in
    c.note.ensures.here ∙ ap (λ (x : Candidate). joined (row_of c.args.rows.now c.args.row) (Some x)) part

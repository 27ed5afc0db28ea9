use Rattle.std.proofs.Common.{rules, ◌≡◌, ◌∙◌, true, false, ℤ, Option, FitsSigned, to_z-of_z, sym, ap}
use Rattle.std.specs.Int.{w32, w64}
use Rattle.worst_values.specs.Limits.{part_of}
use Rattle.worst_values.specs.Rows.{is_marked, mark_of}
use Rattle.worst_values.specs.Worst.{Candidate, Safety, is_worse}
use Rattle.worst_values.proofs.MarkLemmas.{kept_by_mark}
use Rattle.worst_values.proofs.noting.is_within.Goals as goal

pub returns-in-Some : goal.returns-in-Some
returns-in-Some c =
    let m = c.in-Some.mark in
    let f : FitsSigned w64 c.args.load = search rules in
    let g : FitsSigned w64 c.args.limit = search rules in
    let h : FitsSigned w32 m = search rules in
    let part = simp (to_z-of_z f, to_z-of_z g) at c.part_of.ensures in
    let from = simp (to_z-of_z h) at c.is_value_from.ensures in
    λ held o x marked is.
    let far : is_worse x.safety (mark_of m) ≡ false = ap (λ (s : Safety). is_worse s (mark_of m)) is ∙ ap (λ (y : Candidate). is_worse y.safety (mark_of m)) (sym part) ∙ from held in
    kept_by_mark o m x (ap (λ (k : Option ℤ). is_marked o k) (sym c.in-Some.is) ∙ marked) far

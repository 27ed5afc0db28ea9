use Rattle.std.proofs.Common.{rules, ◌∙◌, ◌+◌, ◌*ℤ◌, ◌+ℤ◌, ◌-ℤ◌, ◌≤ℤ◌, ℤ, pos, ◌≡◌, get_or, FitsSigned, to_z-of_z, arith}
use Rattle.std.specs.Int.{w64, w128}
use Rattle.units_core.proofs.Signed.{signed_arith, weighted_within}
use Rattle.units_core.proofs.Order.{times_order}
use Rattle.units_core.proofs.Ring.{one_times}
use Rattle.units_core.proofs.tables.read.Goals as goal

pub returns-clause-size : goal.returns-clause-size
returns-clause-size c =
    λ m h.
    let i = c.args.i in
    let inside = c.requires.inside in
    let x0 : FitsSigned w128 (get_or c.args.arguments.now i (pos 0)) = search rules in
    let x1 : FitsSigned w128 (get_or c.args.arguments.now (i + 1) (pos 0)) = search rules in
    let y0 : FitsSigned w128 (get_or c.args.column.now i (pos 0)) = search rules in
    let y1 : FitsSigned w128 (get_or c.args.column.now (i + 1) (pos 0)) = search rules in
    let s1 : FitsSigned w64 c.short.result = search rules in
    let s2 : FitsSigned w64 c.short-2.result = search rules in
    let s3 : FitsSigned w64 c.short-3.result = search rules in
    let s4 : FitsSigned w64 c.short-4.result = search rules in
    let s5 : FitsSigned w64 c.short-5.result = search rules in
    let t : FitsSigned w64 c.line_top.result = search rules in
    let r : FitsSigned w128 c.from.result = search rules in
    let x = simp (to_z-of_z c.ranges.x) at c.short.ensures.value in
    let lower = simp (to_z-of_z x0) at c.short-2.ensures.value in
    let first = simp (to_z-of_z y0) at c.short-3.ensures.value in
    let upper = simp (to_z-of_z x1) at c.short-4.ensures.value in
    let second = simp (to_z-of_z y1) at c.short-5.ensures.value in
    let top = simp (to_z-of_z s1, to_z-of_z s2, to_z-of_z s3, to_z-of_z s4, to_z-of_z s5) at c.line_top.ensures in
    let num = c.from.ensures ∙ (to_z-of_z t ∙ (top ∙ (λ j. (first j *ℤ (upper j -ℤ x j)) +ℤ (second j *ℤ (x j -ℤ lower j))))) in
    let a = get_or c.args.arguments.now (i + 1) (pos 0) -ℤ c.args.x in
    let b = c.args.x -ℤ get_or c.args.arguments.now i (pos 0) in
    let whole : a +ℤ b ≡ get_or c.args.arguments.now (i + 1) (pos 0) -ℤ get_or c.args.arguments.now i (pos 0) = omega (arith, signed_arith) in
    let size = rw whole at (weighted_within (get_or c.args.column.now i (pos 0)) (get_or c.args.column.now (i + 1) (pos 0)) a b m (h i) (h (i + 1)) (omega (arith, signed_arith, inside.to)) (omega (arith, signed_arith, inside.from))) in
    simp (to_z-of_z r) (rw num size)

-- a weighted sum of positive numbers, some weight positive
weighted_low : (y0 y1 a b : ℤ) → pos 1 ≤ℤ y0 → pos 1 ≤ℤ y1 → pos 0 ≤ℤ a → pos 0 ≤ℤ b → pos 1 ≤ℤ (a +ℤ b) → pos 1 ≤ℤ ((y0 *ℤ a) +ℤ (y1 *ℤ b))
weighted_low y0 y1 a b h k ha hb s =
    let p = times_order (pos 1) y0 a ha h in
    let q = times_order (pos 1) y1 b hb k in
    omega (arith, signed_arith, one_times a, one_times b)

pub returns-clause-low : goal.returns-clause-low
returns-clause-low c =
    λ h.
    let i = c.args.i in
    let inside = c.requires.inside in
    let x0 : FitsSigned w128 (get_or c.args.arguments.now i (pos 0)) = search rules in
    let x1 : FitsSigned w128 (get_or c.args.arguments.now (i + 1) (pos 0)) = search rules in
    let y0 : FitsSigned w128 (get_or c.args.column.now i (pos 0)) = search rules in
    let y1 : FitsSigned w128 (get_or c.args.column.now (i + 1) (pos 0)) = search rules in
    let s1 : FitsSigned w64 c.short.result = search rules in
    let s2 : FitsSigned w64 c.short-2.result = search rules in
    let s3 : FitsSigned w64 c.short-3.result = search rules in
    let s4 : FitsSigned w64 c.short-4.result = search rules in
    let s5 : FitsSigned w64 c.short-5.result = search rules in
    let t : FitsSigned w64 c.line_top.result = search rules in
    let r : FitsSigned w128 c.from.result = search rules in
    let x = simp (to_z-of_z c.ranges.x) at c.short.ensures.value in
    let lower = simp (to_z-of_z x0) at c.short-2.ensures.value in
    let first = simp (to_z-of_z y0) at c.short-3.ensures.value in
    let upper = simp (to_z-of_z x1) at c.short-4.ensures.value in
    let second = simp (to_z-of_z y1) at c.short-5.ensures.value in
    let top = simp (to_z-of_z s1, to_z-of_z s2, to_z-of_z s3, to_z-of_z s4, to_z-of_z s5) at c.line_top.ensures in
    let num = c.from.ensures ∙ (to_z-of_z t ∙ (top ∙ (λ j. (first j *ℤ (upper j -ℤ x j)) +ℤ (second j *ℤ (x j -ℤ lower j))))) in
    simp (to_z-of_z r) (rw num (weighted_low (get_or c.args.column.now i (pos 0)) (get_or c.args.column.now (i + 1) (pos 0)) (get_or c.args.arguments.now (i + 1) (pos 0) -ℤ c.args.x) (c.args.x -ℤ get_or c.args.arguments.now i (pos 0))
    (h i (omega (arith, inside.inside, c.requires.rows))) (h (i + 1) (omega (arith, inside.inside, c.requires.rows)))
    (omega (arith, signed_arith, inside.to)) (omega (arith, signed_arith, inside.from)) (omega (arith, signed_arith, c.requires.rises))))

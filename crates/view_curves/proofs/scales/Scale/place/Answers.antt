use Rattle.std.proofs.Common.{rules, sym, ap, ◌∙◌, ◌-ℤ◌, ◌*ℤ◌, FitsSigned, to_z-of_z, arith}
use Rattle.std.specs.Int.{w128}
use Rattle.units_core.proofs.Signed.{signed_arith}
use Rattle.units_core.specs.Ratio.{◌over◌, floor_of}
use Rattle.view_curves.specs.Scales.{tenths_of}
use Rattle.view_curves.specs.declared.scales.Height.{Height}
use Rattle.view_curves.proofs.scales.Scale.place.Goals as goal

pub returns-in-Low-clause-value : goal.returns-in-Low-clause-value
returns-in-Low-clause-value c =
    let s = c.args.self.now in
    let r : FitsSigned w128 c.low_place.result = search rules in
    let h : FitsSigned w128 s.high = search rules in
    let l : FitsSigned w128 s.low = search rules in
    let f : FitsSigned w128 c.args.figure = search rules in
    let below : FitsSigned w128 (s.high -ℤ c.args.figure) = omega (arith, signed_arith, c.requires.low, c.requires.high, c.requires.span) in
    let span : FitsSigned w128 (s.high -ℤ s.low) = omega (arith, signed_arith, c.requires.some, c.requires.span) in
    let computed = (simp (to_z-of_z h, to_z-of_z l, to_z-of_z f, to_z-of_z below, to_z-of_z span) at c.low_place.ensures.value) in
    simp (to_z-of_z r) (computed ∙ ap (λ (h : Height). floor_of (((s.high -ℤ c.args.figure) *ℤ tenths_of h) over (s.high -ℤ s.low))) (sym c.in-Low.is))

pub returns-in-Tall-clause-value : goal.returns-in-Tall-clause-value
returns-in-Tall-clause-value c =
    let s = c.args.self.now in
    let r : FitsSigned w128 c.tall_place.result = search rules in
    let h : FitsSigned w128 s.high = search rules in
    let l : FitsSigned w128 s.low = search rules in
    let f : FitsSigned w128 c.args.figure = search rules in
    let below : FitsSigned w128 (s.high -ℤ c.args.figure) = omega (arith, signed_arith, c.requires.low, c.requires.high, c.requires.span) in
    let span : FitsSigned w128 (s.high -ℤ s.low) = omega (arith, signed_arith, c.requires.some, c.requires.span) in
    let computed = (simp (to_z-of_z h, to_z-of_z l, to_z-of_z f, to_z-of_z below, to_z-of_z span) at c.tall_place.ensures.value) in
    simp (to_z-of_z r) (computed ∙ ap (λ (h : Height). floor_of (((s.high -ℤ c.args.figure) *ℤ tenths_of h) over (s.high -ℤ s.low))) (sym c.in-Tall.is))

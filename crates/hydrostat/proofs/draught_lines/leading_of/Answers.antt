use Rattle.std.proofs.Common.{rules, ◌≡◌, ◌∙◌, ◌^◌, ℕ, pos, ℤ, ◌+ℤ◌, ◌-ℤ◌, ◌*ℤ◌, FitsSigned, to_z-of_z}
use Rattle.std.specs.Int.{w64, w128}
use Rattle.hydrostat.specs.Leading.{IsInUnits}
use Rattle.hydrostat.proofs.draught_lines.leading_of.Goals as goal

moved : (h : ℤ) (k : ℕ) (w h' : ℤ) (k' : ℕ) (w' : ℤ) → h' ≡ h → k' ≡ k → w ≡ w' → IsInUnits h (pos (2 ^ k)) w → IsInUnits h' (pos (2 ^ k')) w'
moved h k w h' k' w' e f g is = rw (e, f, ← g) is

pub returns : goal.returns
returns c =
    let a = c.args.a.now in
    let l = c.line_of.ensures in
    let t : FitsSigned w128 c.trim_top-trim.result = search rules in
    let n : FitsSigned w128 c.draught_by-aft.result.num = search rules in
    let d : FitsSigned w128 c.draught_by-aft.result.den = search rules in
    let s : FitsSigned w128 c.step_by.result = search rules in
    let b : FitsSigned w64 c.in_ok-base.base = search rules in
    let k : FitsSigned w64 c.in_ok-step.step = search rules in
    let v : FitsSigned w64 c.in_ok-divisor.divisor = search rules in
    let trim = to_z-of_z t ∙ c.trim_top-trim.ensures.value in
    let top = to_z-of_z n ∙ (c.draught_by-aft.ensures.num ∙ (λ i. ((a.draught *ℤ a.mct) *ℤ a.lbp) +ℤ (trim i *ℤ (a.lcf -ℤ (pos 0 *ℤ a.gap))))) in
    let step = to_z-of_z s ∙ (c.step_by.ensures ∙ (λ i. trim i *ℤ a.gap)) in
    record {
      is_base = moved _ _ _ _ _ _ (l.base ∙ to_z-of_z b) l.shift top c.in_ok-base.ensures;
      is_step = moved _ _ _ _ _ _ (l.step ∙ to_z-of_z k) l.shift step c.in_ok-step.ensures;
      is_divisor = moved _ _ _ _ _ _ (l.divisor ∙ to_z-of_z v) l.shift (to_z-of_z d ∙ c.draught_by-aft.ensures.den) c.in_ok-divisor.ensures;
    }

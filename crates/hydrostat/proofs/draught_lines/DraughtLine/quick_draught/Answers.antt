use Rattle.std.proofs.Common.{rules, ◌∙◌, ◌^◌, ◌≤◌, ℤ, ◌-ℤ◌, ◌*ℤ◌, unsigned_abs, FitsSigned, subst, to_z-of_z}
use Rattle.std.specs.Int.{w32, w64}
use Rattle.hydrostat.specs.Leading.{IsSure}
use Rattle.hydrostat.proofs.Sure.{draught_is_sure}
use Rattle.hydrostat.proofs.draught_lines.DraughtLine.quick_draught.Goals as goal

pub returns : goal.returns
returns c =
    let a = c.args.self.now.of in
    let l = c.args.self.now.leading in
    let q : FitsSigned w64 c.in-Some.draught = search rules in
    let g : FitsSigned w32 c.get.result = search rules in
    let x : FitsSigned w64 c.from.result = search rules in
    let place = to_z-of_z x ∙ (c.from.ensures ∙ (to_z-of_z g ∙ c.get.ensures.value)) in
    let sure = subst (λ (z : ℤ). IsSure c.in-Some.draught (l.base -ℤ (l.step *ℤ z)) l.divisor) place c.in-Some.ensures.sure in
    let within : unsigned_abs c.args.x ≤ 10 ^ 6 = subst (λ (z : ℤ). unsigned_abs z ≤ 10 ^ 6) c.get.ensures.value c.get.ensures.within in
    to_z-of_z q ∙ draught_is_sure a l.shift l.base l.step l.divisor c.args.x c.in-Some.draught (c.args.self.now.leads c.in-Some.ensures.divided) within sure

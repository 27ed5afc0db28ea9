use Rattle.std.proofs.Common.{rules, ◌∙◌, ap, sym, subst, ℤ, pos, ◌*ℤ◌, ◌^◌, ◌≤◌, unsigned_abs, FitsSigned, to_z-of_z}
use Rattle.std.specs.Int.{w64}
use Rattle.units_core.specs.Ratio.{◌over◌, floor_of}
use Rattle.moment_sums.proofs.Sizes.{part}
use Rattle.moment_sums.proofs.shares.part_moment.Goals as goal

pub returns-in-Some-clause-value : goal.returns-in-Some-clause-value
returns-in-Some-clause-value c =
    let a = c.args in let r = c.requires in
    let s = part a.kg a.reach a.half r.kg_low r.kg_high r.reach_low r.reach_high r.half_low r.half_high in
    let t : FitsSigned w64 c.in-Some.top = search rules in
    let q : FitsSigned w64 c.div_euclid.result = search rules in
    let top = simp (to_z-of_z s.mass, to_z-of_z s.far, to_z-of_z s.num) at c.in-Some.ensures.1 in
    let down = simp (to_z-of_z t, to_z-of_z s.near, to_z-of_z s.four) at c.div_euclid.ensures in
    to_z-of_z q ∙ down ∙ ap (λ (n : ℤ). floor_of (n over (pos 4 *ℤ a.half))) top

pub returns-in-Some-clause-high : goal.returns-in-Some-clause-high
returns-in-Some-clause-high c =
    let a = c.args in let r = c.requires in
    let s = part a.kg a.reach a.half r.kg_low r.kg_high r.reach_low r.reach_high r.half_low r.half_high in
    subst (λ (z : ℤ). unsigned_abs z ≤ 10 ^ 15) (sym (returns-in-Some-clause-value c)) s.moment_size

pub long_quotient-requires-clause-top : goal.long_quotient-requires-clause-top
long_quotient-requires-clause-top c =
    let a = c.args in let r = c.requires in
    let s = part a.kg a.reach a.half r.kg_low r.kg_high r.reach_low r.reach_high r.half_low r.half_high in
    simp (to_z-of_z s.mass, to_z-of_z s.far, to_z-of_z s.num) s.num_size

pub long_quotient-requires-clause-within : goal.long_quotient-requires-clause-within
long_quotient-requires-clause-within c =
    let a = c.args in let r = c.requires in
    let s = part a.kg a.reach a.half r.kg_low r.kg_high r.reach_low r.reach_high r.half_low r.half_high in
    simp (to_z-of_z s.mass, to_z-of_z s.far, to_z-of_z s.num, to_z-of_z s.near, to_z-of_z s.four) s.moment_size

pub returns-in-None-clause-value : goal.returns-in-None-clause-value
returns-in-None-clause-value c =
    let a = c.args in let r = c.requires in
    let s = part a.kg a.reach a.half r.kg_low r.kg_high r.reach_low r.reach_high r.half_low r.half_high in
    let q : FitsSigned w64 c.long_quotient.result = search rules in
    to_z-of_z q ∙ (simp (to_z-of_z s.mass, to_z-of_z s.far, to_z-of_z s.num, to_z-of_z s.near, to_z-of_z s.four) at c.long_quotient.ensures)

pub returns-in-None-clause-high : goal.returns-in-None-clause-high
returns-in-None-clause-high c =
    let a = c.args in let r = c.requires in
    let s = part a.kg a.reach a.half r.kg_low r.kg_high r.reach_low r.reach_high r.half_low r.half_high in
    subst (λ (z : ℤ). unsigned_abs z ≤ 10 ^ 15) (sym (returns-in-None-clause-value c)) s.moment_size

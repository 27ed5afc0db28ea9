use Rattle.std.proofs.Common.{rules, sym, subst, ℤ, pos, ◌≤ℤ◌, FitsSigned, to_z-of_z}
use Rattle.std.specs.Int.{w64}
use Rattle.moment_sums.proofs.Sizes.{part}
use Rattle.moment_sums.proofs.shares.part_aft.Goals as goal

pub returns-clause-value : goal.returns-clause-value
returns-clause-value c =
    let a = c.args in let r = c.requires in
    let s = part a.kg a.reach a.half r.kg_low r.kg_high r.reach_low r.reach_high r.half_low r.half_high in
    let q : FitsSigned w64 c.div_euclid.result = search rules in
    simp (to_z-of_z q) (simp (to_z-of_z s.mass, to_z-of_z s.far, to_z-of_z s.near, to_z-of_z s.num, to_z-of_z s.den) at c.div_euclid.ensures)

pub returns-clause-low : goal.returns-clause-low
returns-clause-low c =
    let a = c.args in let r = c.requires in
    let s = part a.kg a.reach a.half r.kg_low r.kg_high r.reach_low r.reach_high r.half_low r.half_high in
    subst (λ (z : ℤ). pos 0 ≤ℤ z) (sym (returns-clause-value c)) s.weight_low

pub returns-clause-high : goal.returns-clause-high
returns-clause-high c =
    let a = c.args in let r = c.requires in
    let s = part a.kg a.reach a.half r.kg_low r.kg_high r.reach_low r.reach_high r.half_low r.half_high in
    subst (λ (z : ℤ). z ≤ℤ a.kg) (sym (returns-clause-value c)) s.weight_high

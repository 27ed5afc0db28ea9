use Rattle.std.proofs.Common.{rules, to_z-of_z}
use Rattle.units_core.proofs.Signed.{exact}
use Rattle.hydrostat.proofs.Sizes.{sizes}
use Rattle.hydrostat.proofs.numerators.gm_top.Goals as goal

pub overflow_mul-result : goal.overflow_mul-result
overflow_mul-result c = let s = sizes c.args.a.now in search (rules, exact)

pub overflow_mul-result-2 : goal.overflow_mul-result-2
overflow_mul-result-2 c = let s = sizes c.args.a.now in search (rules, exact)

pub overflow_sub-result : goal.overflow_sub-result
overflow_sub-result c = let s = sizes c.args.a.now in search (rules, exact)

pub returns-clause-value : goal.returns-clause-value
returns-clause-value c = let s = sizes c.args.a.now in simp (to_z-of_z s.kmt, to_z-of_z s.kg, to_z-of_z s.upright, to_z-of_z s.gap, to_z-of_z s.kmt_kg, to_z-of_z s.up_gap, to_z-of_z s.gm)

pub returns-clause-size : goal.returns-clause-size
returns-clause-size c = let s = sizes c.args.a.now in simp (to_z-of_z s.kmt, to_z-of_z s.kg, to_z-of_z s.upright, to_z-of_z s.gap, to_z-of_z s.kmt_kg, to_z-of_z s.up_gap, to_z-of_z s.gm) s.gm_size

use Rattle.std.proofs.Common.{rules, FitsSigned, to_z-of_z}
use Rattle.std.specs.Int.{w128}
use Rattle.hydrostat.proofs.Sizes.{sizes}
use Rattle.hydrostat.proofs.Textbook.{trim_is}
use Rattle.hydrostat.proofs.ratios.trim_of.Goals as goal

pub returns-clause-value : goal.returns-clause-value
returns-clause-value c =
    let a = c.args.a.now in
    let s = sizes c.args.a.now in
    let top : FitsSigned w128 c.trim_top.result = search rules in
    simp (to_z-of_z s.mct, to_z-of_z top) (rw c.trim_top.ensures.value (trim_is a.kg a.lcb a.x a.mct a.gap a.kg_positive a.mct_positive a.gap_positive))

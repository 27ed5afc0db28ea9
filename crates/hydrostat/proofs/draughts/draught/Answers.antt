use Rattle.std.proofs.Common.{rules, FitsSigned, to_z-of_z}
use Rattle.std.specs.Int.{w128}
use Rattle.hydrostat.proofs.Textbook.{trim_is, draught_is}
use Rattle.hydrostat.specs.Floating.{load, trim, water}
use Rattle.hydrostat.proofs.draughts.draught.Goals as goal

pub returns-clause-value : goal.returns-clause-value
returns-clause-value c =
    let a = c.args.a.now in
    let top : FitsSigned w128 c.trim_top.result = search rules in
    let place = c.ranges.x in
    let num = simp (to_z-of_z top, to_z-of_z place) at c.draught_by.ensures.num in
    let is = draught_is a.draught a.gap c.trim_top.result a.mct a.lcf c.args.x a.lbp (trim (water a) (load a)) (rw c.trim_top.ensures.value (trim_is a.kg a.lcb a.x a.mct a.gap a.kg_positive a.mct_positive a.gap_positive)) a.gap_positive a.lbp_positive in
    rw (num, c.draught_by.ensures.den) is

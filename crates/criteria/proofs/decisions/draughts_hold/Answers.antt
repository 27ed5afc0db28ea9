use Rattle.std.proofs.Common.{◌∙◌, ◌&&◌, pos, FitsSigned, to_z-of_z, arith}
use Rattle.std.specs.Int.{w128}
use Rattle.units_core.proofs.Signed.{fits_within}
use Rattle.hydrostat.specs.Floating.{draught_at, trim, load, water}
use Rattle.units_core.proofs.Decisions.{at_most_same}
use Rattle.criteria.proofs.Comparing.{within_same}
use Rattle.criteria.proofs.decisions.draughts_hold.Goals as goal

pub returns : goal.returns
returns c =
    let a = c.args.a.now in
    let w = water c.args.a.now in let l = load c.args.a.now in
    let m = c.ranges.most in let t = c.ranges.trim_most in
    let b : FitsSigned w128 c.args.a.now.lbp = fits_within _ _ a.lbp_within (omega arith) in
    let aft = (simp (to_z-of_z m) at c.stays-aft.ensures) ∙ at_most_same c.draught.result.num c.draught.result.den (draught_at w l a.lbp (pos 0)) c.args.most c.draught.ensures.value in
    let at = simp (to_z-of_z b) at c.draught-2.ensures.value in
    let forward = (simp (to_z-of_z m) at c.stays-forward.ensures) ∙ at_most_same c.draught-2.result.num c.draught-2.result.den (draught_at w l a.lbp a.lbp) c.args.most at in
    let trimmed = (simp (to_z-of_z t) at c.is_within.ensures) ∙ within_same c.trim_of.result.num c.trim_of.result.den (trim w l) c.args.trim_most c.trim_of.ensures.value in
    let both = c.both.ensures ∙ (λ i. aft i && forward i) in
    c.both-2.ensures ∙ (λ i. both i && trimmed i)

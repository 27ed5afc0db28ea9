use Rattle.std.proofs.Common.{◌∙◌, ◌&&◌, ap, sym, Bool, to_z-of_z}
use Rattle.hydrostat.specs.Floating.{gm, list, load, water}
use Rattle.criteria.specs.Criteria.{is_within}
use Rattle.criteria.proofs.Comparing.{within_same, is_positive, is_not_positive}
use Rattle.criteria.proofs.decisions.list_holds.Goals as goal

pub returns-in-Some : goal.returns-in-Some
returns-in-Some c =
    let m = c.ranges.most in
    let w = water c.args.a.now in let l = load c.args.a.now in
    let told = simp (to_z-of_z m) at c.is_within.ensures in
    let is = c.in-Some.ensures in
    told ∙ within_same c.in-Some.list.num c.in-Some.list.den (list w l) c.args.most is.1
    ∙ sym (ap (λ (b : Bool). b && is_within (list w l) c.args.most) (is_positive (gm w l).top is.0))

pub returns-in-None : goal.returns-in-None
returns-in-None c =
    let w = water c.args.a.now in let l = load c.args.a.now in
    sym (ap (λ (b : Bool). b && is_within (list w l) c.args.most) (is_not_positive (gm w l).top c.in-None.ensures))

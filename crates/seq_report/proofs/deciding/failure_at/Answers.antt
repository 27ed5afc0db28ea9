use Rattle.std.proofs.Common.{◌≡◌, ◌∙◌, ℤ, ap, refl}
use Rattle.std.specs.Option.{option_map}
use Rattle.moment_sums.specs.Kept.{values}
use Rattle.criteria.specs.Assessment.{Assessment, Fails, IsOutside, Passes, assessment_of}
use Rattle.criteria.specs.Failing.{failed_in}
use Rattle.criteria.specs.Judgement.{rounded}
use Rattle.criteria.specs.declared.criterion.Criterion.{Criterion}
use Rattle.seq_report.specs.Report.{first_failed}
use Rattle.seq_report.proofs.deciding.failure_at.Goals as goal

-- rounding the figures doesn't change what fails
same : (lbp : ℤ) (a : Assessment) → failed_in a ≡ first_failed (rounded lbp a)
same lbp (IsOutside outside) = refl
same lbp (Fails criterion c) = refl
same lbp (Passes c) = refl

pub returns-in-Some : goal.returns-in-Some
returns-in-Some c =
    let p = c.args.profile.now in
    ap (option_map (λ (k : Criterion). (c.args.step, k))) (c.in-Some.ensures ∙ same p.ship.lbp (assessment_of p (values c.args.sum.now)))

pub returns-in-None : goal.returns-in-None
returns-in-None c =
    let p = c.args.profile.now in
    ap (option_map (λ (k : Criterion). (c.args.step, k))) (c.in-None.ensures ∙ same p.ship.lbp (assessment_of p (values c.args.sum.now)))

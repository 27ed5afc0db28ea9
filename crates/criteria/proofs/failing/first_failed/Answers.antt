use Rattle.std.proofs.Common.{◌≡◌, ◌∙◌, ap, refl, sym, Option, None, Some}
use Rattle.criteria.specs.Assessment.{assessed}
use Rattle.criteria.specs.Criteria.{Condition, not_met}
use Rattle.criteria.specs.Exact.{condition_by}
use Rattle.criteria.specs.Failing.{failed_in}
use Rattle.criteria.specs.declared.criterion.Criterion.{Criterion}
use Rattle.criteria.proofs.failing.first_failed.Goals as goal

-- what isn't met is what fails
by_criterion : (o : Option Criterion) (c : Condition) → o ≡ failed_in (assessed o c)
by_criterion None c = refl
by_criterion (Some criterion) c = refl

pub returns-in-Ok : goal.returns-in-Ok
returns-in-Ok c =
    let is = c.in-Ok.ensures in
    let r = c.exact_into.new.strains in
    let condition = condition_by c.in-Ok.e is.0 r in
    c.first_not_met.ensures is.0 is.1.measures ∙ (by_criterion (not_met c.args.profile.now.ship condition) condition ∙ ap failed_in (sym is.1.assessed))

pub returns-in-Err : goal.returns-in-Err
returns-in-Err c = ap failed_in (sym c.in-Err.ensures)

pub first_not_met-requires-clause-length : goal.first_not_met-requires-clause-length
first_not_met-requires-clause-length c = c.in-Ok.ensures.1.length

pub first_not_met-requires-clause-least : goal.first_not_met-requires-clause-least
first_not_met-requires-clause-least c = c.in-Ok.ensures.1.small

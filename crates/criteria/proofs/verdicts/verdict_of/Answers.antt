use Rattle.std.proofs.Common.{Option, refl, subst, sym}
use Rattle.criteria.specs.Assessment.{assessed}
use Rattle.criteria.specs.Figures.{IsVerdict}
use Rattle.criteria.specs.declared.criterion.Criterion.{Criterion}
use Rattle.criteria.specs.declared.verdicts.Verdict.TheVariants as verdict
use Rattle.criteria.proofs.verdicts.verdict_of.Goals as goal

pub returns-in-Some : goal.returns-in-Some
returns-in-Some c = λ ship condition are.
    subst (λ (o : Option Criterion). IsVerdict (verdict.Fails c.in-Some.criterion c.args.figures) ship (assessed o condition)) (sym c.in-Some.is) (condition, refl, are)

pub returns-in-None : goal.returns-in-None
returns-in-None c = λ ship condition are.
    subst (λ (o : Option Criterion). IsVerdict (verdict.Passes c.args.figures) ship (assessed o condition)) (sym c.in-None.is) (condition, refl, are)

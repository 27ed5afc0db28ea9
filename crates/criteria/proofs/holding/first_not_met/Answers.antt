use Rattle.std.proofs.Common.{◌∙◌, ap, sym, Bool, arith}
use Rattle.std.specs.Prelude.{not}
use Rattle.criteria.specs.declared.criterion.Criterion.{Criterion}
use Rattle.criteria.specs.Criteria.{criteria, holds}
use Rattle.criteria.specs.Met.{condition_of}
use Rattle.criteria.proofs.Finding.{find_here, find_more, find_none}
use Rattle.criteria.proofs.holding.first_not_met.Goals as goal

pub loop-k-preserved : goal.loop-k-preserved
loop-k-preserved c = λ y are.
    let fails : Criterion → Bool = λ x. not (holds c.args.profile.now.ship (condition_of c.args.a.now y c.args.strains.now c.args.least) x) in
    c.loop-k.invariant y are
    ∙ find_more fails criteria c.loop-k.k c.criterion_at-criterion.result c.criterion_at-criterion.ensures (ap not (sym (c.holds.ensures y are) ∙ c.if-not-holds.false))

pub returns-then-not-holds : goal.returns-then-not-holds
returns-then-not-holds c = λ y are.
    let fails : Criterion → Bool = λ x. not (holds c.args.profile.now.ship (condition_of c.args.a.now y c.args.strains.now c.args.least) x) in
    sym (c.loop-k.invariant y are
    ∙ find_here fails criteria c.loop-k.k c.criterion_at-criterion.result c.criterion_at-criterion.ensures (ap not (sym (c.holds.ensures y are) ∙ c.if-not-holds.true)))

pub returns : goal.returns
returns c = λ y are.
    let fails : Criterion → Bool = λ x. not (holds c.args.profile.now.ship (condition_of c.args.a.now y c.args.strains.now c.args.least) x) in
    sym (c.loop-k.invariant y are ∙ find_none fails criteria c.loop-k.k (omega arith))

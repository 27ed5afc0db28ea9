use Rattle.std.proofs.Common.{◌∙◌, sym}
use Rattle.units_core.specs.Ratio.{◌over◌}
use Rattle.worst_values.specs.Lowest.{lowest}
use Rattle.worst_values.proofs.LowestTerms.{below_twice}
use Rattle.worst_values.proofs.WorstLemmas.{worse}
use Rattle.worst_values.proofs.joining.is_worse.Goals as goal

pub returns : goal.returns
returns c =
    let a = c.args.one.now.by in
    let b = c.args.other.now.by in
    c.is_less-2.ensures ∙ below_twice (a.num over a.den) (b.num over b.den) a.positive b.positive
    ∙ (λ j. worse (sym c.if-one.false j) (lowest (lowest (a.num over a.den))) (sym c.if-other-2.false j) (lowest (lowest (b.num over b.den))))

pub returns-then-other : goal.returns-then-other
returns-then-other c =
    let a = c.args.one.now.by in
    let b = c.args.other.now.by in
    c.is_less.ensures ∙ below_twice (a.num over a.den) (b.num over b.den) a.positive b.positive
    ∙ (λ j. worse (sym c.if-one.true j) (lowest (lowest (a.num over a.den))) (sym c.if-other.true j) (lowest (lowest (b.num over b.den))))

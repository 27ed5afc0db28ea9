use Rattle.std.proofs.Common.{◌≡◌, ◌-◌, ◌<◌, arith, subst, sym}
use Rattle.std.specs.Bool.{OnTrue}
use Rattle.lift_sequence.proofs.ExchangeLemmas.{swapped_back}
use Rattle.lift_sequence.proofs.sequences.Sequence.swap.Goals as goal

pub returns-then-b-a-clause-ops : goal.returns-then-b-a-clause-ops
returns-then-b-a-clause-ops c =
    let old = c.args.self.now.ops in
    let order : c.args.b - 1 < c.args.a - 1 = omega (arith, c.if-b-a.true, c.requires.first.1) in
    subst (λ ops. OnTrue c.exchange-then-b-a.result (c.exchange-then-b-a.new.self.ops ≡ ops)) (sym (swapped_back old (c.args.b - 1) (c.args.a - 1) order))
    c.exchange-then-b-a.ensures.ops

pub returns-then-b-a-clause-steps : goal.returns-then-b-a-clause-steps
returns-then-b-a-clause-steps c =
    let old = c.args.self.now.steps in
    let order : c.args.b - 1 < c.args.a - 1 = omega (arith, c.if-b-a.true, c.requires.first.1) in
    subst (λ steps. OnTrue c.exchange-then-b-a.result (c.exchange-then-b-a.new.self.steps ≡ steps)) (sym (swapped_back old (c.args.b - 1) (c.args.a - 1) order))
    c.exchange-then-b-a.ensures.steps

use Rattle.std.proofs.Common.{◌≡◌, ◌∙◌, ◌+◌, ◌-◌, ◌≤◌, Option, None, Some, length, slice_get, ap, sym, arith}
use Rattle.std.proofs.lemmas.Option.{slice_get_past}
use Rattle.prefix_scan.specs.Laws.{most_parts}
use Rattle.units_core.specs.declared.steps.Step.{Step}
use Rattle.moment_sums.specs.Kept.{both_kept, kept_of, size_of}
use Rattle.moment_sums.specs.KeptLaws.{kept_laws}
use Rattle.running_sums.specs.Lines.{bodies_in, changed_in}
use Rattle.running_sums.proofs.chunks.pass_line.Goals as goal

pub returns-then-k-len : goal.returns-then-k-len
returns-then-k-len c =
    let frames = c.args.frames.now in
    let steps = c.args.sequence.now.steps in
    let sum = c.args.sum.now in
    let at : c.args.k ≡ length c.args.sequence.now.ops = omega (arith, c.if-k-len.true, c.len.ensures) in
    let none : slice_get steps c.args.k ≡ None = slice_get_past steps c.args.k (omega (arith, at, c.facts.ensures.long)) in
    let room : size_of sum ≤ most_parts = omega (arith, c.requires.room) in
    sym (kept_laws.right_identity sum room)
    ∙ ap (λ (o : Option Step). both_kept sum (kept_of (changed_in frames o) (bodies_in o))) (sym none)

pub add_step-requires : goal.add_step-requires
add_step-requires c =
    let steps = c.args.sequence.now.steps in
    let k = c.args.k in
    let same : k + 1 - 1 ≡ k = omega arith in
    let there : slice_get steps k ≡ Some c.step.result = ap (slice_get steps) (sym same) ∙ c.step.ensures in
    omega (arith, c.requires.room, ap bodies_in there)

pub returns : goal.returns
returns c =
    let frames = c.args.frames.now in
    let steps = c.args.sequence.now.steps in
    let sum = c.args.sum.now in
    let step = c.step.result in
    let k = c.args.k in
    let same : k + 1 - 1 ≡ k = omega arith in
    let there : slice_get steps k ≡ Some step = ap (slice_get steps) (sym same) ∙ c.step.ensures in
    c.add_step.ensures
    ∙ ap (λ (o : Option Step). both_kept sum (kept_of (changed_in frames o) (bodies_in o))) (sym there)

use Rattle.std.proofs.Common.{◌≡◌, ◌∙◌, ◌+◌, ◌-◌, slice_get, ap, sym, arith}
use Rattle.std.specs.List.{range_with_len}
use Rattle.moment_sums.specs.Kept.{both_kept, size_of}
use Rattle.running_sums.specs.Lines.{change_behind, changes_behind}
use Rattle.running_sums.proofs.SumLemmas.{changes_more, changes_size, few_bodies}
use Rattle.running_sums.proofs.chunks.chunk_total.Goals as goal

pub loop-k-init : goal.loop-k-init
loop-k-init c =
    let frames = c.args.frames.now in
    let steps = c.args.sequence.now.steps in
    let start = c.args.start in
    let none : 0 ≡ start - start = omega arith in
    c.unit-sum.ensures ∙ ap (λ n. changes_behind frames steps (range_with_len start n)) none

pub pass_line-requires-clause-room : goal.pass_line-requires-clause-room
pass_line-requires-clause-room c =
    let frames = c.args.frames.now in
    let steps = c.args.sequence.now.steps in
    let start = c.args.start in
    let k = c.loop-k.k in
    let so_far = changes_size frames steps start (k - start) (omega (arith, c.loop-k-test.true, c.requires.there, c.facts.ensures.few)) in
    omega (arith, c.loop-k-test.true, c.requires.there, c.facts.ensures.few, ap size_of c.loop-k.invariant, so_far, few_bodies (slice_get steps k))

pub loop-k-preserved : goal.loop-k-preserved
loop-k-preserved c =
    let frames = c.args.frames.now in
    let steps = c.args.sequence.now.steps in
    let start = c.args.start in
    let k = c.loop-k.k in
    let here : start + (k - start) ≡ k = omega arith in
    let more : k - start + 1 ≡ k + 1 - start = omega arith in
    c.pass_line.ensures
    ∙ ap (λ t. both_kept t (change_behind frames steps k)) c.loop-k.invariant
    ∙ sym (changes_more frames steps start (k - start) k here)
    ∙ ap (λ n. changes_behind frames steps (range_with_len start n)) more

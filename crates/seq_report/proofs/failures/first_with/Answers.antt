use Rattle.std.proofs.Common.{◌∙◌, ◌<◌, ◌≤◌, get_or, length, below_more, arith}
use Rattle.port_call.specs.Views.{case_in_view}
use Rattle.seq_report.proofs.FirstLemmas.{chunk_with_first, some_chunk}
use Rattle.seq_report.proofs.failures.first_with.Goals as goal

pub returns-then-least-range : goal.returns-then-least-range
returns-then-least-range c =
    let lines = c.args.lines.now in
    let low : c.loop-chunk.chunk < length lines.cuts.now = omega (arith, c.loop-chunk-test.true, c.chunks-chunk-end.ensures) in
    let here : c.args.least < get_or lines.cuts.now c.loop-chunk.chunk 0 = omega (arith, c.if-least-range.true, c.range.ensures.bounds.1) in
    c.first_in.ensures ∙ chunk_with_first (case_in_view lines.case) lines.cuts.now lines.cut c.args.least c.requires c.loop-chunk.chunk low c.loop-chunk.invariant here

pub loop-chunk-preserved : goal.loop-chunk-preserved
loop-chunk-preserved c =
    let ends = c.args.lines.now.cuts.now in
    below_more (λ j. get_or ends j 0 ≤ c.args.least) c.loop-chunk.chunk c.loop-chunk.invariant (omega (arith, c.if-least-range.false, c.range.ensures.bounds.1))

pub returns : goal.returns
returns c =
    let lines = c.args.lines.now in
    absurd (some_chunk (case_in_view lines.case) lines.cuts.now lines.cut c.args.least c.requires
    (λ j low. c.loop-chunk.invariant j (omega (arith, low, c.loop-chunk-test.false, c.chunks-chunk-end.ensures))))

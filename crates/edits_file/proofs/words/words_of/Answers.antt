use Rattle.std.proofs.Common.{◌∙◌, ◌+◌, ◌++◌, ap, arith, map}
use Rattle.edits_file.specs.Words.{words_in}
use Rattle.edits_file.proofs.LineLemmas.{words_more, words_last, words_left}
use Rattle.edits_file.proofs.words.words_of.Goals as goal

pub returns-in-None : goal.returns-in-None
returns-in-None c =
    ap (map (λ w. w.now)) c.push.ensures.items
    ∙ words_last (λ w. w.now) c.loop.words.items c.args.line.now c.loop.rest.now c.loop.invariant.words c.cut.result.0 c.cut.ensures.before (rw c.in-None.is at c.cut.ensures.parts)

pub loop-preserved : goal.loop-preserved
loop-preserved c = record {
  count = c.push.ensures.len ∙ ap (λ n. n + 1) c.loop.invariant.count;
  words =
      ap (λ ws. map (λ w. w.now) ws ++ words_in c.in-Some.behind.now) c.push.ensures.items
      ∙ words_more (λ w. w.now) c.loop.words.items c.args.line.now c.loop.rest.now c.loop.invariant.words c.cut.result.0 c.in-Some.behind.now c.cut.ensures.before
      (rw c.in-Some.is at c.cut.ensures.parts);
}

pub returns : goal.returns
returns c =
    let left = words_left (λ w. w.now) c.loop.words.items c.args.line.now c.loop.rest.now c.loop.invariant.words in
    omega (arith, left, c.loop.invariant.count)

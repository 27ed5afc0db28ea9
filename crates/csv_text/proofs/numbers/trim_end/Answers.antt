use Rattle.std.proofs.Common.{◌∙◌, sym}
use Rattle.csv_text.proofs.NumberLemmas.{before_spaces-front, before_spaces-keep}
use Rattle.csv_text.proofs.numbers.trim_end.Goals as goal

pub returns-then-last-ne32 : goal.returns-then-last-ne32
returns-then-last-ne32 c = before_spaces-keep _ _ _ c.in-Some.ensures.cases.0 c.if-last-ne32.true ∙ sym c.loop-last.invariant

pub loop-last-preserved : goal.loop-last-preserved
loop-last-preserved c = c.loop-last.invariant ∙ before_spaces-front _ _ _ c.in-Some.ensures.cases.0 c.if-last-ne32.false

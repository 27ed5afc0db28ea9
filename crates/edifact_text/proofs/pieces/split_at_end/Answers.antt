use Rattle.std.proofs.Common.{sym, false, ◌∙◌}
use Rattle.edifact_text.proofs.PiecesLemmas.{cut_none, cut_parts}
use Rattle.edifact_text.proofs.pieces.split_at_end.Goals as goal

pub returns-in-None-clause-first : goal.returns-in-None-clause-first
returns-in-None-clause-first c = cut_none c.args.release c.args.separator false c.args.bytes.now (sym c.requires.is ∙ c.in-None.is)

pub returns-in-len1-up-clause-first : goal.returns-in-len1-up-clause-first
returns-in-len1-up-clause-first c =
    cut_parts c.args.release c.args.separator c.args.bytes.now c.in-Some.end c.split_at.result.0.now c.split_at.result.1.now
    (sym c.requires.is ∙ c.in-Some.is) c.split_at.ensures.front c.split_at.ensures.back

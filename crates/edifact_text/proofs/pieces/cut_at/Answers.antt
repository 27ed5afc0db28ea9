use Rattle.edifact_text.proofs.FarLemmas.{ends_at}
use Rattle.edifact_text.proofs.PiecesLemmas.{cut_parts}
use Rattle.edifact_text.proofs.pieces.cut_at.Goals as goal

pub returns-in-len1-up-clause-first : goal.returns-in-len1-up-clause-first
returns-in-len1-up-clause-first c =
    let end = ends_at c.args.release c.args.separator c.args.place c.args.bytes.now c.requires.within c.if-bytes-place.false c.requires.apart c.requires.quiet in
    cut_parts c.args.release c.args.separator c.args.bytes.now c.args.place c.split_at.result.0.now c.split_at.result.1.now end c.split_at.ensures.front
    c.split_at.ensures.back

use Rattle.std.proofs.Common.{◌∙◌, ap}
use Rattle.moment_sums.specs.Kept.{kept_of, size_of, values}
use Rattle.moment_sums.specs.Sum.{joined, of_body}
use Rattle.moment_sums.proofs.Bounds.{values_both}
use Rattle.moment_sums.proofs.ChangeLemmas.{body_kept, size_more}
use Rattle.moment_sums.proofs.totals.Totals.add.Goals as goal

pub returns-clause-values : goal.returns-clause-values
returns-clause-values c =
    let sum = of_body c.args.frames.now c.args.body.now in
    ap values c.change.ensures.kept ∙ values_both c.args.self.now (kept_of sum 1)
    ∙ ap (joined (values c.args.self.now)) (body_kept c.args.frames.now c.args.body.now 1 c.change.ensures.few)

pub returns-clause-size : goal.returns-clause-size
returns-clause-size c =
    ap size_of c.change.ensures.kept ∙ size_more c.args.self.now (of_body c.args.frames.now c.args.body.now) 1 c.requires.room

use Rattle.std.proofs.Common.{◌∙◌, ap, arith}
use Rattle.moment_sums.specs.Kept.{Kept, both_kept, kept_of, values}
use Rattle.moment_sums.specs.Sum.{of_body}
use Rattle.moment_sums.proofs.ChangeLemmas.{added_to_nothing, body_kept}
use Rattle.moment_sums.proofs.totals.Totals.of.Goals as goal

pub returns-clause-values : goal.returns-clause-values
returns-clause-values c =
    let frames = c.args.frames.now in
    let b = c.args.body.now in
    ap values (c.change.ensures.kept
    ∙ ap (λ (s : Kept). both_kept s (kept_of (of_body frames b) 1)) c.unit-sum.ensures
    ∙ added_to_nothing (of_body frames b) 1 (omega arith))
    ∙ body_kept frames b 1 c.change.ensures.few

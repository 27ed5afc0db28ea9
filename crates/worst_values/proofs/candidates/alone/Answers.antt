use Rattle.std.proofs.Common.{◌∙◌, false, Some, sym}
use Rattle.worst_values.specs.Limits.{by}
use Rattle.worst_values.proofs.LowestTerms.{same_lowest}
use Rattle.worst_values.proofs.WorstLemmas.{worst_one}
use Rattle.worst_values.proofs.candidates.alone.Goals as goal

pub returns : goal.returns
returns c = λ r p.
    (λ j. Some (record { step = c.args.step; place = 0; safety = record { beyond = false; by = same_lowest c.args.value.num c.args.value.den r p j } }))
    ∙ sym (worst_one (record { step = c.args.step; place = 0; safety = by r }))

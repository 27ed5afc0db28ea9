use Rattle.std.proofs.Common.{◌∙◌}
use Rattle.worst_values.specs.Firsts.{first_unmet}
use Rattle.worst_values.proofs.FirstLemmas.{first_is}
use Rattle.worst_values.proofs.findings.Findings.first_failing.Goals as goal

pub returns : goal.returns
returns c = λ case is. c.first_failing.ensures ∙ (λ i. first_unmet 0 ((is i).unmet)) ∙ first_is case

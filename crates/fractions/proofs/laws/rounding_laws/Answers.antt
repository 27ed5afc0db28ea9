use Rattle.fractions.proofs.RoundingLemmas.{at_least_in_print, at_most_in_print, percent_in_print}
use Rattle.fractions.proofs.laws.rounding_laws.Goals as goal

pub returns-clause-at_least : goal.returns-clause-at_least
returns-clause-at_least c = at_least_in_print

pub returns-clause-at_most : goal.returns-clause-at_most
returns-clause-at_most c = at_most_in_print

pub returns-clause-percent : goal.returns-clause-percent
returns-clause-percent c = percent_in_print

use Rattle.std.proofs.Common.{ap, sym, ℕ, Option}
use Rattle.criteria.specs.Criteria.{is_from}
use Rattle.criteria.proofs.levers.peaks_from.Goals as goal

pub returns : goal.returns
returns c = λ y are. ap (λ (o : Option ℕ). is_from c.args.least o) (sym are.greatest)

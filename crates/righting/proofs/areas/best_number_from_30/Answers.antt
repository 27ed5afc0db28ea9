use Rattle.std.proofs.Common.{arith}
use Rattle.righting.proofs.Tops.{greatest_is}
use Rattle.righting.proofs.areas.best_number_from_30.Goals as goal

pub returns-clause-value : goal.returns-clause-value
returns-clause-value c = λ y are. greatest_is c.args.levers.now.num c.args.levers.now.den y 6 7 c.greatest_in.result are (omega arith) c.greatest_in.ensures

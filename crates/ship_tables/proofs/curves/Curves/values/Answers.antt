use Rattle.std.proofs.Common.{sym}
use Rattle.ship_tables.proofs.CurveLemmas.{none_there}
use Rattle.ship_tables.proofs.curves.Curves.values.Goals as goal

pub returns-in-None : goal.returns-in-None
returns-in-None c = none_there c.args.self.now.columns c.args.number (sym c.in-None.ensures)

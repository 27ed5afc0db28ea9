use Rattle.toml.specs.View.{table_view}
use Rattle.ship_profile.proofs.MeaningLemmas.{stations-sound}
use Rattle.units_core.proofs.OutcomeLemmas.{lift_ok}
use Rattle.ship_profile.proofs.stations.read_stations.Goals as goal

pub returns-clause-meaning : goal.returns-clause-meaning
returns-clause-meaning c = lift_ok c.elements_at.result c.elements_at.ensures.ok (λ v h. stations-sound (table_view c.args.table.now) _ h)

use Rattle.toml.specs.View.{table_view}
use Rattle.ship_profile.proofs.MeaningLemmas.{blocks-sound}
use Rattle.units_core.proofs.OutcomeLemmas.{lift_ok}
use Rattle.ship_profile.proofs.blocks.read_blocks.Goals as goal

pub returns-clause-meaning : goal.returns-clause-meaning
returns-clause-meaning c = lift_ok c.elements_at.result c.elements_at.ensures.ok (λ v h. blocks-sound c.args.extent (table_view c.args.table.now) _ h)

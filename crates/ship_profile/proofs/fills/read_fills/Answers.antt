use Rattle.std.proofs.Common.{Some}
use Rattle.toml.specs.View.{view}
use Rattle.ship_profile.proofs.MeaningLemmas.{optional-sound}
use Rattle.units_core.proofs.OutcomeLemmas.{lift_ok}
use Rattle.ship_profile.proofs.fills.read_fills.Goals as goal

pub returns-in-Some-clause-meaning : goal.returns-in-Some-clause-meaning
returns-in-Some-clause-meaning c = lift_ok c.read_elements.result c.read_elements.ensures.ok (λ v h. optional-sound (Some (view c.in-Some.value.now)) _ h)

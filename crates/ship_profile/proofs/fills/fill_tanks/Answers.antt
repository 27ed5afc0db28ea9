use Rattle.std.proofs.Common.{arith}
use Rattle.std.proofs.lemmas.Grind.{common_steps}
use Rattle.ship_profile.proofs.FillLemmas.{fills-sound}
use Rattle.ship_profile.proofs.fills.fill_tanks.Goals as goal

pub returns-clause-meaning : goal.returns-clause-meaning
returns-clause-meaning c = fills-sound _ c.args.named.now _ c.requires (grind (arith, common_steps))

use Rattle.std.proofs.Common.{rules}
use Rattle.port_call.proofs.readings.fn.read_texts.scope.Goals as goal

pub returns-then-not-apart : goal.returns-then-not-apart
returns-then-not-apart g c = (c.ground_by.ensures.read _ _ c.ship_by-profile.ensures c.items-plan.ensures, search rules)

pub returns : goal.returns
returns g c = (c.ground_by-ground.ensures.read _ c.captures.plan.now c.ship_by-profile-2.ensures (search rules), search rules)

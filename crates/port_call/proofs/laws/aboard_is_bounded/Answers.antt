use Rattle.port_call.proofs.AboardBounds.{bounded}
use Rattle.port_call.proofs.laws.aboard_is_bounded.Goals as goal

pub returns : goal.returns
returns c = bounded

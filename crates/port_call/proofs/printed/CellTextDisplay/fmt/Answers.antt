use Rattle.std.proofs.Common.{rules}
use Rattle.port_call.proofs.Digits.{zeros_before}
use Rattle.port_call.proofs.printed.CellTextDisplay.fmt.Goals as goal

pub returns-clause-writes : goal.returns-clause-writes
returns-clause-writes g c =
    let bay = zeros_before 3 c.args.self.now.0.bay in
    let row = zeros_before 2 c.args.self.now.0.row in
    let tier = zeros_before 2 c.args.self.now.0.tier in
    λ plain ok. rw (← bay, ← row, ← tier) (search rules)

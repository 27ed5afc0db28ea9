use Rattle.std.proofs.Common.{subst}
use Rattle.ship_profile.specs.Record.{texts_of}
use Rattle.port_call.specs.Readings.{IsGroundRead}
use Rattle.port_call.proofs.ArrivalLemmas.{refuses_case}
use Rattle.port_call.proofs.calls.call_of_readings.Goals as goal

pub returns-in-Err-clause-reads : goal.returns-in-Err-clause-reads
returns-in-Err-clause-reads c =
    refuses_case c.args.inputs.now c.in-Err.fault
    (subst (λ r. IsGroundRead r (texts_of c.args.inputs.now.profile) c.args.inputs.now.baplie.now) c.in-Err.is c.requires.base)

use Rattle.port_call.proofs.calls.PortCall.read.Goals as goal

pub call_of_readings-requires-clause-base : goal.call_of_readings-requires-clause-base
call_of_readings-requires-clause-base c = c.ground_by.ensures.read _ _ c.ship-profile.ensures c.items-plan.ensures

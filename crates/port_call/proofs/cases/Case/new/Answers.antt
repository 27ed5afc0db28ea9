use Rattle.port_call.proofs.CaseLemmas as cases
use Rattle.port_call.proofs.cases.Case.new.Goals as goal

pub invariant_of-result : goal.invariant_of-result
invariant_of-result c = record {
  ready = cases.ready c.args.profile.now c.args.arrival.now c.args.sequence.now c.requires.arrived c.requires.made c.facts.ensures c.facts-2.ensures;
}

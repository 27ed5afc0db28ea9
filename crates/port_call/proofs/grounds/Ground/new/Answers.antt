use Rattle.port_call.proofs.grounds.Ground.new.Goals as goal

pub invariant_of-result : goal.invariant_of-result
invariant_of-result c = record {
  arrived = c.requires;
  stowed = c.facts.ensures;
  adds_up = record { sum = c.arrival_total-total.ensures.sum; size = c.arrival_total-total.ensures.size };
}

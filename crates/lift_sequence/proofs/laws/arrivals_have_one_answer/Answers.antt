use Rattle.lift_sequence.proofs.FirstFaults.{arrival_either, arrival_faults, arrival_legal, arrival_not_both}
use Rattle.lift_sequence.proofs.laws.arrivals_have_one_answer.Goals as goal

pub returns : goal.returns
returns c = record {
  fault = λ ship items fills f h. arrival_faults ship items fills f h;
  legal = λ ship items fills h. arrival_legal ship items fills h;
  either = λ ship items fills. arrival_either ship items fills;
  not_both = λ ship items fills f legal fault. arrival_not_both ship items fills f legal fault;
}

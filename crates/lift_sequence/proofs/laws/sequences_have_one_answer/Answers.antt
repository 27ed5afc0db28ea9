use Rattle.lift_sequence.proofs.FirstFaults.{sequence_either, sequence_faults, sequence_legal, sequence_not_both}
use Rattle.lift_sequence.proofs.laws.sequences_have_one_answer.Goals as goal

pub returns : goal.returns
returns c = record {
  fault = λ ship at ops f h. sequence_faults ship at ops f h;
  legal = λ ship at ops h. sequence_legal ship at ops h;
  either = λ ship at ops. sequence_either ship at ops;
  not_both = λ ship at ops f legal fault. sequence_not_both ship at ops f legal fault;
}

use Rattle.edifact_text.proofs.SpellingLemmas.{segment_is_first, segment_means}
use Rattle.edifact_text.proofs.ReadingLemmas.{ended_reads}
use Rattle.edifact_text.proofs.OpenedLemmas.{message_opens, fault_opens, either_is, not_both}
use Rattle.edifact_text.proofs.laws.one_reading.Goals as goal

pub returns : goal.returns
returns c = record {
  message = λ kind text mark segments m. message_opens kind text mark segments m;
  fault = λ kind text f h. fault_opens kind text f h;
  either = λ kind text. either_is kind text;
  not_both = λ kind text mark segments f m h. not_both kind text mark segments f m h;
  spelt = λ sv s bytes rest a h. (segment_is_first sv a s bytes rest h, segment_means sv a s bytes h);
  read = λ sv text q s more h. ended_reads sv text q s more h;
}

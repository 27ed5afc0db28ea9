use Rattle.lift_sequence.proofs.RivalLemmas.{none_exactly, places_have_short_bays, some_exactly}
use Rattle.lift_sequence.proofs.laws.overlaps_are_least.Goals as goal

pub returns : goal.returns
returns c = record {
  none = λ cells cell short. none_exactly cells cell short;
  some = λ cells cell rival short. some_exactly cells cell rival short;
  bays = λ texts ship at written places. places_have_short_bays texts ship at written places;
}

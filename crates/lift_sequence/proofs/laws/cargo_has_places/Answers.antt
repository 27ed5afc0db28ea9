use Rattle.lift_sequence.proofs.PlaceLemmas.{arrival_places, emptied_places, sequence_places}
use Rattle.lift_sequence.proofs.laws.cargo_has_places.Goals as goal

pub returns : goal.returns
returns c = record {
  arrival = λ ship items fills legal. arrival_places ship items fills legal;
  steps = λ ship at ops k places legal. sequence_places ship at ops k places legal;
  emptied = λ ship at cell places. emptied_places ship at cell places;
}

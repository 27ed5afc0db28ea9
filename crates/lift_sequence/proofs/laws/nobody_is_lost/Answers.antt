use Rattle.lift_sequence.proofs.CountLemmas.{aboard_kept, arrival_kept, filled_kept, lifts_kept, once_has_lift, rows_kept, taken_kept}
use Rattle.lift_sequence.proofs.laws.nobody_is_lost.Goals as goal

pub returns : goal.returns
returns c = record {
  arrival = λ ship items fills legal. arrival_kept ship items fills legal;
  aboard = λ ship at places. aboard_kept ship at places;
  taken = λ ship at cell places taken. taken_kept ship at cell places taken;
  filled = λ ship at tank kg places filled. filled_kept ship at tank kg places filled;
  lifts = λ lifts. lifts_kept lifts;
  rows = λ lifts rows h. rows_kept lifts rows h;
  once = λ lifts rows h. once_has_lift lifts rows h;
}

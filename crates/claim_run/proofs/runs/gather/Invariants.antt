use Rattle.std.proofs.Common.{◌≡◌, ℕ, ◌+◌, ◌<◌, get_or, vec_len, length, true}
use Rattle.std.specs.Prelude.{IfOk}
use Rattle.std.specs.Vec.Iter.{into_iter_items, into_iter_len}
use Rattle.claim_board.specs.Entries.{numbers, is}
use Rattle.claim_run.specs.Shared.{scout_in}
use Rattle.claim_run.specs.Runs.{IsDoneBy, AreOver}
use Rattle.claim_run.specs.Slots.{IsRight, is_there}
use Rattle.claim_run.proofs.runs.gather.Given as goal

abbrev pub invariant-loop-gift : goal.invariant-loop-gift
invariant-loop-gift g l = record {
  table : l.hand.seat.table_id ≡ l.board.table.shared.table_id;
  count : l.hand.seat.me.0.workers + into_iter_len l.gift-iterator ≡ vec_len l.fn.given;
  each : (k : ℕ) (d : _) → k < into_iter_len l.gift-iterator → IfOk (get_or (into_iter_items l.gift-iterator) k d) (λ done. IsDoneBy g.S.Scout.begins g.S.Scout.finds g.J.Job.value l.board l.job done);
  over : AreOver (g.S.Scout.begins (scout_in l.board)) (g.S.Scout.finds (scout_in l.board)) l.board.pieces l.hand.seat.me.0.entries;
  same_length : length l.slots.items ≡ l.board.pieces;
  right : IsRight (g.J.Job.value l.job) l.slots.items;
  filled : (k : ℕ) → k < l.board.pieces → 0 < numbers (is k) l.hand.seat.me.0.entries → is_there l.slots.items k ≡ true;
}

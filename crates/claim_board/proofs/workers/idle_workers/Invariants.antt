use Rattle.std.proofs.Common.{◌≡◌, ℕ, ◌<◌, ◌≤◌, ◌-◌, get_or, vec_len, vec_capacity, map, replicate, length}
use Rattle.claim_board.specs.Board.{idle}
use Rattle.claim_board.specs.Views.{hand_of}
use Rattle.claim_board.proofs.workers.idle_workers.Given as goal

abbrev pub invariant-more : goal.invariant-more
invariant-more l = record {
  hands : map hand_of l.workers.items ≡ replicate (length l.workers.items) idle;
  few : length l.workers.items ≤ l.count;
  room : (k : ℕ) (d : _) → k < vec_len l.workers → l.room ≤ vec_capacity (get_or l.workers.items k d).entries;
}

abbrev pub decreases-more : goal.decreases-more
decreases-more l = l.count - length l.workers.items

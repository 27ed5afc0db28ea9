use Rattle.std.proofs.Common.{◌≡◌, ℕ, ◌+◌, ◌-◌, ◌<◌, ◌≤◌, get_or, vec_len, vec_capacity}
use Rattle.claim_run.specs.Shared.{IsNew}
use Rattle.claim_run.proofs.threads.start_all.Given as goal

abbrev pub invariant-loop-worker : goal.invariant-loop-worker
invariant-loop-worker g l = record {
  hand : IsNew l.board (l.workers - l.worker + 1) l.first;
  count : vec_len l.threads + 1 ≡ l.worker;
  most : l.worker ≤ l.workers;
  room : l.workers ≤ vec_capacity l.threads;
  board : (k : ℕ) (d : _) → k < vec_len l.threads → (get_or l.threads.items k d).promise.board.now ≡ l.board;
  job : (k : ℕ) (d : _) → k < vec_len l.threads → (get_or l.threads.items k d).promise.job.now ≡ l.job;
}

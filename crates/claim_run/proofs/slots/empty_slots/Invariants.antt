use Rattle.std.proofs.Common.{◌≡◌, ℕ, ◌<◌, get_or, vec_len, None}
use Rattle.claim_run.proofs.slots.empty_slots.Given as goal

abbrev pub invariant-loop-k : goal.invariant-loop-k
invariant-loop-k g l = record {
  count : vec_len l.slots ≡ l.k;
  none : (k : ℕ) (d : _) → k < l.k → get_or l.slots.items k d ≡ None;
}

use Rattle.std.proofs.Common.{◌≡◌, ◌⊎◌, ℕ, ◌<◌, length, true}
use Rattle.claim_run.specs.Slots.{IsRight, is_there}
use Rattle.claim_run.proofs.Filling.{AreGiven, count_of}
use Rattle.claim_run.proofs.slots.place.Given as goal

abbrev pub invariant-next : goal.invariant-next
invariant-next g l = record {
  given : AreGiven (g.J.Job.value l._job) (length l.fn.slots.items) l.values.items;
  right : IsRight (g.J.Job.value l._job) l.slots.items;
  same_length : length l.slots.items ≡ length l.fn.slots.items;
  filled : (k : ℕ) → k < length l.slots.items → (is_there l.fn.slots.items k ≡ true) ⊎ (0 < count_of k l.fn.values.items) → (is_there l.slots.items k ≡ true) ⊎ (0 < count_of k l.values.items);
}

abbrev pub decreases-next : goal.decreases-next
decreases-next g l = length l.values.items

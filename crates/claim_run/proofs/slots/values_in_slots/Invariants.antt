use Rattle.std.proofs.Common.{◌≡◌, ℕ, ◌+◌, ◌<◌, vec_len, length, map, true}
use Rattle.std.specs.List.{range_with_len}
use Rattle.std.specs.Vec.Iter.{into_iter_items}
use Rattle.claim_run.specs.Slots.{RightFrom, is_there}
use Rattle.claim_run.proofs.slots.values_in_slots.Given as goal

abbrev pub invariant-loop-slot : goal.invariant-loop-slot
invariant-loop-slot g l =
    let value = g.J.Job.value l._job in
    record {
      count : vec_len l.all + length (into_iter_items l.slot-iterator) ≡ length l.fn.slots.items;
      right : RightFrom value (vec_len l.all) (into_iter_items l.slot-iterator);
      full : (k : ℕ) → k < length (into_iter_items l.slot-iterator) → is_there (into_iter_items l.slot-iterator) k ≡ true;
      each : l.all.items ≡ map value (range_with_len 0 (vec_len l.all));
    }

use Rattle.std.proofs.Common.{◌≡◌, ◌-◌}
use Rattle.std.specs.List.{range_with_len}
use Rattle.running_sums.specs.Lines.{changes_behind}
use Rattle.running_sums.proofs.chunks.chunk_total.Given as goal

abbrev pub invariant-loop-k : goal.invariant-loop-k
invariant-loop-k l =
    l.sum ≡ changes_behind l.frames l.sequence.steps (range_with_len l.start (l.k - l.start))

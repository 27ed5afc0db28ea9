use Rattle.std.proofs.Common.{◌≡◌, ℕ, ◌<◌, length, get_or, take}
use Rattle.std.specs.List.{fold}
use Rattle.prefix_scan.specs.Cut.{start_of}
use Rattle.prefix_scan.proofs.chunk_offsets.offsets_tree.Given as goal

abbrev pub invariant-loop-end : goal.invariant-loop-end
invariant-loop-end g l = let m = g.M.Monoid in record {
  count : length l.all.items ≡ l.end-index;
  start : l.start ≡ start_of l.ends l.end-index;
  each : (c : ℕ) (d : _) → c < l.end-index → get_or l.all.items c d ≡ fold m.op m.empty (take (start_of l.ends c) l.tree.values);
}

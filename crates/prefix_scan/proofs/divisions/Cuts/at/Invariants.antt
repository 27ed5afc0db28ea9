use Rattle.std.proofs.Common.{◌≡◌, ℕ, ◌<◌, get_or}
use Rattle.prefix_scan.specs.Cut.{start_of}
use Rattle.prefix_scan.proofs.divisions.Cuts.at.Given as goal

abbrev pub invariant-loop-end : goal.invariant-loop-end
invariant-loop-end l = record {
  rising : (k : ℕ) → k < l.end-index → start_of l.ends k < get_or l.ends k 0;
  before : l.before ≡ start_of l.ends l.end-index;
}

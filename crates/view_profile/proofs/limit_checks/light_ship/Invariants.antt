use Rattle.std.proofs.Common.{◌≤◌}
use Rattle.moment_sums.specs.Kept.{size_of}
use Rattle.view_profile.proofs.limit_checks.light_ship.Given as goal

abbrev pub invariant-loop-place : goal.invariant-loop-place
invariant-loop-place l = size_of l.sum ≤ l.place

use Rattle.std.proofs.Common.{◌≡◌, take}
use Rattle.moment_sums.specs.Kept.{size_of, values}
use Rattle.moment_sums.specs.Sum.{sum_of}
use Rattle.port_call.proofs.grounds.arrival_total.Given as goal

abbrev pub invariant-loop-body : goal.invariant-loop-body
invariant-loop-body l = record {
  sum : values l.sum ≡ sum_of l.profile.ship.frames (take l.body-index l.bodies);
  size : size_of l.sum ≡ l.body-index;
}

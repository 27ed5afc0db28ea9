use Rattle.std.proofs.Common.{◌≡◌, pred, drop}
use Rattle.strength.specs.Buoyancy.{aft_in, intervals_aft}
use Rattle.strength.proofs.stations.intervals_aft.Given as goal

abbrev pub invariant-loop-n : goal.invariant-loop-n
invariant-loop-n l = intervals_aft l.stations l.frame ≡ aft_in (drop l.n l.stations) l.frame (pred l.n)

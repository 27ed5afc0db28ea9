use Rattle.std.proofs.Common.{◌≡◌, drop, option_map}
use Rattle.units_core.specs.Interpolation.{at}
use Rattle.worst_values.specs.Limits.{bendings}
use Rattle.worst_values.specs.Worst.{candidate_of, joined, worst_of}
use Rattle.worst_values.proofs.loads.worst_bending.Given as goal

abbrev pub invariant-loop-i : goal.invariant-loop-i
invariant-loop-i l = worst_of (bendings (λ j. at l.bending j) l.step l.frames 0)
    ≡ joined (option_map candidate_of l.worst) (worst_of (bendings (λ j. at l.bending j) l.step (drop l.i l.frames) l.i))

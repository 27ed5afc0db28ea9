-- What is aboard after each step of a sequence, added up.
use Rattle.std.specs.Prelude.{ℕ, List, take}
use Rattle.ship_profile.specs.Record.{ProfileRecord}
use Rattle.lift_sequence.specs.declared.operations.Op.{Op}
use Rattle.lift_sequence.specs.Aboard.{Aboard, after_all}
use Rattle.lift_sequence.specs.Bodies.{bodies}
use Rattle.moment_sums.specs.Sum.{Sum, sum_of}

-- everything that is aboard once the first k steps are done, added up afresh
abbrev pub sum_at : ProfileRecord → Aboard → List Op → ℕ → Sum
sum_at ship arrival ops k =
    sum_of ship.ship.frames (bodies ship (after_all ship arrival (take k ops)))

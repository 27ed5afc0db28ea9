-- Bookkeeping: the sum at a line of a case's report.
use Rattle.std.specs.Prelude.{◌≡◌, ℕ, ◌+◌, ◌≤◌}
use Rattle.prefix_scan.specs.Laws.{most_parts}
use Rattle.moment_sums.specs.Bounded.{IsBounded}
use Rattle.moment_sums.specs.Sum.{Sum}
use Rattle.moment_sums.specs.Kept.{Kept, size_of, values}
use Rattle.port_call.specs.Cases.{CaseRecord}
use Rattle.running_sums.specs.Lines.{parts_behind, sum_to}

-- the sum at line k of a case
abbrev pub sum_in : CaseRecord → ℕ → Sum
sum_in case k = sum_to case.profile.ship.frames case.arrival.bodies case.sequence.steps k

-- the sum at line k, within its bounds, with room for the bodies of the steps behind that line
pub record IsSumAt (case : CaseRecord) (k : ℕ) (kept : Kept) : Type 0 where
  pub value : values kept ≡ sum_in case k
  pub bounded : IsBounded (values kept)
  pub room : size_of kept + parts_behind case.sequence.steps k ≤ most_parts

-- What changes behind a line of a report on a sequence of steps, and which lines are in a chunk.
-- Beside that bookkeeping: the sum at each line.
use Rattle.std.specs.Prelude.{◌≡◌, ℕ, zero, suc, ◌+◌, ◌-◌, ◌*◌, ◌<◌, ◌≤◌, List, length, map, drop}
use Rattle.std.specs.Prelude.{sum_by, slice_index, slice_index_or, slice_get, Option, None, Some}
use Rattle.std.specs.List.{fold, range_with_len}
use Rattle.units_core.specs.Bodies.{Mass}
use Rattle.units_core.specs.declared.frames.Frame.{Frame}
use Rattle.units_core.specs.declared.steps.Step.{Step}
use Rattle.prefix_scan.specs.Cut.{start_of}
use Rattle.prefix_scan.specs.Laws.{most_parts}
use Rattle.lift_sequence.specs.Limits.{most_bodies}
use Rattle.moment_sums.specs.Sum.{Sum, changed_by, joined, nothing, sum_of}
use Rattle.moment_sums.specs.Kept.{Kept, bodies_of, both_kept, kept_of, none_kept, size_of, values}

-- what a step changes, where there is one, and how many bodies it takes out and puts in
abbrev pub changed_in : List Frame → Option Step → Sum
changed_in frames None = nothing
changed_in frames (Some step) = changed_by frames step

abbrev pub bodies_in : Option Step → ℕ
bodies_in None = 0
bodies_in (Some step) = bodies_of step

-- how many bodies the steps behind line k take out and put in, all together
abbrev pub parts_behind : List Step → ℕ → ℕ
parts_behind steps k = sum_by bodies_of (drop k steps)

-- the sum at line k, which is what is aboard on arrival with what the first k steps change, and of
-- how many bodies it is at most
abbrev pub sum_to : List Frame → List Mass → List Step → ℕ → Sum
sum_to frames arrival steps zero = sum_of frames arrival
sum_to frames arrival steps (suc k) =
    joined (sum_to frames arrival steps k) (changed_in frames (slice_get steps k))

abbrev pub parts_to : ℕ → ℕ
parts_to k = most_bodies + 2 * k

-- what the step behind line k changes, as the code keeps it; behind the last line there is none
abbrev pub change_behind : List Frame → List Step → ℕ → Kept
change_behind frames steps k =
    kept_of (changed_in frames (slice_get steps k)) (bodies_in (slice_get steps k))

-- what the steps behind these lines change together
abbrev pub changes_behind : List Frame → List Step → List ℕ → Kept
changes_behind frames steps ks = fold both_kept none_kept (map (change_behind frames steps) ks)

-- the sum at the first line of each chunk, with room for the bodies of the steps that follow
pub record AreFirstSums (frames : List Frame) (arrival : List Mass) (steps : List Step)
    (ends : List ℕ) (sums : List Kept) : Type 0 where
  pub count : length sums ≡ length ends
  pub sum : (c : ℕ) (d : Kept) → c < length ends
      → values (slice_index_or sums c d) ≡ sum_to frames arrival steps (start_of ends c)
  pub size : (c : ℕ) (d : Kept) → c < length ends
      → size_of (slice_index_or sums c d) + parts_behind steps (start_of ends c) ≤ most_parts

-- the numbers of the lines of chunk c
abbrev pub chunk_of : List ℕ → ℕ → List ℕ
chunk_of ends c = range_with_len (start_of ends c) (slice_index ends c - start_of ends c)

-- Laws: the sum at each step of a run is the fold of what is aboard on arrival with what the steps
-- up to it change, and so it is from chunk to chunk.
use Rattle.std.specs.Prelude.{◌≡◌, ℕ, ◌+◌, ◌-◌, ◌<◌, ◌≤◌, List, length, map, slice_index}
use Rattle.std.specs.Prelude.{slice_index_or}
use Rattle.std.specs.List.{range_with_len}
use Rattle.units_core.specs.Bodies.{Mass}
use Rattle.units_core.specs.declared.steps.Step.{Step}
use Rattle.units_core.specs.declared.frames.Frame.{Frame}
use Rattle.ship_profile.specs.Record.{ProfileRecord}
use Rattle.lift_sequence.specs.Arrival.{ArrivalRecord, cargo_on}
use Rattle.lift_sequence.specs.Sequence.{SequenceRecord}
use Rattle.prefix_scan.specs.Cut.{Divides, start_of}
use Rattle.prefix_scan.specs.Folds.{folded, offset_list, prefix}
use Rattle.moment_sums.specs.Bounded.{IsBounded}
use Rattle.moment_sums.specs.Kept.{Kept, bodies_of, both_kept, kept_of, none_kept, values}
use Rattle.moment_sums.specs.Sum.{Sum, changed_by, of_body}
use Rattle.port_call.specs.Sums.{sum_at}
use Rattle.running_sums.specs.Lines.{changes_behind, chunk_of}

-- a body, and what a step changes, each as a sum that is kept
abbrev pub body_kept : List Frame → Mass → Kept
body_kept frames body = kept_of (of_body frames body) 1

abbrev pub step_kept : List Frame → Step → Kept
step_kept frames step = kept_of (changed_by frames step) (bodies_of step)

-- the fold of the bodies on arrival, and that of the first k steps
abbrev pub arrival_fold : List Frame → ArrivalRecord → Kept
arrival_fold frames arrival = folded none_kept both_kept (map (body_kept frames) arrival.bodies)

abbrev pub steps_prefix : List Frame → SequenceRecord → ℕ → Kept
steps_prefix frames sequence k =
    prefix none_kept both_kept (map (step_kept frames) sequence.steps) k

-- everything aboard once the first k steps are done, added up from scratch
abbrev pub sum_after : ProfileRecord → ArrivalRecord → SequenceRecord → ℕ → Sum
sum_after ship arrival sequence k = sum_at ship (cargo_on arrival) sequence.ops k

-- It is, in every value, the fold of the arrival joined with the prefix of the steps, and it is
-- bounded.
abbrev pub SumsAreFolds : ProfileRecord → ArrivalRecord → SequenceRecord → Type 0
SumsAreFolds ship arrival sequence = (k : ℕ) → k ≤ length sequence.ops
    → (values (both_kept (arrival_fold ship.ship.frames arrival)
    (steps_prefix ship.ship.frames sequence k)) ≡ sum_after ship arrival sequence k)
    × IsBounded (sum_after ship arrival sequence k)

-- what the steps behind the lines of each chunk change, and for chunk c the fold of the chunks
-- before it
abbrev pub chunk_totals : List Frame → SequenceRecord → List ℕ → List Kept
chunk_totals frames sequence ends =
    map (λ c. changes_behind frames sequence.steps (chunk_of ends c))
    (range_with_len 0 (length ends))

abbrev pub chunk_offset : List Frame → SequenceRecord → List ℕ → ℕ → Kept
chunk_offset frames sequence ends c =
    slice_index_or (offset_list none_kept both_kept (chunk_totals frames sequence ends)) c none_kept

-- what changes inside chunk c before line k
abbrev pub running_prefix : List Frame → SequenceRecord → List ℕ → ℕ → ℕ → Kept
running_prefix frames sequence ends c k =
    changes_behind frames sequence.steps (range_with_len (start_of ends c) (k - start_of ends c))

-- For each cut of the lines and each line of each chunk the arrival joined with the chunk's offset
-- and with the running prefix inside it is that same sum.
abbrev pub OffsetsAreSums : ProfileRecord → ArrivalRecord → SequenceRecord → Type 0
OffsetsAreSums ship arrival sequence = (ends : List ℕ) → Divides ends (length sequence.ops + 1)
    → (c k : ℕ) → c < length ends → start_of ends c ≤ k → k < slice_index ends c
    → values
    (both_kept (both_kept (arrival_fold ship.ship.frames arrival)
    (chunk_offset ship.ship.frames sequence ends c))
    (running_prefix ship.ship.frames sequence ends c k))
    ≡ sum_after ship arrival sequence k

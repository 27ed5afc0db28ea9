-- What a session leaves: a list to which the edits that are kept lead from that of the inputs, and
-- the last line of the report on it.
use Rattle.std.specs.Prelude.{◌≡◌, ℕ, ◌+◌, List, ◌++◌, length}
use Rattle.prefix_scan.specs.Cut.{Divides}
use Rattle.lift_sequence.specs.declared.operations.Op.{Op}
use Rattle.port_call.specs.Grounds.{GroundRecord, steps_on}
use Rattle.running_sums.specs.Lines.{AreFirstSums}
use Rattle.seq_report.specs.Report.{last_line}
use Rattle.run_files.specs.Statuses.{status_on}
use Rattle.what_if.specs.Bases.{report_on}
use Rattle.view_session.specs.Shelves.{AreTrails}
use Rattle.view_session.specs.Trails.{IsTrail, TriedRecord}
use Rattle.view_sittings.specs.declared.judging.Chunks.{Chunks}
use Rattle.view_sittings.specs.declared.settings.Sitting.{Sitting}

-- chunks of the lines of a list, with the sum at the first line of each
abbrev pub AreChunks : Chunks → GroundRecord → List Op → Type 0
AreChunks chunks base ops = Divides chunks.cuts (length ops + 1)
    × AreFirstSums base.ship.ship.frames base.arrival.bodies (steps_on base ops) chunks.cuts
    chunks.sums.items

-- a session on this base, in which the lines that are kept lead from this list to its own, and
-- those of each publication to the list that was published
abbrev pub IsFrom : GroundRecord → List Op → Sitting → Type 0
IsFrom base from sitting = (sitting.tried.session.base ≡ base)
    × IsTrail from sitting.tried × AreTrails from sitting.shelf

-- what is left of a session that began with a list: another one, to which the lines lead that are
-- kept, the last line of the report on it, and its status
abbrev pub IsLeftBy : GroundRecord → List Op → ℕ → List ℕ → Type 0
IsLeftBy base from status text =
    (tried : TriedRecord) × (tried.session.base ≡ base) × IsTrail from tried
    × (status ≡ status_on (report_on base tried.session.ops).summary.first)
    × (front : List ℕ)
    × (text ≡ front ++ last_line (report_on base tried.session.ops).summary.first)

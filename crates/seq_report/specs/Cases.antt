-- Bookkeeping: the lines of a case, and its chunks.
use Rattle.std.specs.Prelude.{◌≡◌, ℕ, ◌+◌, ◌-◌, ◌<◌, ◌≤◌, List, length, map, Option, None, Some}
use Rattle.std.specs.List.{range_with_len}
use Rattle.port_call.specs.Cases.{CaseRecord, aboard_first}
use Rattle.seq_report.specs.declared.sections.Chunk.{Chunk}
use Rattle.claim_board.specs.Claims.{IsLeastFound}
use Rattle.running_sums.specs.Lines.{chunk_of}
use Rattle.seq_report.specs.Sums.{IsSumAt}
use Rattle.seq_report.specs.Chunks.{step_of_first}
use Rattle.seq_report.specs.Refusal.{Outcome, outcome_on}
use Rattle.criteria.specs.declared.criterion.Criterion.{Criterion}
use Rattle.seq_report.specs.Report.{Line, failure_of, line_at, lines_of}

abbrev pub line_in : CaseRecord → ℕ → Line
line_in case k = line_at case.profile (aboard_first case) case.sequence.ops k

abbrev pub outcome_in : CaseRecord → Outcome
outcome_in case = outcome_on (lines_of case.profile (aboard_first case) case.sequence.ops)

-- the first step of chunk c that fails
abbrev pub first_step_in : CaseRecord → List ℕ → ℕ → Option ℕ
first_step_in case ends c = step_of_first (map (line_in case) (chunk_of ends c))

-- the least step that fails in any chunk
abbrev pub IsFirstStep : CaseRecord → List ℕ → ℕ → Type 0
IsFirstStep case ends least = IsLeastFound (Some least) (first_step_in case ends) (length ends)

-- the first n lines pass
abbrev pub ArePassed : CaseRecord → ℕ → Type 0
ArePassed case n = (k : ℕ) → k < n → failure_of (line_in case k).step ≡ None

-- how many of so many lines pass before the first that fails
abbrev pub passed_before : Option (ℕ × Criterion) → ℕ → ℕ
passed_before None lines = lines
passed_before (Some first) lines = first.0

-- the numbers of a chunk's lines
abbrev pub lines_in : Chunk → List ℕ
lines_in chunk = range_with_len chunk.start (chunk.end - chunk.start)

-- some of a case's lines, with the sum at the first of them
pub record IsChunk (case : CaseRecord) (chunk : Chunk) : Type 0 where
  pub some : chunk.start < chunk.end
  pub inside : chunk.end ≤ length case.sequence.ops + 1
  pub sum : IsSumAt case chunk.start chunk.first

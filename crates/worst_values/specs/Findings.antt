-- What is found over the conditions of a case, from that on arrival to that of the last step: the
-- worst value of each limit, and which criteria each condition doesn't meet.
use Rattle.std.specs.Prelude.{ℕ, suc, List, [], ◌∷◌, ◌++◌, map, flat_map, length, Option, Bool}
use Rattle.std.specs.Prelude.{true, false, not}
use Rattle.std.specs.List.{range_with_len}
use Rattle.ship_profile.specs.Record.{ProfileRecord}
use Rattle.ship_profile.specs.Ship.{ShipRecord}
use Rattle.moment_sums.specs.Sum.{Sum}
use Rattle.hydrostat.specs.declared.outside.Outside.{Outside}
use Rattle.hydrostat.specs.declared.outside.Outside.TheVariants as cause
use Rattle.criteria.specs.Assessment.{Assessment, IsOutside, Fails, Passes, assessment_of}
use Rattle.criteria.specs.Criteria.{Condition, criteria, holds}
use Rattle.port_call.specs.Cases.{CaseRecord, aboard_first}
use Rattle.port_call.specs.Sums.{sum_at}
use Rattle.worst_values.specs.Limits.{candidates_of, limit_of}
use Rattle.worst_values.specs.Worst.{Candidate, worst_of}
use Rattle.worst_values.specs.declared.findings.Findings.{Findings}

-- the values of line k by the limit of a row, as the condition is assessed; none where it lies
-- outside of the tables
abbrev pub candidates_by : ShipRecord → ℕ → ℕ → Assessment → List Candidate
candidates_by ship row k (IsOutside outside) = []
candidates_by ship row k (Fails criterion c) = candidates_of ship c (limit_of row) k
candidates_by ship row k (Passes c) = candidates_of ship c (limit_of row) k

-- with this aboard
abbrev pub candidates_with : ProfileRecord → ℕ → ℕ → Sum → List Candidate
candidates_with p row k s = candidates_by p.ship row k (assessment_of p s)

-- of a case, everything that is aboard at line k being added up afresh
unfoldable pub candidates_at : CaseRecord → ℕ → ℕ → List Candidate
candidates_at case row k =
    candidates_with case.profile row k
    (sum_at case.profile (aboard_first case) case.sequence.ops k)

-- whether it is outside for each cause, in the order in which the tables are looked at
abbrev pub by_cause : Outside → List Bool
by_cause cause.Hydro = true ∷ false ∷ false ∷ false ∷ false ∷ []
by_cause cause.Levers = false ∷ true ∷ false ∷ false ∷ false ∷ []
by_cause cause.Bonjean = false ∷ false ∷ true ∷ false ∷ false ∷ []
by_cause cause.Closing = false ∷ false ∷ false ∷ true ∷ false ∷ []
by_cause cause.GmLimit = false ∷ false ∷ false ∷ false ∷ true ∷ []

abbrev pub by_none : List Bool
by_none = false ∷ false ∷ false ∷ false ∷ false ∷ []

-- outside of the tables no criterion is judged, and C0 isn't met
abbrev pub outside_alone : List Bool
outside_alone =
    true ∷ false ∷ false ∷ false ∷ false ∷ false ∷ false ∷ false ∷ false ∷ false ∷ false ∷ false ∷
    []

-- Whether a condition doesn't meet each criterion, whatever else it doesn't meet, in their order;
-- and behind these, whether it is outside for each cause.
abbrev pub unmet_of : ShipRecord → Condition → List Bool
unmet_of ship c = map (λ k. not (holds ship c k)) criteria ++ by_none

abbrev pub unmet_by : ShipRecord → Assessment → List Bool
unmet_by ship (IsOutside outside) = outside_alone ++ by_cause outside
unmet_by ship (Fails criterion c) = unmet_of ship c
unmet_by ship (Passes c) = unmet_of ship c

abbrev pub unmet_with : ProfileRecord → Sum → List Bool
unmet_with p s = unmet_by p.ship (assessment_of p s)

unfoldable pub unmet_at : CaseRecord → ℕ → List Bool
unmet_at case k =
    unmet_with case.profile (sum_at case.profile (aboard_first case) case.sequence.ops k)

-- the worst value over some lines by the limit of a row
abbrev pub worst_over : CaseRecord → List ℕ → ℕ → Option Candidate
worst_over case ks row = worst_of (flat_map (candidates_at case row) ks)

-- the lines of a case
abbrev pub all_lines : CaseRecord → List ℕ
all_lines case = range_with_len 0 (suc (length case.sequence.ops))

-- what is found over them: the worst value of each row, and what each line in order doesn't meet
abbrev pub found_over : CaseRecord → List ℕ → Findings
found_over case ks =
    record {
      rows = map (worst_over case ks) (range_with_len 0 14);
      unmet = map (unmet_at case) ks;
    }

-- over all lines of a case
abbrev pub found_in : CaseRecord → Findings
found_in case = found_over case (all_lines case)

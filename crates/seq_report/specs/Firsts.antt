-- Bookkeeping: the first failing line of a chunk is one of its lines. A proof, which the impl of
-- `Scout` hands over.
use Rattle.std.specs.Prelude.{◌≡◌, ℕ, zero, suc, ◌+◌, ◌-◌, ◌^◌, ◌<◌, ◌≤◌, List, length, map}
use Rattle.std.specs.Prelude.{slice_index, Option, Some, None, option_map}
use Rattle.std.specs.List.{range_with_len}
use Rattle.std.specs.Option.{option_or}
use Rattle.std.proofs.Common.{arith, refl}
use Rattle.prefix_scan.specs.Cut.{start_of, Divides}
use Rattle.prefix_scan.proofs.CutLemmas.{start_within}
use Rattle.criteria.specs.declared.criterion.Criterion.{Criterion}
use Rattle.lift_sequence.specs.Limits.{most_steps}
use Rattle.port_call.specs.Cases.{CaseRecord}
use Rattle.seq_report.specs.Cases.{first_step_in, line_in}
use Rattle.running_sums.specs.Lines.{chunk_of}
use Rattle.seq_report.specs.Report.{first_failed, first_of}

-- the first failing line of those from a on is one of them
pub first_within : (case : CaseRecord) (n a : ℕ) (p : ℕ × Criterion)
    → first_of (map (line_in case) (range_with_len a n)) ≡ Some p → (a ≤ p.0) × (p.0 < a + n)
first_within case zero a p is = absurd (cc)
first_within case (suc n) a p is =
    by (first_failed (line_in case a).step.judgement) (first_within case n (a + 1) p) is
  where
    by : (o : Option Criterion)
        → (first_of (map (line_in case) (range_with_len (a + 1) n)) ≡ Some p
        → (a + 1 ≤ p.0) × (p.0 < a + 1 + n))
        → option_or (option_map (λ criterion. (a, criterion)) o)
        (first_of (map (line_in case) (range_with_len (a + 1) n))) ≡ Some p
        → (a ≤ p.0) × (p.0 < a + suc n)
    by None more e = let rest = more e in (omega (arith, rest.0), omega (arith, rest.1))
    by (Some criterion) more e =
        let same : a ≡ p.0 = cc in (omega (arith, same), omega (arith, same))

step_within : (case : CaseRecord) (n a step : ℕ) (o : Option (ℕ × Criterion))
    → first_of (map (line_in case) (range_with_len a n)) ≡ o
    → option_map (λ first. first.0) o ≡ Some step
    → (a ≤ step) × (step < a + n)
step_within case n a step None is e = absurd (cc)
step_within case n a step (Some p) is e =
    let same : p.0 ≡ step =
    cc in let h = first_within case n a p is in (omega (arith, h.0), omega (arith, h.1))

pub steps_within : (case : CaseRecord) (ends : List ℕ) → length case.sequence.ops ≤ most_steps
    → Divides ends (length case.sequence.ops + 1)
    → (k step : ℕ) → k < length ends → first_step_in case ends k ≡ Some step
    → (start_of ends k ≤ step) × (step < 2 ^ 32)
steps_within case ends few d k step low is =
    let n = slice_index ends k - start_of ends k in
    let rises = d.rising k low in
    let last = start_within ends (length case.sequence.ops + 1) (suc k) d low in
    let h = step_within case n (start_of ends k) step
    (first_of (map (line_in case) (chunk_of ends k))) refl is in
    (h.0, omega (arith, h.1, rises, last, few))

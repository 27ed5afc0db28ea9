-- The sum at a line of a case is what adding up everything aboard there gives, and it grows from line to line.
use Rattle.std.proofs.Common.{◌≡◌, ℕ, suc, ◌+◌, ◌≤◌, slice_get, sym, ap, ◌∙◌, arith}
use Rattle.prefix_scan.specs.Laws.{most_parts}
use Rattle.moment_sums.specs.Sum.{joined, value}
use Rattle.moment_sums.specs.Kept.{Kept, both_kept, size_of, values}
use Rattle.moment_sums.specs.KeptLaws.{kept_laws}
use Rattle.moment_sums.proofs.Bounds.{values_both}
use Rattle.port_call.specs.Cases.{aboard_first, CaseRecord, IsReady}
use Rattle.port_call.specs.Sums.{sum_at}
use Rattle.running_sums.specs.Lines.{bodies_in, change_behind, parts_behind}
use Rattle.running_sums.proofs.SumLemmas.{change_parts, change_values, parts_split, sums_so_far}
use Rattle.seq_report.specs.Sums.{sum_in}

pub sum_here : (case : CaseRecord) → IsReady case → (k : ℕ) → sum_in case k ≡ sum_at case.profile (aboard_first case) case.sequence.ops k
sum_here case ready k =
    let frames = case.profile.ship.frames in
    λ j c. (sums_so_far frames case.arrival.bodies case.sequence.steps k c ∙ sym (ready.adds_up (value frames c) k)) j

-- the sum at a line with what changes behind it is the sum at the next line
module _ (case : CaseRecord) (ready : IsReady case) (k : ℕ) where
  pub next_size : (s t r : Kept) → size_of s + parts_behind case.sequence.steps k ≤ most_parts → t ≡ change_behind case.profile.ship.frames case.sequence.steps k
      → r ≡ both_kept s t → size_of r + parts_behind case.sequence.steps (k + 1) ≤ most_parts
  next_size s t r fits is joins =
      let next : suc k ≡ k + 1 = omega arith in
      let steps = case.sequence.steps in
      let split = parts_split steps k in
      let change : size_of t ≡ bodies_in (slice_get steps k) = ap size_of is ∙ change_parts case.profile.ship.frames steps k in
      let both = kept_laws.op_weight s t (omega (arith, fits, split, change)) in
      omega (arith, ap size_of joins, both, fits, split, change, ap (parts_behind steps) next)

  pub next_sum : (s t r : Kept) → values s ≡ sum_in case k → t ≡ change_behind case.profile.ship.frames case.sequence.steps k → r ≡ both_kept s t
      → values r ≡ sum_in case (k + 1)
  next_sum s t r here is joins =
      let next : suc k ≡ k + 1 = omega arith in
      ap values joins ∙ values_both s t
      ∙ (λ j. joined (here j) ((ap values is ∙ change_values case.profile.ship.frames ready.frames case.sequence.steps k) j))
      ∙ ap (sum_in case) next

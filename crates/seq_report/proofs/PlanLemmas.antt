-- Faults of plans.
use Rattle.std.proofs.Common.{◌≡◌, ◌≢◌, ℕ, ◌<◌, ◌⊎◌, inl, inr, refl, arith}
use Rattle.prefix_scan.specs.Cut.{IsFaultOfEvery}
use Rattle.prefix_scan.specs.declared.divisions.CutFault.{CutFault}
use Rattle.prefix_scan.specs.declared.divisions.CutFault.TheVariants.{Empty, NotRising, WrongEnd, NoMemory}
use Rattle.port_call.specs.Refusals.{cuts_refusal}
use Rattle.seq_report.specs.declared.plans.CutPlan.{CutPlan}
use Rattle.seq_report.specs.Plans.{IsPlanFault, IsUncut}

empty_chunk : (n lines : ℕ) → 0 < lines → (n ≡ 0) ⊎ (lines ≡ 0) → (n ≡ 0) × (Empty ≡ Empty)
empty_chunk n lines some (inl none) = (none, refl)
empty_chunk n lines some (inr none) = absurd (omega arith)

pub fault_of_every : (n lines : ℕ) (fault : CutFault) → 0 < lines → fault ≢ NoMemory → IsFaultOfEvery n lines fault → (n ≡ 0) × (fault ≡ Empty)
fault_of_every n lines Empty some told h = empty_chunk n lines some h
fault_of_every n lines NotRising some told h = absurd h
fault_of_every n lines WrongEnd some told h = absurd h
fault_of_every n lines NoMemory some told h = absurd (told refl)

-- why lines aren't cut, as a fault of the run
pub as_refusal : (plan : CutPlan) (lines : ℕ) (fault : CutFault) → (fault ≢ NoMemory → IsPlanFault plan lines fault) → IsUncut plan lines (cuts_refusal fault)
as_refusal plan lines Empty h = (λ e. absurd (cc), h (λ e. absurd (cc)))
as_refusal plan lines NotRising h = (λ e. absurd (cc), h (λ e. absurd (cc)))
as_refusal plan lines WrongEnd h = (λ e. absurd (cc), h (λ e. absurd (cc)))
as_refusal plan lines NoMemory h = tt

-- Where a report is cut into chunks: the plan fits the number of lines, or has a fault.
use Rattle.std.specs.Prelude.{◌≡◌, ◌≢◌, ℕ, ◌<◌, ⊤}
use Rattle.prefix_scan.specs.Cut.{Divides, IsFault}
use Rattle.prefix_scan.specs.declared.divisions.CutFault.{CutFault}
use Rattle.prefix_scan.specs.declared.divisions.CutFault.TheVariants as cut
use Rattle.prefix_scan.specs.declared.divisions.CutFault.TheVariants.{Empty}
use Rattle.port_call.specs.declared.faults.RunFault.{RunFault}
use Rattle.port_call.specs.declared.faults.RunFault.TheVariants.{Cuts, NoMemory}
use Rattle.seq_report.specs.declared.plans.CutPlan.{CutPlan}
use Rattle.seq_report.specs.declared.plans.CutPlan.TheVariants.{Every, At}

abbrev pub Fits : CutPlan → ℕ → Type 0
Fits (Every n) lines = 0 < n
Fits (At ends) lines = Divides ends.now lines

-- the first fault of the plan, in the order K1 to K3; chunks of a number of lines have none but
-- that they are empty
abbrev pub IsPlanFault : CutPlan → ℕ → CutFault → Type 0
IsPlanFault (Every n) lines fault = (n ≡ 0) × (fault ≡ Empty)
IsPlanFault (At ends) lines fault = IsFault ends.now lines fault

-- why lines aren't cut: the plan has this fault, or memory ran out
abbrev pub IsUncut : CutPlan → ℕ → RunFault → Type 0
IsUncut plan lines (Cuts fault) = (fault ≢ cut.NoMemory) × IsPlanFault plan lines fault
IsUncut plan lines NoMemory = ⊤
IsUncut plan lines e = ⊥

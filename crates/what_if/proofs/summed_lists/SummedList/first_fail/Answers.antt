use Rattle.std.proofs.Common.{arith}
use Rattle.what_if.proofs.summed_lists.SummedList.first_fail.Goals as goal

-- no condition is before the first
pub first_fail_behind-requires : goal.first_fail_behind-requires
first_fail_behind-requires c = λ k low. absurd (omega (arith, low))

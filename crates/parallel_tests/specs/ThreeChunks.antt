-- Three chunks of five steps each, of which the first two fail, for tests.
use Rattle.std.specs.Prelude.{◌≡◌, ℕ, zero, suc, ◌*◌, ◌<◌, ◌≤◌, ◌^◌, Option, Some, None}
use Rattle.std.proofs.Common.{arith}

abbrev pub three_begin : ℕ → ℕ
three_begin k = 5 * k

abbrev pub three_find : ℕ → Option ℕ
three_find zero = Some 3
three_find (suc zero) = Some 9
three_find (suc (suc k)) = None

pub three_within : (k step : ℕ) → k < 3 → three_find k ≡ Some step
    → (three_begin k ≤ step) × (step < 2 ^ 32)
three_within zero step h e = let is : 3 ≡ step = cc in (omega arith, omega arith)
three_within (suc zero) step h e = let is : 9 ≡ step = cc in (omega arith, omega arith)
three_within (suc (suc k)) step h e = absurd (cc)

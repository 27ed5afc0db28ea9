-- A scout that finds nothing.
use Rattle.std.specs.Prelude.{◌≡◌, ℕ, ◌<◌, ◌≤◌, ◌^◌, Option, Some, None}

abbrev pub at_zero : ℕ → ℕ
at_zero k = 0

abbrev pub no_failure : ℕ → Option ℕ
no_failure k = None

pub none_within : (k step : ℕ) → k < 2 ^ 32 → no_failure k ≡ Some step
    → (at_zero k ≤ step) × (step < 2 ^ 32)
none_within k step h e = absurd (cc)

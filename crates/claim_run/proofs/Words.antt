-- What words stand for.
use Rattle.std.proofs.Common.{◌≡◌, ℕ, ◌<◌, cond, Bool, true, false, Some, None, Option}
use Rattle.std.specs.Prelude.{nat_eq}
use Rattle.claim_run.specs.Views.{no_step, least_of}

pub least_is : (n l : ℕ) → least_of n ≡ Some l → n ≡ l
least_is n l e = by_test (nat_eq n no_step) e
  where
    by_test : (b : Bool) → cond b None (Some n) ≡ Some l → n ≡ l
    by_test true p = absurd (cc)
    by_test false p = cc

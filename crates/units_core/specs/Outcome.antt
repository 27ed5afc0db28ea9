-- Results that stop at their first fault: the chains in which the definitions of all readers are
-- written.
use Rattle.std.specs.Prelude.{ℤ, int_le, Bool, ◌&&◌, if◌then◌else◌, Option, None, Some, Result, Ok}
use Rattle.std.specs.Prelude.{Err}

-- what follows, where there was no fault
infixl 10 ◌>>=◌
abbrev pub ◌>>=◌ : {A B E : Type 0} → Result A E → (A → Result B E) → Result B E
Ok a >>= f = f a
Err e >>= f = Err e

-- what is there, or this fault
abbrev pub or_fault : {A E : Type 0} → E → Option A → Result A E
or_fault e None = Err e
or_fault e (Some a) = Ok a

-- this, unless there is a fault
abbrev pub unless : {A E : Type 0} → Option E → A → Result A E
unless None a = Ok a
unless (Some e) a = Err e

-- this where the test is passed, or this fault
abbrev pub demand : {A E : Type 0} → E → Bool → A → Result A E
demand e passed a = if passed then Ok a else Err e

-- a number within its limits, or this fault
abbrev pub within : {E : Type 0} → E → ℤ → ℤ → ℤ → Result ℤ E
within e low high z = demand e (int_le low z && int_le z high) z

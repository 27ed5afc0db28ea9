-- Results that stop at their first fault: what follows from one that went on.
use Rattle.std.proofs.Common.{◌≡◌, Bool, true, false, ◌&&◌, ℤ, ◌≤ℤ◌, int_le, Option, None, Some, Result, Ok, Err, IfOk, IfErr, refl, arith}
use Rattle.std.proofs.lemmas.Bool.{and_parts}
use Rattle.std.proofs.lemmas.Int.{ints}
use Rattle.units_core.specs.Outcome.{◌>>=◌, or_fault, unless, demand, within}

-- a result that went on
pub went_on : {A B E : Type 0} (r : Result A E) (f : A → Result B E) (b : B) → r >>= f ≡ Ok b → (a : A) × (r ≡ Ok a) × (f a ≡ Ok b)
went_on (Ok a) f b e = (a, refl, e)
went_on (Err x) f b e = cc

pub same_ok : {A E : Type 0} (a b : A) → ◌≡◌ {A = Result A E} (Ok a) (Ok b) → a ≡ b
same_ok a b e = cc

-- what was there
pub was_there : {A E : Type 0} (x : E) (o : Option A) (a : A) → or_fault x o ≡ Ok a → o ≡ Some a
was_there x None a e = cc
was_there x (Some b) a e = cc

-- no fault was there
pub no_fault : {A E : Type 0} (o : Option E) (a b : A) → unless o a ≡ Ok b → (o ≡ None) × (a ≡ b)
no_fault None a b e = (refl, cc)
no_fault (Some x) a b e = cc

-- a test that was passed
pub passed : {A E : Type 0} (x : E) (t : Bool) (a b : A) → demand x t a ≡ Ok b → (t ≡ true) × (a ≡ b)
passed x true a b e = (refl, cc)
passed x false a b e = cc

-- a number within its limits
pub within-limits : {E : Type 0} (x : E) (low high z y : ℤ) → within x low high z ≡ Ok y → (z ≡ y) × (low ≤ℤ y) × (y ≤ℤ high)
within-limits x low high z y e =
    let p = passed x (int_le low z && int_le z high) z y e in
    let parts = and_parts (int_le low z) (int_le z high) p.0 in
    (p.1, rw (← p.1) (grind (arith, ints, parts)), rw (← p.1) (grind (arith, ints, parts)))

-- what follows from a value, or from a fault
pub lift_ok : {T E : Type 0} {P Q : T → Type 0} (r : Result T E) → IfOk r P → ((v : T) → P v → Q v) → IfOk r Q
lift_ok (Ok v) p f = f v p
lift_ok (Err e) p f = tt

pub lift_err : {T E : Type 0} {P Q : E → Type 0} (r : Result T E) → IfErr r P → ((e : E) → P e → Q e) → IfErr r Q
lift_err (Ok v) p f = tt
lift_err (Err e) p f = f e p

-- The array of a key: no array, too many elements, each of them, too few.
use Rattle.std.proofs.Common.{◌≡◌, ◌∙◌, ℕ, ◌<◌, ◌≤◌, nat_le, true, false, List, [], length, Some, Result, Ok, Err, refl, arith}
use Rattle.std.proofs.lemmas.Bool.Decides.{nat_tests}
use Rattle.toml.specs.Data.{Data, as_array}
use Rattle.toml.specs.View.{items_view}
use Rattle.toml.specs.declared.value.Value.{Value}
use Rattle.ship_tables.specs.declared.faults.File.TheVariants as file
use Rattle.ship_profile.specs.declared.faults.Key.{Key}
use Rattle.ship_profile.specs.declared.faults.ProfileFault.{ProfileFault}
use Rattle.ship_profile.specs.declared.faults.ProfileFault.TheVariants.{OutOfLimits, TooFewRows}
use Rattle.ship_profile.specs.Keys.{items_in, elements_of}
use Rattle.units_core.specs.Outcome.{◌>>=◌, demand}
use Rattle.ship_profile.specs.Outcome.{one_by_one}
use Rattle.ship_profile.proofs.KeyLemmas.{items_length}

module _ {A : Type 0} (key : Key) (least most : ℕ) (next : List A → Data → Result A ProfileFault) (d : Data) (vs : List Value) (array : Some (items_view vs) ≡ as_array d) where
  -- too many elements
  pub elements-many : most < length vs → elements_of key least most next d ≡ Err (OutOfLimits file.Ship 0)
  elements-many h = let many : nat_le (length vs) most ≡ false = grind (arith, nat_tests) in rw (← array, items_length vs, many) refl

  -- no more elements than there may be
  elements-each : length vs ≤ most
      → elements_of key least most next d ≡ one_by_one next [] (items_in (items_view vs)) >>= (λ xs. demand (TooFewRows file.Ship) (nat_le least (length xs)) xs)
  elements-each h = let few : nat_le (length vs) most ≡ true = grind (arith, nat_tests) in rw (← array, items_length vs, few) refl

  -- an element that is none
  pub elements-stop : (e : ProfileFault) → length vs ≤ most → one_by_one next [] (items_in (items_view vs)) ≡ Err e → elements_of key least most next d ≡ Err e
  elements-stop e h f = elements-each h ∙ (rw f refl)

  -- too few elements, and enough
  pub elements-few : (xs : List A) → length vs ≤ most → one_by_one next [] (items_in (items_view vs)) ≡ Ok xs → length xs < least
      → elements_of key least most next d ≡ Err (TooFewRows file.Ship)
  elements-few xs h f few = let no : nat_le least (length xs) ≡ false = grind (arith, nat_tests) in elements-each h ∙ (rw (f, no) refl)

  pub elements-enough : (xs : List A) → length vs ≤ most → one_by_one next [] (items_in (items_view vs)) ≡ Ok xs → least ≤ length xs
      → elements_of key least most next d ≡ Ok xs
  elements-enough xs h f enough = let yes : nat_le least (length xs) ≡ true = grind (arith, nat_tests) in elements-each h ∙ (rw (f, yes) refl)

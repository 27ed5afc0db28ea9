use Rattle.std.proofs.Common.{◌≡◌, ℕ, zero, suc, ℤ, Bool, true, false, not, List, [], ◌∷◌, slice_get, Option, None, Some, refl, sym, ap, arith}
use Rattle.std.specs.Prelude.{find}
use Rattle.units_core.specs.Ratio.{Ratio}
use Rattle.ship_profile.specs.Record.{ProfileRecord}
use Rattle.ship_profile.specs.Ship.{ShipRecord}
use Rattle.moment_sums.specs.Sum.{Sum, Weight}
use Rattle.hydrostat.specs.Floating.{Hydrostatics, hydrostatics_at, load_of}
use Rattle.hydrostat.specs.declared.outside.Outside.{Outside}
use Rattle.hydrostat.specs.declared.outside.Outside.TheVariants as cause
use Rattle.righting.specs.Aboard.{levers_of}
use Rattle.strength.specs.Strains.{bending_at, closes, closing_of, shear_at}
use Rattle.criteria.specs.Assessment.{Assessment, IsOutside, Fails, Passes, assessed, assessment_of, with_areas, with_closing, with_least, with_levers, with_water}
use Rattle.criteria.specs.Criteria.{Condition, criteria, holds, not_met}
use Rattle.criteria.specs.Law.{IsFirst, areas_at, carry, has, is_given, is_there, number_of, number_of_cause}
use Rattle.criteria.specs.Least.{least_at}
use Rattle.criteria.specs.declared.criterion.Criterion.{Criterion}
use Rattle.criteria.specs.declared.criterion.Criterion.TheVariants.{C0, C1, C2, C3, C4, C5, C6, C7, C8, C9, C10, C11}
use Rattle.criteria.proofs.Orders.{found, not_found}
use Rattle.criteria.proofs.laws.judges_in_order.Goals as goal

abbrev causes : List Outside
causes = cause.Hydro ∷ cause.Levers ∷ cause.Bonjean ∷ cause.Closing ∷ cause.GmLimit ∷ []

-- where each stands in its list, and what stands there
cause_at : (o : Outside) → (n : ℕ) × (slice_get causes n ≡ Some o) × (suc n ≡ number_of_cause o)
cause_at cause.Hydro = (0, refl, refl)
cause_at cause.Levers = (1, refl, refl)
cause_at cause.Bonjean = (2, refl, refl)
cause_at cause.Closing = (3, refl, refl)
cause_at cause.GmLimit = (4, refl, refl)

cause_number : (m : ℕ) (o : Outside) → slice_get causes m ≡ Some o → suc m ≡ number_of_cause o
cause_number zero o at = let same : cause.Hydro ≡ o = cc in ap number_of_cause same
cause_number (suc zero) o at = let same : cause.Levers ≡ o = cc in ap number_of_cause same
cause_number (suc (suc zero)) o at = let same : cause.Bonjean ≡ o = cc in ap number_of_cause same
cause_number (suc (suc (suc zero))) o at = let same : cause.Closing ≡ o = cc in ap number_of_cause same
cause_number (suc (suc (suc (suc zero)))) o at = let same : cause.GmLimit ≡ o = cc in ap number_of_cause same
cause_number (suc (suc (suc (suc (suc m))))) o at = absurd cc

criterion_at : (k : Criterion) → slice_get criteria (number_of k) ≡ Some k
criterion_at C0 = refl
criterion_at C1 = refl
criterion_at C2 = refl
criterion_at C3 = refl
criterion_at C4 = refl
criterion_at C5 = refl
criterion_at C6 = refl
criterion_at C7 = refl
criterion_at C8 = refl
criterion_at C9 = refl
criterion_at C10 = refl
criterion_at C11 = refl

criterion_number : (m : ℕ) (k : Criterion) → slice_get criteria m ≡ Some k → m ≡ number_of k
criterion_number zero k at = let same : C0 ≡ k = cc in ap number_of same
criterion_number (suc zero) k at = let same : C1 ≡ k = cc in ap number_of same
criterion_number (suc (suc zero)) k at = let same : C2 ≡ k = cc in ap number_of same
criterion_number (suc (suc (suc zero))) k at = let same : C3 ≡ k = cc in ap number_of same
criterion_number (suc (suc (suc (suc zero)))) k at = let same : C4 ≡ k = cc in ap number_of same
criterion_number (suc (suc (suc (suc (suc zero))))) k at = let same : C5 ≡ k = cc in ap number_of same
criterion_number (suc (suc (suc (suc (suc (suc zero)))))) k at = let same : C6 ≡ k = cc in ap number_of same
criterion_number (suc (suc (suc (suc (suc (suc (suc zero))))))) k at = let same : C7 ≡ k = cc in ap number_of same
criterion_number (suc (suc (suc (suc (suc (suc (suc (suc zero)))))))) k at = let same : C8 ≡ k = cc in ap number_of same
criterion_number (suc (suc (suc (suc (suc (suc (suc (suc (suc zero))))))))) k at = let same : C9 ≡ k = cc in ap number_of same
criterion_number (suc (suc (suc (suc (suc (suc (suc (suc (suc (suc zero)))))))))) k at = let same : C10 ≡ k = cc in ap number_of same
criterion_number (suc (suc (suc (suc (suc (suc (suc (suc (suc (suc (suc zero))))))))))) k at = let same : C11 ≡ k = cc in ap number_of same
criterion_number (suc (suc (suc (suc (suc (suc (suc (suc (suc (suc (suc (suc m)))))))))))) k at = absurd cc

-- what an assessment says: a cause, and of a condition its first criterion that isn't met
abbrev cause_of : Assessment → Option Outside
cause_of (IsOutside o) = Some o
cause_of (Fails k c) = None
cause_of (Passes c) = None

abbrev Names : ShipRecord → Assessment → Type 0
Names ship (IsOutside o) = Unit {0}
Names ship (Fails k c) = not_met ship c ≡ Some k
Names ship (Passes c) = not_met ship c ≡ None

named : (ship : ShipRecord) (c : Condition) (o : Option Criterion) → not_met ship c ≡ o → Names ship (assessed o c)
named ship c None e = e
named ship c (Some k) e = e

no_cause : (c : Condition) (o : Option Criterion) → cause_of (assessed o c) ≡ None
no_cause c None = refl
no_cause c (Some k) = refl

module _ (p : ProfileRecord) (s : Sum) where
  abbrev levers_here : Option (ℕ → Ratio)
  levers_here = levers_of p.tables.levers s

  abbrev least_here : Option (Option Ratio)
  least_here = least_at p.tables.least_gm (s Weight)

  -- the first of the causes whose table lacks the value, and the criterion
  record IsTold (water : Option Hydrostatics) (levers : Bool) (areas : Option (ℕ → ℤ)) (carried least : Bool) (a : Assessment) : Type 0 where
    cause : cause_of a ≡ find (λ o. not (is_given water levers areas carried least o)) causes
    names : Names p.ship a

  at_least : (w : Hydrostatics) (y : ℕ → Ratio) (areas : ℕ → ℤ) (closing : ℤ) (shear bending : ℕ → ℤ) (least : Option (Option Ratio))
      → IsTold (Some w) true (Some areas) true (is_there least) (with_least p.ship w (load_of s) y closing shear bending least)
  at_least w y areas closing shear bending None = record { cause = refl; names = tt }
  at_least w y areas closing shear bending (Some least) =
      let c : Condition = record { water = w; load = load_of s; levers = y; closing = closing; shear = shear; bending = bending; least_gm = least } in
      record { cause = no_cause c (not_met p.ship c); names = named p.ship c (not_met p.ship c) refl }

  at_closing : (w : Hydrostatics) (y : ℕ → Ratio) (areas : ℕ → ℤ) (b : Bool)
      → IsTold (Some w) true (Some areas) b (is_there least_here) (with_closing p s w y areas b)
  at_closing w y areas false = record { cause = refl; names = tt }
  at_closing w y areas true =
      at_least w y areas (closing_of s areas p.ship.stations) (shear_at s areas p.ship.stations p.ship.frames) (bending_at s areas p.ship.stations p.ship.frames) least_here

  at_areas : (w : Hydrostatics) (y : ℕ → Ratio) (o : Option (ℕ → ℤ)) → IsTold (Some w) true o (carry p s o) (is_there least_here) (with_areas p s w y o)
  at_areas w y None = record { cause = refl; names = tt }
  at_areas w y (Some areas) = at_closing w y areas (closes (closing_of s areas p.ship.stations) p.ship.closing_max)

  at_levers : (w : Hydrostatics) (o : Option (ℕ → Ratio))
      → IsTold (Some w) (is_there o) (areas_at p s (Some w)) (carry p s (areas_at p s (Some w))) (is_there least_here) (with_levers p s w o)
  at_levers w None = record { cause = refl; names = tt }
  at_levers w (Some y) = at_areas w y (areas_at p s (Some w))

  at_water : (o : Option Hydrostatics)
      → IsTold o (is_there levers_here) (areas_at p s o) (carry p s (areas_at p s o)) (is_there least_here) (with_water p s o)
  at_water None = record { cause = refl; names = tt }
  at_water (Some w) = at_levers w levers_here

  all_there : find (λ o. not (has p s o)) causes ≡ None → (o : Outside) → has p s o ≡ true
  all_there e o = let at = cause_at o in not_found (has p s) causes e at.0 o at.1

  first : (a : Assessment) → cause_of a ≡ find (λ o. not (has p s o)) causes → Names p.ship a → IsFirst p s a
  first (IsOutside o) e names =
      let f = found (has p s) causes o (sym e) in (
        f.1.unmet,
        λ before low.
            let at = cause_at before in
            f.1.before at.0 before (omega (arith, low, at.2, cause_number f.0 o f.1.place)) at.1,
      )
  first (Fails k c) e names =
      let f = found (holds p.ship c) criteria k names in
      (all_there (sym e), f.1.unmet, λ before low. f.1.before (number_of before) before (omega (arith, low, criterion_number f.0 k f.1.place)) (criterion_at before))
  first (Passes c) e names = (all_there (sym e), λ k. not_found (holds p.ship c) criteria names (number_of k) k (criterion_at k))

pub returns : goal.returns
returns c p s = let told = at_water p s (hydrostatics_at p.tables.hydro (s Weight)) in first p s (assessment_of p s) told.cause told.names

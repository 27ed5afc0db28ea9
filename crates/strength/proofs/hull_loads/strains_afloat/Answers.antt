use Rattle.std.proofs.Common.{rules, ◌≡◌, ◌∙◌, ℕ, ℤ, Bool, true, false, Result, Ok, Err, Option, None, Some, refl, sym, subst, FitsSigned, to_z-of_z}
use Rattle.std.specs.Int.{w64}
use Rattle.ship_profile.specs.Ship.{ShipRecord}
use Rattle.moment_sums.specs.Kept.{values}
use Rattle.moment_sums.specs.Sum.{Sum}
use Rattle.hydrostat.specs.Floating.{load, water}
use Rattle.hydrostat.specs.declared.outside.Outside.{Outside}
use Rattle.hydrostat.specs.declared.outside.Outside.TheVariants.{Closing}
use Rattle.hydrostat.specs.declared.particulars.Afloat.{Afloat}
use Rattle.strength.specs.Immersed.{areas_along}
use Rattle.strength.specs.Loads.{AreStrainsOr, IsClosed}
use Rattle.strength.specs.Running.{AreStrains, AreStrainsBy}
use Rattle.strength.specs.Strains.{closes}
use Rattle.strength.specs.declared.loads.Strains.{Strains}
use Rattle.strength.proofs.hull_loads.strains_afloat.Goals as goal

-- what is answered of the areas that there are, by whether the closing error is within its limit
by_areas : (answer : Result Strains Outside) (r : Strains) (s : Sum) (ship : ShipRecord) (o : Option (ℕ → ℤ)) (b : Bool) → AreStrainsBy r s o ship → closes r.closing ship.closing_max ≡ b
    → ((areas : ℕ → ℤ) → AreStrains r s areas ship → IsClosed answer (λ x. AreStrains x s areas ship) b) → AreStrainsOr answer s o ship
by_areas answer r s ship None b is e h = absurd is
by_areas answer r s ship (Some areas) b is e h =
    subst (λ (d : Bool). IsClosed answer (λ x. AreStrains x s areas ship) d) (sym ((λ i. closes ((sym is.is_closing) i) ship.closing_max) ∙ e)) (h areas is)

pub returns-then-closes : goal.returns-then-closes
returns-then-closes c =
    let p = c.args.profile.now in
    let s = values c.args.totals.now in
    let r = c.in-Some.strains in
    let e : FitsSigned w64 r.closing = search rules in
    let m : FitsSigned w64 c.closing_max.result = search rules in
    let closed : closes r.closing p.ship.closing_max ≡ true = sym (λ j. closes (to_z-of_z e j) ((to_z-of_z m ∙ c.closing_max.ensures.value) j)) ∙ (sym c.closes.ensures ∙ c.if-closes.true) in
    subst (λ (b : Afloat). AreStrainsOr (Ok r) s (areas_along p (water b) (load b) b.lbp) p.ship) c.new-line.ensures
    (by_areas (Ok r) r s p.ship _ true (rw c.in-Some.is at c.strains_along.ensures) closed (λ areas is. is))

pub returns-else-closes : goal.returns-else-closes
returns-else-closes c =
    let p = c.args.profile.now in
    let s = values c.args.totals.now in
    let r = c.in-Some.strains in
    let e : FitsSigned w64 r.closing = search rules in
    let m : FitsSigned w64 c.closing_max.result = search rules in
    let closed : closes r.closing p.ship.closing_max ≡ false = sym (λ j. closes (to_z-of_z e j) ((to_z-of_z m ∙ c.closing_max.ensures.value) j)) ∙ (sym c.closes.ensures ∙ c.if-closes.false) in
    subst (λ (b : Afloat). AreStrainsOr (Err Closing) s (areas_along p (water b) (load b) b.lbp) p.ship) c.new-line.ensures
    (by_areas (Err Closing) r s p.ship _ false (rw c.in-Some.is at c.strains_along.ensures) closed (λ areas is. refl))

use Rattle.std.proofs.Common.{◌≡◌, ◌∙◌, ℕ, ℤ, Bool, true, false, Option, None, Some, Ok, Err, ap, sym, subst}
use Rattle.units_core.specs.Ratio.{Ratio}
use Rattle.ship_profile.specs.Record.{ProfileRecord}
use Rattle.moment_sums.specs.Kept.{values}
use Rattle.moment_sums.specs.Sum.{Sum, Weight}
use Rattle.hydrostat.specs.Figures.{IsFloatingOn}
use Rattle.hydrostat.specs.Floating.{Hydrostatics, Load, draught_at, load, water}
use Rattle.hydrostat.specs.declared.outside.Outside.{Outside}
use Rattle.strength.specs.Immersed.{areas_along, areas_of}
use Rattle.strength.specs.Loads.{AreStrainsOr, IsClosed}
use Rattle.strength.specs.Running.{AreStrains}
use Rattle.strength.specs.Strains.{closes, closing_of}
use Rattle.strength.specs.declared.loads.Strains.{Strains}
use Rattle.criteria.specs.Assessment.{Assessment, IsOutside, with_areas, with_closing, with_least}
use Rattle.criteria.specs.Figures.{IsVerdict}
use Rattle.criteria.specs.Least.{least_at}
use Rattle.criteria.specs.declared.verdicts.Verdict.{Verdict}
use Rattle.criteria.proofs.verdicts.verdict_righted.Goals as goal

-- a verdict by the loads is one by the areas that there are, and by a closing error within its
-- limit
module _ (p : ProfileRecord) (s : Sum) (w : Hydrostatics) (y : ℕ → Ratio) where
  by_closing : (v : Verdict) (r : Strains) (areas : ℕ → ℤ) (b : Bool) → IsClosed (Ok r) (λ x. AreStrains x s areas p.ship) b
      → (AreStrains r s areas p.ship → IsVerdict v p.ship (with_closing p s w y areas true)) → IsVerdict v p.ship (with_closing p s w y areas b)
  by_closing v r areas true is h = h is
  by_closing v r areas false is h = absurd is

  by_areas : (v : Verdict) (r : Strains) (o : Option (ℕ → ℤ)) → AreStrainsOr (Ok r) s o p.ship
      → ((areas : ℕ → ℤ) → AreStrains r s areas p.ship → IsVerdict v p.ship (with_closing p s w y areas true)) → IsVerdict v p.ship (with_areas p s w y o)
  by_areas v r None is h = absurd is
  by_areas v r (Some areas) is h = by_closing v r areas (closes (closing_of s areas p.ship.stations) p.ship.closing_max) is (h areas)

  -- and without loads their cause is that of the judgement
  not_closed : (cause : Outside) (areas : ℕ → ℤ) (b : Bool) → IsClosed (Err cause) (λ x. AreStrains x s areas p.ship) b → with_closing p s w y areas b ≡ IsOutside cause
  not_closed cause areas true is = absurd is
  not_closed cause areas false is = ap IsOutside (sym is)

  no_loads : (cause : Outside) (o : Option (ℕ → ℤ)) → AreStrainsOr (Err cause) s o p.ship → with_areas p s w y o ≡ IsOutside cause
  no_loads cause None is = ap IsOutside (sym is)
  no_loads cause (Some areas) is = not_closed cause areas (closes (closing_of s areas p.ship.stations) p.ship.closing_max) is

pub verdict_loaded-requires : goal.verdict_loaded-requires
verdict_loaded-requires c =
    let f = c.args.floating.now in
    record { floating = subst (λ (l : Load). IsFloatingOn f (water f.afloat) l c.args.profile.now.ship.lbp) (sym c.requires.floating.loaded) c.requires.floating }

pub returns-in-Ok : goal.returns-in-Ok
returns-in-Ok c =
    let p = c.args.profile.now in
    let s = values c.args.totals.now in
    let a = c.args.floating.now.afloat in
    let v = c.verdict_loaded.result in
    let on = c.requires.floating in
    λ y are.
    subst (λ (o : Option (ℕ → ℤ)). IsVerdict v p.ship (with_areas p s (water a) y o)) (λ j. areas_of p.tables.bonjean (draught_at (water a) (on.loaded j) (on.length j)) p.ship.stations)
    (by_areas p s (water a) y v c.in-Ok.strains (areas_along p (water a) (load a) a.lbp) c.in-Ok.ensures
    (λ areas is. subst (λ (x : Assessment). IsVerdict v p.ship x)
    (λ j. with_least p.ship (water a) (on.loaded j) y (is.is_closing j) (λ i. is.are_shear i j) (λ i. is.are_bending i j) (least_at p.tables.least_gm (s Weight)))
    (c.verdict_loaded.ensures y are)))

pub returns-in-Err : goal.returns-in-Err
returns-in-Err c =
    let p = c.args.profile.now in
    let s = values c.args.totals.now in
    let a = c.args.floating.now.afloat in
    let on = c.requires.floating in
    λ y are.
    (λ j. with_areas p s (water a) y (areas_of p.tables.bonjean (draught_at (water a) (sym on.loaded j) (sym on.length j)) p.ship.stations))
    ∙ no_loads p s (water a) y c.in-Err.outside (areas_along p (water a) (load a) a.lbp) c.in-Err.ensures

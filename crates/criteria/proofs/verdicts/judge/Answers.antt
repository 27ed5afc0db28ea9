use Rattle.std.proofs.Common.{◌≡◌, ℤ, Option, None, Some, Ok, Err, ap, sym, subst}
use Rattle.ship_profile.specs.Record.{ProfileRecord}
use Rattle.moment_sums.specs.Kept.{values}
use Rattle.moment_sums.specs.Sum.{Sum, Weight}
use Rattle.hydrostat.specs.Figures.{IsFloatingOf, IsFloatingOn}
use Rattle.hydrostat.specs.Floating.{Hydrostatics, Load, hydrostatics_at, load_of, water}
use Rattle.hydrostat.specs.declared.figures.Floating.{Floating}
use Rattle.hydrostat.specs.declared.outside.Outside.{Outside}
use Rattle.criteria.specs.Assessment.{IsOutside, with_water}
use Rattle.criteria.specs.Figures.{IsVerdict}
use Rattle.criteria.proofs.verdicts.judge.Goals as goal

-- what floats does so by the hydrostatics that there are
there_are : (f : Floating) (o : Option Hydrostatics) (l : Load) (lbp : ℤ) → IsFloatingOf (Ok f) o l lbp → Some (water f.afloat) ≡ o
there_are f None l lbp is = absurd is
there_are f (Some w) l lbp is = ap (λ (v : Hydrostatics). Some v) is.on

floats : (f : Floating) (o : Option Hydrostatics) (l : Load) (lbp : ℤ) → IsFloatingOf (Ok f) o l lbp → IsFloatingOn f (water f.afloat) l lbp
floats f None l lbp is = absurd is
floats f (Some w) l lbp is = subst (λ (v : Hydrostatics). IsFloatingOn f v l lbp) (sym is.on) is

sinks : (p : ProfileRecord) (s : Sum) (cause : Outside) (o : Option Hydrostatics) → IsFloatingOf (Err cause) o (load_of s) p.ship.lbp → with_water p s o ≡ IsOutside cause
sinks p s cause None is = ap IsOutside (sym is)
sinks p s cause (Some w) is = absurd is

pub verdict_afloat-requires : goal.verdict_afloat-requires
verdict_afloat-requires c =
    let p = c.args.profile.now in
    let s = values c.args.totals.now in
    record { bounded = c.requires; floating = floats c.in-Ok.floating (hydrostatics_at p.tables.hydro (s Weight)) (load_of s) p.ship.lbp c.in-Ok.ensures }

pub returns-in-Ok : goal.returns-in-Ok
returns-in-Ok c =
    let p = c.args.profile.now in
    let s = values c.args.totals.now in
    subst (λ (o : Option Hydrostatics). IsVerdict c.verdict_afloat.result p.ship (with_water p s o))
    (there_are c.in-Ok.floating (hydrostatics_at p.tables.hydro (s Weight)) (load_of s) p.ship.lbp c.in-Ok.ensures) c.verdict_afloat.ensures

pub returns-in-Err : goal.returns-in-Err
returns-in-Err c =
    let p = c.args.profile.now in
    let s = values c.args.totals.now in
    sinks p s c.in-Err.outside (hydrostatics_at p.tables.hydro (s Weight)) c.in-Err.ensures

use Rattle.std.proofs.Common.{◌≡◌, ◌∙◌, ℕ, ℤ, Bool, true, false, List, length, map, Ok, Option, None, Some, ap}
use Rattle.std.specs.List.{range_with_len}
use Rattle.units_core.specs.Interpolation.{at}
use Rattle.ship_profile.specs.Ship.{ShipRecord}
use Rattle.units_core.specs.declared.frames.Frame.{Frame}
use Rattle.moment_sums.specs.Kept.{values}
use Rattle.moment_sums.specs.Sum.{Sum}
use Rattle.hydrostat.specs.Floating.{load, water}
use Rattle.strength.specs.Immersed.{areas_along}
use Rattle.strength.specs.Loads.{AreLoads, AreLoadsAt, AreLoadsBy, AreStrainsOr, IsClosed, frame_load}
use Rattle.strength.specs.Running.{AreStrains}
use Rattle.strength.specs.Strains.{closes, closing_of}
use Rattle.strength.specs.declared.loads.Loads.{Loads}
use Rattle.strength.specs.declared.loads.Strains.{Strains}
use Rattle.strength.proofs.hull_loads.loads_afloat.Goals as goal

-- loads that are made of numbers are those that the numbers are
listed : (l : Loads) (r : Strains) (n : ℕ) (s : Sum) (areas : ℕ → ℤ) (ship : ShipRecord) → AreLoadsAt l (λ i. at r.shear i) (λ i. at r.bending i) n r.closing → n ≡ length ship.frames
    → AreStrains r s areas ship → AreLoads l s areas ship
listed l r n s areas ship made many is = record {
  are_frames = made.are_frames ∙ (λ j. map (frame_load (λ i. is.are_shear i j) (λ i. is.are_bending i j)) (range_with_len 0 (many j)));
  is_closing = made.is_closing ∙ is.is_closing;
}

by_closing : (l : Loads) (r : Strains) (s : Sum) (areas : ℕ → ℤ) (ship : ShipRecord) (b : Bool) → (AreStrains r s areas ship → AreLoads l s areas ship)
    → IsClosed (Ok r) (λ x. AreStrains x s areas ship) b → IsClosed (Ok l) (λ x. AreLoads x s areas ship) b
by_closing l r s areas ship true h is = h is
by_closing l r s areas ship false h is = absurd is

by_areas : (l : Loads) (r : Strains) (s : Sum) (o : Option (ℕ → ℤ)) (ship : ShipRecord) → ((areas : ℕ → ℤ) → AreStrains r s areas ship → AreLoads l s areas ship)
    → AreStrainsOr (Ok r) s o ship → AreLoadsBy (Ok l) s o ship
by_areas l r s None ship h is = absurd is
by_areas l r s (Some areas) ship h is = by_closing l r s areas ship (closes (closing_of s areas ship.stations) ship.closing_max) (h areas) is

pub returns-in-Ok : goal.returns-in-Ok
returns-in-Ok c =
    let p = c.args.profile.now in
    let s = values c.args.totals.now in
    let a = c.args.afloat.now in
    let many = ap (λ (fs : List Frame). length fs) (c.as_slice.ensures.value ∙ c.frames.ensures.value) in
    by_areas c.loads.result c.in-Ok.strains s (areas_along p (water a) (load a) a.lbp) p.ship
    (λ areas is. listed c.loads.result c.in-Ok.strains _ s areas p.ship c.loads.ensures many is) c.in-Ok.ensures

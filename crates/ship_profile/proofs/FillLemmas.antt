-- The fills of a ship's tanks.
use Rattle.std.proofs.Common.{◌≡◌, ℕ, ◌+◌, ◌<◌, nat_eq, not, Bool, true, false, List, [], ◌∷◌, ◌++◌, length, map, Some, Ok, refl, arith}
use Rattle.std.proofs.lemmas.List.Quantifiers.{position-Some}
use Rattle.std.specs.List.{AllByRecursion, IsDistinct}
use Rattle.std.specs.Str.{bytes_eq}
use Rattle.ship_tables.specs.Record.{Tank, TablesRecord, tank_of}
use Rattle.ship_profile.specs.declared.faults.Key.TheVariants as key
use Rattle.ship_profile.specs.declared.faults.ProfileFault.TheVariants.{BadKey, UnknownTank}
use Rattle.ship_profile.specs.declared.fills.TankFill.{TankFill}
use Rattle.units_core.specs.Outcome.{or_fault}
use Rattle.ship_profile.specs.Record.{is_filled, fill_in, fills_in, IsFill, AreFills}
use Rattle.ship_profile.specs.Ship.{NamedFill, IsNamedFill, AreNamedFills}
use Rattle.ship_tables.proofs.SoundLemmas.{all-push}
use Rattle.ship_profile.proofs.ListLemmas.{each_at, all_by, distinct-push}
use Rattle.units_core.proofs.OutcomeLemmas.{went_on, was_there, passed}
use Rattle.ship_profile.proofs.OutcomeLemmas.{one_by_one-keeps, one_by_one-length}

no_tank : Tank
no_tank = record { name = []; rows = record { kg = []; x = []; y = []; z = []; half = []; fsm = [] } }

-- a tank that was found is there
tank_there : (ts : TablesRecord) (name : List ℕ) (k : ℕ) → tank_of ts name ≡ Some k → k < length ts.tanks
tank_there ts name k e = (position-Some (λ (t : Tank). bytes_eq name t.name) ts.tanks k no_tank e).0

record AreGoodFills (ts : TablesRecord) (fs : List TankFill) : Type 0 where
  each : AllByRecursion (IsFill ts) fs
  distinct : IsDistinct nat_eq (map (λ f. f.tank) fs)

not_true : (b : Bool) → not b ≡ true → b ≡ false
not_true true e = cc
not_true false e = refl

fill-keeps : (ts : TablesRecord) (done : List TankFill) (n : NamedFill) (f : TankFill) → AreGoodFills ts done → IsNamedFill n → fill_in ts done n ≡ Ok f → AreGoodFills ts (done ++ f ∷ [])
fill-keeps ts done n f h few e =
    let found = went_on (or_fault (UnknownTank (length done + 1)) (tank_of ts n.tank)) _ f e in
    let there = was_there (UnknownTank (length done + 1)) (tank_of ts n.tank) found.0 found.1 in
    let free = passed (BadKey key.Fills) (not (is_filled done found.0)) (record { tank = found.0; kg = n.kg }) f found.2 in
    rw (← free.1)
    (record {
      each = all-push (IsFill ts) done (record { tank = found.0; kg = n.kg }) h.each (record { tank = tank_there ts n.tank found.0 there; kg_most = few });
      distinct = distinct-push (λ (x : TankFill). x.tank) done (record { tank = found.0; kg = n.kg }) h.distinct (not_true (is_filled done found.0) free.0);
    })

no_fills : (ts : TablesRecord) → AreGoodFills ts []
unfolding IsDistinct
no_fills ts = record { each = tt; distinct = tt }

-- fills that were found are of tanks that are there, and of no tank twice
pub fills-sound : (ts : TablesRecord) (named : List NamedFill) (fs : List TankFill) → AreNamedFills named → fills_in ts named ≡ Ok fs → AreFills ts fs
fills-sound ts named fs h e =
    let all = one_by_one-keeps (fill_in ts) (AreGoodFills ts) IsNamedFill (fill-keeps ts) [] named fs (no_fills ts) (all_by IsNamedFill named h.each) e in
    let count = one_by_one-length (fill_in ts) [] named fs e in
    let few = h.few in
    record { few = omega (arith, count, few); each = each_at (IsFill ts) fs all.each; distinct = all.distinct }

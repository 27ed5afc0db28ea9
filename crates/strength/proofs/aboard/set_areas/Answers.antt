use Rattle.std.proofs.Common.{rules, arith, ◌≡◌, ◌∙◌, inl, inr, ℕ, ℤ, ◌-◌, ◌^◌, ◌<◌, ◌≤◌, List, length, length-set, ap, sym, subst, unsigned_abs, FitsSigned, to_z, of_z, to_z-of_z, Option, Some}
use Rattle.std.specs.Int.{w64}
use Rattle.std.specs.Prelude.{is_some}
use Rattle.std.proofs.lemmas.Option.{slice_get-get_or}
use Rattle.units_core.specs.Interpolation.{at}
use Rattle.units_core.specs.Ratio.{Ratio}
use Rattle.ship_tables.specs.Record.{CurveTable}
use Rattle.hydrostat.specs.Floating.{draught_at, load, water}
use Rattle.strength.specs.Immersed.{area_at, area_there, areas_of, or_none, IsAreaAt}
use Rattle.strength.specs.Running.{AreAreasBy}
use Rattle.strength.proofs.Placed.{areas_none, areas_there, below_cases, set_one}
use Rattle.strength.proofs.aboard.set_areas.Goals as goal

-- the areas at all stations, once they are set
whole : (t : CurveTable) (dr : ℤ → Ratio) (xs areas : List ℤ) → 2 ≤ length xs → ((j : ℕ) → j < length xs → IsAreaAt (at areas j) t dr xs j) → AreAreasBy areas (areas_of t dr xs) (length xs)
whole t dr xs areas some set =
    subst (λ (o : Option (ℕ → ℤ)). AreAreasBy areas o (length xs))
    (areas_there t dr xs (length xs - 1) (omega (arith, some)) (λ j low. ap (λ (o : Option ℤ). is_some o) (set j (omega (arith, low, some))).is))
    (record { are = λ j low. sym (ap or_none (set j low).is); within = λ j low. (set j low).within })

-- what was set before some place, and behind it
joined : (P : ℕ → ℤ → Type 0) (old new : List ℤ) (from n : ℕ) → ((j : ℕ) → j < from → P j (at old j)) → ((j : ℕ) → j < from → at new j ≡ at old j) → ((j : ℕ) → from ≤ j → j < n → P j (at new j)) → (j : ℕ) → j < n → P j (at new j)
joined P old new from n before same behind j low = elim (below_cases j from) [
  | inl less ↦ subst (λ (z : ℤ). P j z) (sym (same j less)) (before j less)
  | inr past ↦ behind j past low
]

pub returns-then-k-stations : goal.returns-then-k-stations
returns-then-k-stations c =
    let a = c.args.line.now.of in
    let t = c.args.profile.now.tables.bonjean in
    let xs = c.args.profile.now.ship.stations in
    let dr : ℤ → Ratio = draught_at (water a) (load a) a.lbp in
    let st = c.stations-stations.ensures.value in
    let some = c.stations-stations.ensures.sound.ship.stations.some in
    let end = c.if-k-stations.true in
    let many : length c.stations-stations.result.now ≡ length xs = ap (λ (ys : List ℤ). length ys) st in
    let all : length xs ≤ c.set_areas_in_row-k.result = omega (arith, end, many) in
    let set = joined (λ j z. IsAreaAt z t dr xs j) c.loop-k.walk.areas c.set_areas_in_row-k.new.areas c.loop-k.k c.set_areas_in_row-k.result c.loop-k.invariant.set c.set_areas_in_row-k.ensures.before c.set_areas_in_row-k.ensures.set in
    whole t dr xs c.set_areas_in_row-k.new.areas some (λ j low. set j (omega (arith, low, all)))

pub returns-in_default-area_near : goal.returns-in_default-area_near
returns-in_default-area_near c =
    let k = c.set_areas_in_row-k.result in
    let a = c.args.line.now.of in
    let t = c.args.profile.now.tables.bonjean in
    let zs = c.stations-stations.result.now in
    let st = c.stations-stations.ensures.value in
    let dr : ℤ → Ratio = draught_at (water a) (load a) a.lbp in
    let to : k ≤ length zs = rw st c.set_areas_in_row-k.ensures.to in
    let ne = c.if-k-stations.false in
    let less : k < length zs = omega (arith, to, ne) in
    let here = slice_get-get_or zs k c.index-stations-k.result less ∙ ap (λ (z : ℤ). Some z) (sym c.index-stations-k.is) in
    let none = areas_none t dr zs k less (ap (λ (o : Option ℤ). area_there t dr k o) here ∙ sym c.in_default-area_near.ensures.value) in
    sym (none ∙ ap (λ (ys : List ℤ). areas_of t dr ys) st)

pub loop-k-preserved : goal.loop-k-preserved
loop-k-preserved c =
    let inv = c.loop-k.invariant in
    let k = c.set_areas_in_row-k.result in
    let a = c.args.line.now.of in
    let t = c.args.profile.now.tables.bonjean in
    let zs = c.stations-stations.result.now in
    let xs = c.args.profile.now.ship.stations in
    let st = c.stations-stations.ensures.value in
    let dr : ℤ → Ratio = draught_at (water a) (load a) a.lbp in
    let few = c.stations-stations.ensures.sound.ship.stations.few in
    let many : length zs ≡ length xs = ap (λ (ys : List ℤ). length ys) st in
    let to = c.set_areas_in_row-k.ensures.to in
    let ne = c.if-k-stations.false in
    let less : k < length zs = omega (arith, to, ne, many) in
    let h : FitsSigned w64 c.in-Some-area_near.area = search rules in
    let v : ℤ = to_z w64 (of_z w64 c.in-Some-area_near.area) in
    let here = slice_get-get_or zs k c.index-stations-k.result less ∙ ap (λ (z : ℤ). Some z) (sym c.index-stations-k.is) in
    let there : area_at t dr zs k ≡ Some v = ap (λ (o : Option ℤ). area_there t dr k o) here ∙ (sym c.in-Some-area_near.ensures.value ∙ ap (λ (z : ℤ). Some z) (sym (to_z-of_z h))) in
    let value : area_at t dr xs k ≡ Some v = sym (ap (λ (ys : List ℤ). area_at t dr ys k) st) ∙ there in
    let size : unsigned_abs v ≤ 10 ^ 8 = simp (to_z-of_z h) c.in-Some-area_near.ensures.within in
    let places : length c.set_areas_in_row-k.new.areas ≡ 64 = search rules in
    let inside : k < length c.set_areas_in_row-k.new.areas = omega (arith, few, many, less, places) in
    let set = joined (λ j z. IsAreaAt z t dr xs j) c.loop-k.walk.areas c.set_areas_in_row-k.new.areas c.loop-k.k k inv.set c.set_areas_in_row-k.ensures.before c.set_areas_in_row-k.ensures.set in
    record {
      row = c.area_near-in-loop-k.ensures.row;
      areas_size = simp length-set places;
      most = omega (arith, less, many);
      set = λ j low. set_one c.set_areas_in_row-k.new.areas (λ i z. IsAreaAt z t dr xs i) 0 k v inside (λ i none high. set i high) (record { is = value; within = size }) j (omega arith) low;
    }

pub returns : goal.returns
returns c =
    let a = c.args.line.now.of in
    let t = c.args.profile.now.tables.bonjean in
    let xs = c.args.profile.now.ship.stations in
    let dr : ℤ → Ratio = draught_at (water a) (load a) a.lbp in
    let st = c.stations-stations.ensures.value in
    let some = c.stations-stations.ensures.sound.ship.stations.some in
    let past = c.loop-k-test.false in
    let ended : length c.stations-stations.result.now ≤ c.loop-k.k = omega (arith, past) in
    let all : length xs ≤ c.loop-k.k = rw st at ended in
    whole t dr xs c.loop-k.walk.areas some (λ j low. c.loop-k.invariant.set j (omega (arith, low, all)))

-- What is aboard stands within the ship.
use Rattle.std.proofs.Common.{◌≡◌, ◌∙◌, ℕ, zero, suc, ◌+◌, ◌*◌, ◌^◌, ◌≤◌, ◌<◌, ℤ, pos, ◌+ℤ◌, ◌-ℤ◌, ◌*ℤ◌, ◌≤ℤ◌, ◌<ℤ◌, Bool, true, false, List, [], ◌∷◌, ◌++◌, length, flat_map, Option, None, Some, unsigned_abs, refl, sym, ap, arith, slice_get, get_or, subst}
use Rattle.std.specs.Prelude.{int_le, int_lt, if◌then◌else◌, IfSome, All, option_map}
use Rattle.std.specs.List.{AllByRecursion, range_with_len}
use Rattle.std.specs.Option.{option_to_list}
use Rattle.units_core.proofs.Signed.{signed_arith, one_part, commutes, distributes}
use Rattle.units_core.proofs.Order.{times_order, cancel_order}
use Rattle.units_core.specs.declared.bodies.Place.{Place}
use Rattle.units_core.specs.declared.cells.Cell.{Cell}
use Rattle.units_core.specs.Bodies.{Mass}
use Rattle.units_core.specs.Interpolation.{at, climb, interval, reading, Encloses, IsWithin}
use Rattle.units_core.specs.Ratio.{◌over◌, floor_of}
use Rattle.ship_tables.specs.Record.{IsPlace, IsTank, IsTankTable, TankTable, Tank, filling, filling_in as table_filling}
use Rattle.ship_tables.specs.declared.extents.Extent.{Extent}
use Rattle.ship_profile.specs.Ship.{IsBlock, IsFrame}
use Rattle.ship_profile.specs.Record.{ProfileRecord, IsSound}
use Rattle.units_core.specs.declared.frames.Frame.{Frame}
use Rattle.lift_sequence.specs.declared.containers.Container.{Container}
use Rattle.lift_sequence.specs.Bodies.{bodies, bodies_in_cells, bodies_in_tanks, body_in, filling_in}
use Rattle.units_core.specs.Totals.{total}
use Rattle.port_call.specs.Laws.{AboardIsBounded}
use Rattle.units_core.proofs.Decisions.{floor_is}
use Rattle.port_call.proofs.BodyBounds.{IsNear, Stands}
use Rattle.port_call.proofs.BodyBounds as sums

-- a body that stands within the ship, and whose free surface moment is at most m
record Still (m : ℕ) (b : Mass) : Type 0 where
  pub stands : Stands b
  pub fsm_most : b.fsm ≤ℤ pos m

module _ {Y : Type 0} (P : Y → Type 0) where
  all_append : (xs ys : List Y) → AllByRecursion P xs → AllByRecursion P ys → AllByRecursion P (xs ++ ys)
  all_append [] ys a b = b
  all_append (x ∷ xs) ys a b = (a.0, all_append xs ys a.1 b)

  all_flat : {X : Type 0} (f : X → List Y) (xs : List X) → AllByRecursion (λ x. AllByRecursion P (f x)) xs → AllByRecursion P (flat_map f xs)
  all_flat f [] a = tt
  all_flat f (x ∷ xs) a = all_append (f x) (flat_map f xs) a.0 (all_flat f xs a.1)

  by_recursion : (xs : List Y) → All P xs → AllByRecursion P xs
  by_recursion [] a = tt
  by_recursion (x ∷ xs) a = (a zero x (omega arith), by_recursion xs (λ k d less. a (suc k) d (omega arith)))

  each : (Q : Y → Type 0) → ((x : Y) → P x → Q x) → (xs : List Y) → AllByRecursion P xs → AllByRecursion Q xs
  each Q h [] a = tt
  each Q h (x ∷ xs) a = (h x a.0, each Q h xs a.1)

range_each : (P : ℕ → Type 0) → ((k : ℕ) → P k) → (k n : ℕ) → AllByRecursion P (range_with_len k n)
range_each P h k zero = tt
range_each P h k (suc n) = (h k, range_each P h (k + 1) n)

-- the interval that is found encloses the number
climbs : (a : ℤ) (rest : List ℤ) (x : ℤ) (n i : ℕ) → a ≤ℤ x → climb rest x n ≡ Some i → (m : ℕ) × (i ≡ n + m) × (m + 1 < length (a ∷ rest)) × (at (a ∷ rest) m ≤ℤ x) × (x ≤ℤ at (a ∷ rest) (suc m))
climbs a [] x n i h e = absurd cc
climbs a (b ∷ rest) x n i h e = by (λ low f. climbs b rest x (n + 1) i low f) (int_lt b x) refl e where
  by : (b ≤ℤ x → climb rest x (n + 1) ≡ Some i → (m : ℕ) × (i ≡ n + 1 + m) × (m + 1 < length (b ∷ rest)) × (at (b ∷ rest) m ≤ℤ x) × (x ≤ℤ at (b ∷ rest) (suc m))) → (t : Bool) → int_lt b x ≡ t → (if t then climb rest x (n + 1) else Some n) ≡ Some i → (m : ℕ) × (i ≡ n + m) × (m + 1 < length (a ∷ b ∷ rest)) × (at (a ∷ b ∷ rest) m ≤ℤ x) × (x ≤ℤ at (a ∷ b ∷ rest) (suc m))
  by go true k e = let r = go (omega (arith, signed_arith, k)) e in (suc r.0, omega (arith, r.1), omega (arith, r.2), r.3, r.4)
  by go false k e = let same : n ≡ i = cc in (0, omega (arith, same), omega arith, h, omega (arith, signed_arith, k))

found_in : (xs : List ℤ) (x : ℤ) (i : ℕ) → interval xs x ≡ Some i → Encloses xs i x
found_in [] x i e = absurd cc
found_in (a ∷ rest) x i e = by (int_lt x a) refl e where
  by : (t : Bool) → int_lt x a ≡ t → (if t then None else climb rest x 0) ≡ Some i → Encloses (a ∷ rest) i x
  by true k e = absurd cc
  by false k e =
      let r = climbs a rest x 0 i (omega (arith, signed_arith, k)) e in
      let same : i ≡ r.0 = omega (arith, r.1) in
      let next : r.0 + 1 ≡ suc r.0 = omega arith in
      rw same (record { inside = r.2; from = r.3; to = rw next r.4 })

spread : (k p r d : ℤ) → p +ℤ r ≡ d → (k *ℤ p) +ℤ (k *ℤ r) ≡ k *ℤ d
spread k p r d e = (λ j. commutes k p j +ℤ commutes k r j) ∙ (sym (distributes p r k) ∙ (commutes (p +ℤ r) k ∙ ap (λ z. k *ℤ z) e))

floor_between : (n d q lo hi : ℤ) → pos 1 ≤ℤ d → (lo *ℤ d) ≤ℤ n → n ≤ℤ (hi *ℤ d) → (q *ℤ d) ≤ℤ n → n <ℤ ((q +ℤ pos 1) *ℤ d) → (lo ≤ℤ q) × (q ≤ℤ hi)
floor_between n d q lo hi h low high a b = (least (int_le (q +ℤ pos 1) lo) refl, cancel_order q hi d h (omega (arith, signed_arith, a, high))) where
  least : (t : Bool) → int_le (q +ℤ pos 1) lo ≡ t → lo ≤ℤ q
  least true e =
      let less : (q +ℤ pos 1) ≤ℤ lo = omega (arith, signed_arith, e) in
      let down = times_order (q +ℤ pos 1) lo d (omega (arith, signed_arith, h)) less in
      absurd (omega (arith, signed_arith, down, low, b))
  least false e = omega (arith, signed_arith, e)

sums_le : (a b u v : ℤ) → a ≤ℤ u → b ≤ℤ v → (a +ℤ b) ≤ℤ (u +ℤ v)
sums_le a b u v p q = omega (arith, signed_arith, p, q)

-- a reading, rounded down, lies between the bounds of its column
between : (xs ys : List ℤ) (i : ℕ) (x lo hi : ℤ) → Encloses xs i x → at xs i <ℤ at xs (i + 1) → lo ≤ℤ at ys i → at ys i ≤ℤ hi → lo ≤ℤ at ys (i + 1) → at ys (i + 1) ≤ℤ hi
    → (lo ≤ℤ floor_of (reading xs ys i x)) × (floor_of (reading xs ys i x) ≤ℤ hi)
between xs ys i x lo hi e rises l0 h0 l1 h1 = by (at xs i) (at xs (i + 1)) (at ys i) (at ys (i + 1)) e.from e.to rises l0 h0 l1 h1 where
  by : (x0 x1 y0 y1 : ℤ) → x0 ≤ℤ x → x ≤ℤ x1 → x0 <ℤ x1 → lo ≤ℤ y0 → y0 ≤ℤ hi → lo ≤ℤ y1 → y1 ≤ℤ hi
      → (lo ≤ℤ floor_of (((y0 *ℤ (x1 -ℤ x)) +ℤ (y1 *ℤ (x -ℤ x0))) over (x1 -ℤ x0))) × (floor_of (((y0 *ℤ (x1 -ℤ x)) +ℤ (y1 *ℤ (x -ℤ x0))) over (x1 -ℤ x0)) ≤ℤ hi)
  by x0 x1 y0 y1 from to less l0 h0 l1 h1 =
      let hp : pos 0 ≤ℤ (x1 -ℤ x) = omega (arith, signed_arith, to) in
      let hr : pos 0 ≤ℤ (x -ℤ x0) = omega (arith, signed_arith, from) in
      let hd : pos 1 ≤ℤ (x1 -ℤ x0) = omega (arith, signed_arith, less) in
      let whole : (x1 -ℤ x) +ℤ (x -ℤ x0) ≡ x1 -ℤ x0 = omega (arith, signed_arith) in
      let low : (lo *ℤ (x1 -ℤ x0)) ≤ℤ ((y0 *ℤ (x1 -ℤ x)) +ℤ (y1 *ℤ (x -ℤ x0))) = rw (sym (spread lo (x1 -ℤ x) (x -ℤ x0) (x1 -ℤ x0) whole)) (sums_le (lo *ℤ (x1 -ℤ x)) (lo *ℤ (x -ℤ x0)) (y0 *ℤ (x1 -ℤ x)) (y1 *ℤ (x -ℤ x0)) (times_order lo y0 (x1 -ℤ x) hp l0) (times_order lo y1 (x -ℤ x0) hr l1)) in
      let high : ((y0 *ℤ (x1 -ℤ x)) +ℤ (y1 *ℤ (x -ℤ x0))) ≤ℤ (hi *ℤ (x1 -ℤ x0)) = rw (sym (spread hi (x1 -ℤ x) (x -ℤ x0) (x1 -ℤ x0) whole)) (sums_le (y0 *ℤ (x1 -ℤ x)) (y1 *ℤ (x -ℤ x0)) (hi *ℤ (x1 -ℤ x)) (hi *ℤ (x -ℤ x0)) (times_order y0 hi (x1 -ℤ x) hp h0) (times_order y1 hi (x -ℤ x0) hr h1)) in
      let g = floor_is (((y0 *ℤ (x1 -ℤ x)) +ℤ (y1 *ℤ (x -ℤ x0))) over (x1 -ℤ x0)) hd in
      floor_between ((y0 *ℤ (x1 -ℤ x)) +ℤ (y1 *ℤ (x -ℤ x0))) (x1 -ℤ x0) _ lo hi hd low high g.0 g.1

-- a column of numbers within m, read and rounded down
size : (xs ys : List ℤ) (i : ℕ) (x : ℤ) → Encloses xs i x → at xs i <ℤ at xs (i + 1) → IsWithin (10 ^ 6) ys → unsigned_abs (floor_of (reading xs ys i x)) ≤ 10 ^ 6
size xs ys i x e rises w =
    let a = w i in
    let b = w (i + 1) in
    let q = between xs ys i x (pos 0 -ℤ pos (10 ^ 6)) (pos (10 ^ 6)) e rises (omega (arith, signed_arith, a)) (omega (arith, signed_arith, a)) (omega (arith, signed_arith, b)) (omega (arith, signed_arith, b)) in
    near (floor_of (reading xs ys i x)) q.0 q.1 where
      near : (q : ℤ) → (pos 0 -ℤ pos (10 ^ 6)) ≤ℤ q → q ≤ℤ pos (10 ^ 6) → unsigned_abs q ≤ 10 ^ 6
      near q a b = omega (arith, signed_arith, one_part q)

still_filling : (t : TankTable) (kg i : ℕ) → IsTankTable t → Encloses t.kg i (pos kg) → Still (10 ^ 12) (filling t kg i)
still_filling t kg i h e =
    let rises = h.rises.rises i e.inside in
    let inside = e.inside in
    let heavy = h.kg_within (i + 1) in
    let to = e.to in
    let half_rows = h.half_rows in
    let fsm_rows = h.fsm_rows in
    let hl = h.half_least i (omega arith) in
    let hm = h.half_least (i + 1) (omega arith) in
    let hw = h.half_within i in
    let hv = h.half_within (i + 1) in
    let fl = h.fsm_least i (omega arith) in
    let fm = h.fsm_least (i + 1) (omega arith) in
    let fw = h.fsm_within i in
    let fv = h.fsm_within (i + 1) in
    let half = between t.kg t.half i (pos kg) (pos 0) (pos (10 ^ 6)) e rises hl (omega (arith, signed_arith, hw, hl)) hm (omega (arith, signed_arith, hv, hm)) in
    let fsm = between t.kg t.fsm i (pos kg) (pos 0) (pos (10 ^ 12)) e rises fl (omega (arith, signed_arith, fw, fl)) fm (omega (arith, signed_arith, fv, fm)) in
    record {
      stands = record {
        kg = omega (arith, signed_arith, heavy, to);
        x = size t.kg t.x i (pos kg) e rises h.x_within;
        y = size t.kg t.y i (pos kg) e rises h.y_within;
        z = size t.kg t.z i (pos kg) e rises h.z_within;
        half_least = half.0;
        half = size t.kg t.half i (pos kg) e rises h.half_within;
        fsm = fsm.0;
      };
      fsm_most = fsm.1;
    }

get_all : {X : Type 0} (P : X → Type 0) (xs : List X) (n : ℕ) (x : X) → All P xs → slice_get xs n ≡ Some x → P x
get_all P [] n x a e = absurd cc
get_all P (y ∷ ys) zero x a e = let same : y ≡ x = cc in subst P same (a zero y (omega arith))
get_all P (y ∷ ys) (suc n) x a e = get_all P ys n x (λ k d less. a (suc k) d (omega arith)) e

abbrev AreStill : ℕ → Option Mass → Type 0
AreStill m o = AllByRecursion (Still m) (option_to_list o)

still_interval : (t : TankTable) (kg : ℕ) → IsTankTable t → (o : Option ℕ) → interval t.kg (pos kg) ≡ o → AreStill (10 ^ 12) (option_map (filling t kg) o)
still_interval t kg h None e = tt
still_interval t kg h (Some i) e = (still_filling t kg i h (found_in t.kg (pos kg) i e), tt)

still_rows : (ts : List Tank) (n kg : ℕ) → All IsTank ts → (o : Option Tank) → slice_get ts n ≡ o → AreStill (10 ^ 12) (table_filling kg (option_map (λ tank. tank.rows) o))
still_rows ts n kg h None e = tt
still_rows ts n kg h (Some t) e = still_interval t.rows kg (get_all IsTank ts n t h e).table (interval t.rows.kg (pos kg)) refl

still_tank : (ship : ProfileRecord) (n : ℕ) → All IsTank ship.tables.tanks → (o : Option ℕ) → AreStill (10 ^ 12) (filling_in ship n o)
still_tank ship n h None = tt
still_tank ship n h (Some kg) = still_rows ship.tables.tanks n kg h (slice_get ship.tables.tanks n) refl

standing : (kg : ℕ) (p : Place) (fsm : ℤ) → kg ≤ 10 ^ 9 → IsPlace p → fsm ≡ pos 0 → Still 0 (record { kg = kg; place = p; fsm = fsm })
standing kg p fsm h i e = record {
  stands = record { kg = h; x = i.x_within; y = i.y_within; z = i.z_within; half_least = i.half_least; half = i.half_within; fsm = rw e (omega (arith, signed_arith)) };
  fsm_most = rw e (omega (arith, signed_arith));
}

still_cell : (p : Place) → IsPlace p → (o : Option Container) → IfSome o (λ k. k.kg ≤ 10 ^ 9) → AreStill 0 (body_in (Some p) o)
still_cell p i None h = tt
still_cell p i (Some k) h = (standing k.kg p (pos 0) h i refl, tt)

surface : Mass → ℤ
surface b = b.fsm

total_joined : (f : Mass → ℤ) (xs ys : List Mass) → total f (xs ++ ys) ≡ total f xs +ℤ total f ys
total_joined f [] ys = omega (arith, signed_arith)
total_joined f (x ∷ xs) ys = let t = total_joined f xs ys in omega (arith, signed_arith, t)

still_total : (bs : List Mass) → AllByRecursion (Still 0) bs → total (λ b. b.fsm) bs ≤ℤ pos 0
still_total [] a = omega (arith, signed_arith)
still_total (b ∷ bs) a = let s = a.0 in let h = s.fsm_most in let t = still_total bs a.1 in omega (arith, signed_arith, h, t)

still_one : (o : Option Mass) → AreStill (10 ^ 12) o → total (λ b. b.fsm) (option_to_list o) ≤ℤ pos (10 ^ 12)
still_one None a = omega (arith, signed_arith)
still_one (Some b) a = let s = a.0 in let h = s.fsm_most in omega (arith, signed_arith, h)

still_tanks : (f : ℕ → Option Mass) → ((k : ℕ) → AreStill (10 ^ 12) (f k)) → (k n : ℕ) → total (λ b. b.fsm) (flat_map (λ t. option_to_list (f t)) (range_with_len k n)) ≤ℤ pos (10 ^ 12 * n)
still_tanks f h k zero = omega (arith, signed_arith)
still_tanks f h k (suc n) =
    let one = still_one (f k) (h k) in
    let more = still_tanks f h (k + 1) n in
    let both = total_joined (λ b. b.fsm) (option_to_list (f k)) (flat_map (λ t. option_to_list (f t)) (range_with_len (k + 1) n)) in
    omega (arith, signed_arith, one, more, both)

inside_same : (xs : List ℤ) (k : ℕ) (d e : ℤ) → k < length xs → get_or xs k d ≡ get_or xs k e
inside_same [] k d e h = absurd (omega arith)
inside_same (x ∷ xs) zero d e h = refl
inside_same (x ∷ xs) (suc k) d e h = inside_same xs k d e (omega arith)

near_frame : (stations : List ℤ) → IsWithin (10 ^ 6) stations → (x : ℤ) (k : ℕ) → k < length stations → get_or stations k x ≡ x → unsigned_abs x ≤ 10 ^ 6
near_frame stations w x k less e = subst (λ (z : ℤ). unsigned_abs z ≤ 10 ^ 6) (inside_same stations k (pos 0) x less ∙ e) (w k)

pub bounded : AboardIsBounded
bounded = λ ship at sound light.
    let tables = sound.tables.tables in
    let frames = ship.ship.frames in
    let near : (i : ℕ) → (o : Option Frame) → slice_get frames i ≡ o → IfSome o IsNear = λ i o. by_frame ship sound i o in
    let blocks : AllByRecursion (Still 0) ship.ship.blocks = each_block ship.ship.blocks (λ k d less. sound.ship.blocks.each k d less) in
    let tanks : (k : ℕ) → AreStill (10 ^ 12) (filling_in ship k (at.tanks k)) = λ k. still_tank ship k tables.tanks (at.tanks k) in
    let in_tanks = all_flat (Still (10 ^ 12)) (λ tank. option_to_list (filling_in ship tank (at.tanks tank))) (range_with_len 0 (length ship.tables.tanks)) (range_each (λ k. AreStill (10 ^ 12) (filling_in ship k (at.tanks k))) tanks 0 (length ship.tables.tanks)) in
    let in_cells = all_flat (Still 0) (λ (e : Cell × Place). option_to_list (body_in (Some e.1) (at.cells e.0))) ship.tables.cells
    (each (λ (e : Cell × Place). IsPlace e.1) (λ e. AreStill 0 (body_in (Some e.1) (at.cells e.0))) (λ e p. still_cell e.1 p (at.cells e.0) (light e.0)) ship.tables.cells (by_recursion (λ (e : Cell × Place). IsPlace e.1) ship.tables.cells tables.cells)) in
    let all = all_append Stands ship.ship.blocks (bodies_in_tanks ship at.tanks ++ bodies_in_cells ship at.cells) (each (Still 0) Stands (λ b s. s.stands) ship.ship.blocks blocks)
    (all_append Stands (bodies_in_tanks ship at.tanks) (bodies_in_cells ship at.cells) (each (Still (10 ^ 12)) Stands (λ b s. s.stands) (bodies_in_tanks ship at.tanks) in_tanks) (each (Still 0) Stands (λ b s. s.stands) (bodies_in_cells ship at.cells) in_cells)) in
    let s = sums.bounded frames (bodies ship at) (λ i. near i (slice_get frames i) refl) all in
    let f1 = still_total ship.ship.blocks blocks in
    let f2 = still_tanks (λ k. filling_in ship k (at.tanks k)) tanks 0 (length ship.tables.tanks) in
    let f3 = still_total (bodies_in_cells ship at.cells) in_cells in
    let j1 = total_joined (λ b. b.fsm) ship.ship.blocks (bodies_in_tanks ship at.tanks ++ bodies_in_cells ship at.cells) in
    let j2 = total_joined (λ b. b.fsm) (bodies_in_tanks ship at.tanks) (bodies_in_cells ship at.cells) in
    let few = tables.few_tanks in
    record {
      kg = s.kg;
      x = s.x;
      y = s.y;
      z = s.z;
      fsm_low = s.fsm_low;
      fsm_high = omega (arith, signed_arith, f1, f2, f3, j1, j2, few);
      weights_low = s.weights_low;
      weights_high = s.weights_high;
      moments_low = s.moments_low;
      moments_high = s.moments_high;
    } where
      by_frame : (ship : ProfileRecord) → IsSound ship → (i : ℕ) (o : Option Frame) → slice_get ship.ship.frames i ≡ o → IfSome o IsNear
      by_frame ship sound i None e = tt
      by_frame ship sound i (Some f) e =
          let is = get_all (IsFrame ship.ship.stations) ship.ship.frames i f sound.ship.frames.each e in
          let at = is.station in
          near_frame ship.ship.stations sound.ship.stations.within f.x at.0 at.1 at.2

      each_block : (bs : List Mass) → {e : Extent} → All (IsBlock e) bs → AllByRecursion (Still 0) bs
      each_block bs {e} h = each (IsBlock e) (Still 0) (λ b i. standing b.kg b.place b.fsm i.kg_most i.place i.still) bs (by_recursion (IsBlock e) bs h)

-- Every body that is aboard, listed by what is held, and by the ship's tanks and cells.
use Rattle.std.proofs.Common.{◌≡◌, ℕ, suc, zero, ◌+◌, ◌≤◌, ◌<◌, List, [], ◌∷◌, map, flat_map, length, Option, None, Some, Bool, true, false, cond, nat_eq, nat_lt, ℤ, pos, ◌+ℤ◌, refl, sym, ap, ◌∙◌, arith, eqb-true}
use Rattle.std.specs.Prelude.{find, slice_get}
use Rattle.std.specs.Cmp.{unsigned_Decides}
use Rattle.std.specs.List.{IsDistinct, AllByRecursion, range_with_len}
use Rattle.std.specs.Map.{keys_of, lookup}
use Rattle.std.specs.Option.{is_some, option_map, option_to_list}
use Rattle.std.proofs.lemmas.Bool.Decides.{Decides-and}
use Rattle.std.proofs.lemmas.Int.{ints}
use Rattle.std.proofs.lemmas.List.{length-append}
use Rattle.std.proofs.lemmas.Option.{slice_get_past}
use Rattle.units_core.specs.declared.bodies.Place.{Place}
use Rattle.units_core.specs.declared.cells.Cell.{Cell}
use Rattle.units_core.specs.Bodies.{Mass}
use Rattle.units_core.specs.Cells.{cell_eq}
use Rattle.ship_profile.specs.Record.{ProfileRecord, place_of, tank_body}
use Rattle.lift_sequence.specs.declared.containers.Container.{Container}
use Rattle.lift_sequence.specs.Aboard.{Aboard, with_cell}
use Rattle.lift_sequence.specs.Legal.{overlap, place_fault, stand_fault}
use Rattle.lift_sequence.specs.Bodies.{body_in, filling_in, bodies_in_cells}
use Rattle.units_core.specs.Totals.{total}
use Rattle.lift_sequence.proofs.Overlaps.{find_at, find_none}
use Rattle.lift_sequence.proofs.Totals.{element, given, one_more, ones}

-- numbers and cells by their tests
pub cells_same : (a b : Cell) → cell_eq a b ≡ true → a ≡ b
cells_same a b h =
    let parts = (Decides-and _ _ (unsigned_Decides a.bay b.bay) (Decides-and _ _ (unsigned_Decides a.row b.row) (unsigned_Decides a.tier b.tier))).0 h in
    λ i. record { bay = parts.0 i; row = parts.1.0 i; tier = parts.1.1 i }

apart_from : (k a n : ℕ) → k < a → AllByRecursion (λ y. nat_eq k y ≡ false) (map (λ t. t) (range_with_len a n))
apart_from k a zero h = tt
apart_from k a (suc n) h = (grind arith, apart_from k (a + 1) n (omega arith))

pub distinct_range : (a n : ℕ) → IsDistinct nat_eq (map (λ t. t) (range_with_len a n))
unfolding IsDistinct
distinct_range a zero = tt
distinct_range a (suc n) = (apart_from a (a + 1) n (omega arith), distinct_range (a + 1) n)

module _ (ship : ProfileRecord) where
  pub tank_given : (k kg : ℕ) (b : Bool) → nat_lt k (length ship.tables.tanks) ≡ b
      → given (λ (t : ℕ). t) nat_eq (λ a b h. eqb-true a b h) (λ t held. option_to_list (filling_in ship t held)) (λ t. refl)
      (element (λ (t : ℕ). t) nat_eq (λ a b h. eqb-true a b h) (λ t held. option_to_list (filling_in ship t held)) (λ t. refl) (range_with_len 0 (length ship.tables.tanks)) k) kg
      ≡ option_to_list (tank_body ship k kg)
  tank_given k kg true e =
      let at = find_at (λ t. nat_eq k t) 0 (length ship.tables.tanks) k (grind (arith, e)) (λ b low high. grind arith) (grind arith) in
      let is : find (λ t. nat_eq k t) (range_with_len 0 (length ship.tables.tanks)) ≡ Some k = at ∙ ap (λ m. Some m) (omega arith) in
      rw is refl
  tank_given k kg false e =
      let is : find (λ t. nat_eq k t) (range_with_len 0 (length ship.tables.tanks)) ≡ None = find_none (λ t. nat_eq k t) 0 (length ship.tables.tanks) (λ b low high. grind (arith, e)) in
      let past : slice_get ship.tables.tanks k ≡ None = slice_get_past ship.tables.tanks k (grind (arith, e)) in
      rw (is, past) refl

  pub found : (k : Cell) (cells : List (Cell × Place)) → lookup (cell_eq k) cells ≡ option_map (λ (e : Cell × Place). e.1) (find (λ (e : Cell × Place). cell_eq k e.0) cells)
  found k [] = refl
  found k (e ∷ cells) = by_cases (cell_eq k e.0) (found k cells) where
    by_cases : (b : Bool) → lookup (cell_eq k) cells ≡ option_map (λ (e : Cell × Place). e.1) (find (λ (e : Cell × Place). cell_eq k e.0) cells)
        → cond b (Some e.1) (lookup (cell_eq k) cells) ≡ option_map (λ (e : Cell × Place). e.1) (cond b (Some e) (find (λ (e : Cell × Place). cell_eq k e.0) cells))
    by_cases true h = refl
    by_cases false h = h

  cell_given : (v : Container) (o : Option (Cell × Place))
      → given (λ (e : Cell × Place). e.0) cell_eq cells_same (λ e held. option_to_list (body_in (Some e.1) held)) (λ e. refl) o v
      ≡ option_to_list (body_in (option_map (λ (e : Cell × Place). e.1) o) (Some v))
  cell_given v None = refl
  cell_given v (Some e) = refl

-- how many they are
at_most_one : {X Y : Type 0} (g : X → Option Y) (x : X) (o : Option Y) → g x ≡ o → length (option_to_list (g x)) ≤ 1
at_most_one g x None e = rw e (omega arith)
at_most_one g x (Some y) e = rw e (omega arith)

pub few_options : {X Y : Type 0} (g : X → Option Y) (xs : List X) → length (flat_map (λ x. option_to_list (g x)) xs) ≤ length xs
few_options g [] = omega arith
few_options g (x ∷ xs) =
    omega (arith, length-append (option_to_list (g x)) (flat_map (λ x. option_to_list (g x)) xs), at_most_one g x (g x) refl, few_options g xs)

-- a container that can be put into a cell has a place, and nothing stands there
pub stood : (o : Option Place) (taken : Bool) (rival : Option Cell) → place_fault o taken rival ≡ None → ((p : Place) × (o ≡ Some p)) × (taken ≡ false)
stood None taken rival h = absurd (cc)
stood (Some p) true rival h = absurd (cc)
stood (Some p) false rival h = ((p, refl), refl)

pub is_free : (o : Option Container) → is_some o ≡ false → o ≡ None
is_free None h = refl
is_free (Some c) h = absurd (cc)

-- so each that is put aboard is one body more in the ship's cells
pub stowed_adds : (ship : ProfileRecord) (f : Mass → ℤ) (now : Aboard) (cell : Cell) (v : Container) → IsDistinct cell_eq (keys_of ship.tables.cells)
    → stand_fault ship now cell ≡ None
    → total f (bodies_in_cells ship (with_cell now cell (Some v)).cells)
    ≡ total f (bodies_in_cells ship now.cells) +ℤ total f (option_to_list (body_in (place_of ship cell) (Some v)))
stowed_adds ship f now cell v tidy legal =
    let s = stood (place_of ship cell) (is_some (now.cells cell)) (overlap now.cells cell) legal in
    let one = one_more (λ (e : Cell × Place). e.0) cell_eq cells_same (λ e held. option_to_list (body_in (Some e.1) held)) (λ e. refl) f now.cells cell v ship.tables.cells
    (is_free (now.cells cell) s.1) tidy in
    let body : given (λ (e : Cell × Place). e.0) cell_eq cells_same (λ e held. option_to_list (body_in (Some e.1) held)) (λ e. refl)
    (find (λ (x : Cell × Place). cell_eq cell x.0) ship.tables.cells) v ≡ option_to_list (body_in (place_of ship cell) (Some v))
    = cell_given ship v (find (λ (x : Cell × Place). cell_eq cell x.0) ship.tables.cells)
    ∙ ap (λ o. option_to_list (body_in o (Some v))) (sym (found ship cell ship.tables.cells)) in
    one ∙ ap (λ (bs : List Mass). total f (bodies_in_cells ship now.cells) +ℤ total f bs) body

pub stowed_more : (ship : ProfileRecord) (now next : Aboard) (cell : Cell) (v : Container) (n : ℕ) → IsDistinct cell_eq (keys_of ship.tables.cells)
    → pos n ≡ total (λ body. pos 1) (bodies_in_cells ship now.cells) → stand_fault ship now cell ≡ None → next ≡ with_cell now cell (Some v)
    → pos (n + 1) ≡ total (λ body. pos 1) (bodies_in_cells ship next.cells)
stowed_more ship now next cell v n tidy so_far legal moves =
    let f : Mass → ℤ = λ body. pos 1 in
    let s = stood (place_of ship cell) (is_some (now.cells cell)) (overlap now.cells cell) legal in
    let adds = stowed_adds ship f now cell v tidy legal in
    omega (
      arith,
      ints,
      so_far,
      adds,
      ap (λ (o : Option Place). total f (option_to_list (body_in o (Some v)))) s.0.1,
      ap (λ (a : Aboard). total f (bodies_in_cells ship a.cells)) moves,
    )

-- and there are no more of them than cells
pub stowed_few : (ship : ProfileRecord) (now : Aboard) (n : ℕ) → length ship.tables.cells ≤ 30000 → pos n ≡ total (λ body. pos 1) (bodies_in_cells ship now.cells) → n ≤ 30000
stowed_few ship now n few so_far =
    omega (arith, ints, so_far, ones (bodies_in_cells ship now.cells), few_options (λ (e : Cell × Place). body_in (Some e.1) (now.cells e.0)) ship.tables.cells, few)

nothing_there : (cells : List (Cell × Place)) → flat_map (λ (e : Cell × Place). option_to_list (body_in (Some e.1) None)) cells ≡ []
nothing_there [] = refl
nothing_there (e ∷ cells) = nothing_there cells

pub nothing_stands : (ship : ProfileRecord) → bodies_in_cells ship (λ cell. None) ≡ []
nothing_stands ship = nothing_there ship.tables.cells

-- The bodies on arrival, listed item by item and fill by fill, and by the ship's tanks and cells.
use Rattle.std.proofs.Common.{◌≡◌, ℕ, ◌+◌, List, [], ◌∷◌, ◌++◌, map, length, Option, None, Some, false, cond, nat_eq, nat_lt, ℤ, ◌+ℤ◌, refl, sym, ap, subst, ◌∙◌, arith, eqb-true}
use Rattle.std.specs.List.{IsDistinct, AllByRecursion, filter_map, range_with_len}
use Rattle.std.specs.Map.{keys_of}
use Rattle.std.specs.Option.{option_to_list}
use Rattle.std.proofs.lemmas.Int.{ints}
use Rattle.units_core.specs.declared.cells.Cell.{Cell}
use Rattle.units_core.specs.Bodies.{Mass}
use Rattle.units_core.specs.Cells.{cell_eq}
use Rattle.stow_messages.specs.declared.items.Item.{Item}
use Rattle.ship_profile.specs.declared.fills.TankFill.{TankFill}
use Rattle.ship_profile.specs.Record.{ProfileRecord, tank_body}
use Rattle.lift_sequence.specs.declared.containers.Container.{Container}
use Rattle.lift_sequence.specs.Aboard.{Aboard, container_of, nothing, with_cell, with_tank}
use Rattle.lift_sequence.specs.Arrival.{arrival_bodies, items_fault, on_arrival, with_fills, with_items}
use Rattle.lift_sequence.specs.Bodies.{bodies, bodies_in_cells, bodies_in_tanks, fill_body, filling_in, item_body}
use Rattle.lift_sequence.specs.Legal.{stand_fault}
use Rattle.units_core.specs.Totals.{total}
use Rattle.lift_sequence.proofs.Listings.{distinct_range, nothing_stands, stowed_adds, tank_given}
use Rattle.lift_sequence.proofs.States.{filter_first, none_first}
use Rattle.lift_sequence.proofs.Totals.{empty_rows, one_more, total-append}

-- items change no tank, and fills no cell
items_leave : (at : Aboard) (items : List Item) → (with_items at items).tanks ≡ at.tanks
items_leave at [] = refl
items_leave at (item ∷ more) = items_leave (with_cell at item.cell (Some (container_of item))) more

fills_leave : (at : Aboard) (fills : List TankFill) → (with_fills at fills).cells ≡ at.cells
fills_leave at [] = refl
fills_leave at (fill ∷ more) = fills_leave (with_tank at (Some fill.tank) fill.kg) more

-- items that can stand add their bodies to those in the cells
items_add : (ship : ProfileRecord) (f : Mass → ℤ) → IsDistinct cell_eq (keys_of ship.tables.cells) → (now : Aboard) (number : ℕ) (items : List Item)
    → items_fault ship now number items ≡ None
    → total f (bodies_in_cells ship (with_items now items).cells) ≡ total f (bodies_in_cells ship now.cells) +ℤ total f (filter_map (item_body ship) items)
items_add ship f tidy now number [] legal = omega (arith, ints)
items_add ship f tidy now number (item ∷ more) legal =
    let next = with_cell now item.cell (Some (container_of item)) in
    let both = none_first number (stand_fault ship now item.cell) (items_fault ship next (number + 1) more) legal in
    let here = stowed_adds ship f now item.cell (container_of item) tidy both.0 in
    let rest = items_add ship f tidy next (number + 1) more both.1 in
    let listed = ap (total f) (filter_first (item_body ship) item more) in
    omega (arith, ints, here, rest, listed, total-append f (option_to_list (item_body ship item)) (filter_map (item_body ship) more))

-- a tank that has no filling gets one
filled_adds : (ship : ProfileRecord) (f : Mass → ℤ) (now : Aboard) (tank kg : ℕ) → now.tanks tank ≡ None
    → total f (bodies_in_tanks ship (with_tank now (Some tank) kg).tanks) ≡ total f (bodies_in_tanks ship now.tanks) +ℤ total f (option_to_list (tank_body ship tank kg))
filled_adds ship f now tank kg free =
    let one = one_more (λ (t : ℕ). t) nat_eq (λ a b h. eqb-true a b h) (λ t held. option_to_list (filling_in ship t held)) (λ t. refl) f now.tanks tank kg
    (range_with_len 0 (length ship.tables.tanks)) free (distinct_range 0 (length ship.tables.tanks)) in
    one ∙ ap (λ (bs : List Mass). total f (bodies_in_tanks ship now.tanks) +ℤ total f bs) (tank_given ship tank kg (nat_lt tank (length ship.tables.tanks)) refl)

abbrev tanks_of : List TankFill → List ℕ
tanks_of fills = map (λ fill. fill.tank) fills

-- the tanks of the fills behind it have none either
still_free : (at : Aboard) (tank kg : ℕ) (tanks : List ℕ) → AllByRecursion (λ t. nat_eq tank t ≡ false) tanks → AllByRecursion (λ t. at.tanks t ≡ None) tanks
    → AllByRecursion (λ t. (with_tank at (Some tank) kg).tanks t ≡ None) tanks
still_free at tank kg [] apart free = tt
still_free at tank kg (t ∷ more) apart free = (ap (λ b. cond b (Some kg) (at.tanks t)) apart.0 ∙ free.0, still_free at tank kg more apart.1 free.1)

fills_add : (ship : ProfileRecord) (f : Mass → ℤ) (now : Aboard) (fills : List TankFill) → IsDistinct nat_eq (tanks_of fills)
    → AllByRecursion (λ t. now.tanks t ≡ None) (tanks_of fills)
    → total f (bodies_in_tanks ship (with_fills now fills).tanks) ≡ total f (bodies_in_tanks ship now.tanks) +ℤ total f (filter_map (fill_body ship) fills)
unfolding IsDistinct
fills_add ship f now [] apart free = omega (arith, ints)
fills_add ship f now (fill ∷ more) apart free =
    let next = with_tank now (Some fill.tank) fill.kg in
    let here = filled_adds ship f now fill.tank fill.kg free.0 in
    let rest = fills_add ship f next more apart.1 (still_free now fill.tank fill.kg (tanks_of more) apart.0 free.1) in
    let listed = ap (total f) (filter_first (fill_body ship) fill more) in
    omega (arith, ints, here, rest, listed, total-append f (option_to_list (fill_body ship fill)) (filter_map (fill_body ship) more))

none_filled : (tanks : List ℕ) → AllByRecursion (λ t. nothing.tanks t ≡ None) tanks
none_filled [] = tt
none_filled (t ∷ more) = (refl, none_filled more)

nothing_filled : (ship : ProfileRecord) → bodies_in_tanks ship (λ tank. None) ≡ []
nothing_filled ship =
    empty_rows (λ (t : ℕ). t) nat_eq (λ a b h. eqb-true a b h) (λ t held. option_to_list (filling_in ship t held)) (λ t. refl) (range_with_len 0 (length ship.tables.tanks))

-- where no tank is filled twice, the bodies item by item and fill by fill add up to those of what is aboard
pub arrival_sums : (ship : ProfileRecord) (items : List Item) (fills : List TankFill) → IsDistinct cell_eq (keys_of ship.tables.cells)
    → items_fault ship nothing 1 items ≡ None → IsDistinct nat_eq (tanks_of fills) → (f : Mass → ℤ)
    → total f (arrival_bodies ship items fills) ≡ total f (bodies ship (on_arrival items fills))
arrival_sums ship items fills tidy legal once f =
    let stowed = with_items nothing items in
    let cells = items_add ship f tidy nothing 1 items legal in
    let free = subst (λ (held : ℕ → Option ℕ). AllByRecursion (λ t. held t ≡ None) (tanks_of fills)) (sym (items_leave nothing items)) (none_filled (tanks_of fills)) in
    let tanks = fills_add ship f stowed fills once free in
    let fb = filter_map (fill_body ship) fills in
    let ib = filter_map (item_body ship) items in
    omega (
      arith,
      ints,
      cells,
      tanks,
      ap (total f) (nothing_stands ship),
      ap (total f) (nothing_filled ship),
      ap (λ (held : ℕ → Option ℕ). total f (bodies_in_tanks ship held)) (items_leave nothing items),
      ap (λ (held : Cell → Option Container). total f (bodies_in_cells ship held)) (fills_leave stowed fills),
      total-append f ship.ship.blocks (fb ++ ib),
      total-append f fb ib,
      total-append f ship.ship.blocks (bodies_in_tanks ship (on_arrival items fills).tanks ++ bodies_in_cells ship (on_arrival items fills).cells),
      total-append f (bodies_in_tanks ship (on_arrival items fills).tanks) (bodies_in_cells ship (on_arrival items fills).cells),
    )

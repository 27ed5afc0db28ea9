-- Who stands in a cell after one step, one item or one fill more.
use Rattle.std.proofs.Common.{◌≡◌, ◌∙◌, ℕ, Bool, true, false, List, [], ◌∷◌, ◌++◌, length, Option, None, Some, refl, sym, ap, arith}
use Rattle.units_core.specs.Cells.{cell_eq}
use Rattle.units_core.specs.declared.cells.Cell.{Cell}
use Rattle.stow_messages.specs.declared.items.Item.{Item}
use Rattle.ship_profile.specs.Record.{ProfileRecord}
use Rattle.ship_profile.specs.declared.fills.TankFill.{TankFill}
use Rattle.lift_sequence.specs.Aboard.{Aboard, after_all, after_step, container_of, nothing, with_item, with_tank}
use Rattle.lift_sequence.specs.Arrival.{on_arrival, with_fills, with_items}
use Rattle.lift_sequence.specs.declared.containers.Container.{Container}
use Rattle.lift_sequence.specs.declared.operations.Op as operation

pub items_more : (at : Aboard) (items : List Item) (item : Item) → with_items at (items ++ item ∷ []) ≡ with_item (with_items at items) item
items_more at [] item = refl
items_more at (first ∷ more) item = items_more (with_item at first) more item

pub steps_more : (ship : ProfileRecord) (at : Aboard) (ops : List operation.Op) (op : operation.Op) → after_all ship at (ops ++ op ∷ []) ≡ after_step ship (after_all ship at ops) op
steps_more ship at [] op = refl
steps_more ship at (first ∷ more) op = steps_more ship (after_step ship at first) more op

-- a fill puts nothing into a cell
pub filled_cells : (at : Aboard) (tank : Option ℕ) (kg : ℕ) (cell : Cell) → (with_tank at tank kg).cells cell ≡ at.cells cell
filled_cells at None kg cell = refl
filled_cells at (Some tank) kg cell = refl

pub fills_cells : (at : Aboard) (fills : List TankFill) (cell : Cell) → (with_fills at fills).cells cell ≡ at.cells cell
fills_cells at [] cell = refl
fills_cells at (fill ∷ more) cell = fills_cells (with_tank at (Some fill.tank) fill.kg) more cell

-- the last of some items, by its cell
last_item : (rest front : List Item) (item : Item) (cell : Cell) → rest ≡ front ++ item ∷ []
    → (with_items nothing rest).cells cell ≡ (with_item (with_items nothing front) item).cells cell
last_item rest front item cell split =
    ap (λ (xs : List Item). (with_items nothing xs).cells cell) split ∙ ap (λ (at : Aboard). at.cells cell) (items_more nothing front item)

pub item_there : (items rest front : List Item) (item : Item) (cell : Cell) (fills : List TankFill) → rest ≡ front ++ item ∷ []
    → (with_items nothing rest).cells cell ≡ (with_items nothing items).cells cell → cell_eq item.cell cell ≡ true
    → ◌≡◌ {A = Option Container} (Some (container_of item)) ((on_arrival items fills).cells cell)
item_there items rest front item cell fills split same here =
    let put : ◌≡◌ {A = Option Container} ((with_item (with_items nothing front) item).cells cell) (Some (container_of item)) = rw here refl in
    sym (fills_cells (with_items nothing items) fills cell ∙ sym same ∙ last_item rest front item cell split ∙ put)

pub item_before : (items rest front : List Item) (item : Item) (cell : Cell) → rest ≡ front ++ item ∷ []
    → (with_items nothing rest).cells cell ≡ (with_items nothing items).cells cell → cell_eq item.cell cell ≡ false
    → (with_items nothing front).cells cell ≡ (with_items nothing items).cells cell
item_before items rest front item cell split same other =
    let past : (with_item (with_items nothing front) item).cells cell ≡ (with_items nothing front).cells cell = rw other refl in
    sym (last_item rest front item cell split ∙ past) ∙ same

no_items : (rest : List Item) → length rest ≡ 0 → rest ≡ []
no_items [] none = refl
no_items (item ∷ more) none = absurd (omega (arith, none))

pub item_none : (items rest : List Item) (cell : Cell) (fills : List TankFill) → length rest ≡ 0 → (with_items nothing rest).cells cell ≡ (with_items nothing items).cells cell
    → ◌≡◌ {A = Option Container} None ((on_arrival items fills).cells cell)
item_none items rest cell fills none same =
    sym (fills_cells (with_items nothing items) fills cell ∙ sym same ∙ ap (λ (xs : List Item). (with_items nothing xs).cells cell) (no_items rest none))

-- what is in a cell after some steps, by the last of them
pub step_back : (ship : ProfileRecord) (at : Aboard) (rest front : List operation.Op) (op : operation.Op) (place : Cell) → rest ≡ front ++ op ∷ []
    → (after_all ship at rest).cells place ≡ (after_step ship (after_all ship at front) op).cells place
step_back ship at rest front op place split =
    ap (λ (xs : List operation.Op). (after_all ship at xs).cells place) split ∙ ap (λ (aboard : Aboard). aboard.cells place) (steps_more ship at front op)

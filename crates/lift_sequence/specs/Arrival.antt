-- What is aboard on arrival: the items of the bay plan, in their order, and then the fills of the
-- ship's tanks.
use Rattle.std.specs.Prelude.{◌≡◌, ◌≢◌, ◌≤◌, ℕ, ◌+◌, ◌^◌, ℤ, nat_eq, List, [], ◌∷◌, ◌++◌, length}
use Rattle.std.specs.Prelude.{map, Option, None, Some, option_map, filter_map}
use Rattle.std.specs.List.{AllByRecursion, IsDistinct}
use Rattle.std.specs.Option.{option_or}
use Rattle.units_core.specs.Bodies.{Mass}
use Rattle.stow_messages.specs.declared.items.Item.{Item}
use Rattle.ship_profile.specs.declared.fills.TankFill.{TankFill}
use Rattle.ship_profile.specs.Record.{ProfileRecord}
use Rattle.lift_sequence.specs.declared.faults.SeqCode.{SeqCode}
use Rattle.lift_sequence.specs.declared.faults.SeqCode.TheVariants.{NoMemory}
use Rattle.lift_sequence.specs.declared.faults.SeqFault.{SeqFault}
use Rattle.lift_sequence.specs.Aboard.{Aboard, nothing, with_item, with_tank}
use Rattle.lift_sequence.specs.Bodies.{bodies, fill_body, item_body}
use Rattle.lift_sequence.specs.Legal.{stand_fault, over_fault}
use Rattle.lift_sequence.specs.Limits.{most_bodies}
use Rattle.units_core.specs.Totals.{total}

-- what is aboard once the items are in their cells, and the tanks are filled
abbrev pub with_items : Aboard → List Item → Aboard
with_items at [] = at
with_items at (item ∷ more) = with_items (with_item at item) more

abbrev pub with_fills : Aboard → List TankFill → Aboard
with_fills at [] = at
with_fills at (fill ∷ more) = with_fills (with_tank at (Some fill.tank) fill.kg) more

abbrev pub on_arrival : List Item → List TankFill → Aboard
on_arrival items fills = with_fills (with_items nothing items) fills

-- a fault at a number
abbrev pub fault_at : ℕ → SeqCode → SeqFault
fault_at number code = record { code = code; at = number }

-- the first item that its cell can't take after those before it, and the first fill that its tank
-- can't hold; both are numbered from 1
abbrev pub items_fault : ProfileRecord → Aboard → ℕ → List Item → Option SeqFault
items_fault ship at number [] = None
items_fault ship at number (item ∷ more) =
    option_or (option_map (fault_at number) (stand_fault ship at item.cell))
    (items_fault ship (with_item at item) (number + 1) more)

abbrev pub fills_fault : ProfileRecord → ℕ → List TankFill → Option SeqFault
fills_fault ship number [] = None
fills_fault ship number (fill ∷ more) =
    option_or (option_map (fault_at number) (over_fault (fill_body ship fill)))
    (fills_fault ship (number + 1) more)

abbrev pub arrival_fault : ProfileRecord → List Item → List TankFill → Option SeqFault
arrival_fault ship items fills =
    option_or (items_fault ship nothing 1 items) (fills_fault ship 1 fills)

-- a refusal gives the fault that is defined, or is out of memory
abbrev pub TellsAt : Option SeqFault → SeqFault → Type 0
TellsAt fault f = f.code ≢ NoMemory → fault ≡ Some f

-- the bodies of items and of fills
abbrev pub item_bodies : ProfileRecord → List Item → List Mass
item_bodies ship items = filter_map (item_body ship) items

abbrev pub fill_bodies : ProfileRecord → List TankFill → List Mass
fill_bodies ship fills = filter_map (fill_body ship) fills

-- the bodies aboard, one by one: the blocks, the fillings, the items
abbrev pub arrival_bodies : ProfileRecord → List Item → List TankFill → List Mass
arrival_bodies ship items fills =
    ship.ship.blocks ++ (fill_bodies ship fills ++ item_bodies ship items)

-- no tank is filled twice
abbrev pub AreFilledOnce : List TankFill → Type 0
AreFilledOnce fills = IsDistinct nat_eq (map (λ fill. fill.tank) fills)

-- bodies add up, in every value, to those of what is aboard
abbrev pub AddUpTo : ProfileRecord → Aboard → List Mass → Type 0
AddUpTo ship at listed = (f : Mass → ℤ) → total f listed ≡ total f (bodies ship at)

-- what an arrival is
pub record ArrivalRecord : Type 0 where
  pub items : List Item
  pub fills : List TankFill
  pub bodies : List Mass

-- each item is of at most 10^9 kg
abbrev pub AreLight : List Item → Type 0
AreLight items = AllByRecursion (λ item. item.kg ≤ 10 ^ 9) items

-- what every arrival keeps: not too many bodies, and no container too heavy for a sum
pub record IsStowed (arrival : ArrivalRecord) : Type 0 where
  pub few : length arrival.bodies ≤ most_bodies
  pub light : AreLight arrival.items

-- what is aboard on it
abbrev pub cargo_on : ArrivalRecord → Aboard
cargo_on arrival = on_arrival arrival.items arrival.fills

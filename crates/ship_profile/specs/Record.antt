-- The profile of a ship: the record that her files write, where every rule of them holds, or else
-- the first fault in the order of the files: `ship.toml` whole, the tables one after another, and
-- then the tanks of the fills.
use Rattle.std.specs.Prelude.{ℕ, ◌+◌, ◌<◌, ◌≤◌, ◌^◌, Bool, not, nat_eq, List, [], length, map, All}
use Rattle.std.specs.Prelude.{Option, Result, Ok, Err, option_map}
use Rattle.std.specs.List.{list_any, IsDistinct}
use Rattle.toml.specs.Data.{Members}
use Rattle.units_core.specs.declared.bodies.Place.{Place}
use Rattle.units_core.specs.declared.cells.Cell.{Cell}
use Rattle.units_core.specs.Bodies.{Mass}
use Rattle.ship_tables.specs.declared.faults.TableFault.{TableFault}
use Rattle.ship_tables.specs.Record as tables
use Rattle.ship_profile.specs.declared.faults.Key.TheVariants as key
use Rattle.ship_profile.specs.declared.faults.ProfileFault.{ProfileFault}
use Rattle.ship_profile.specs.declared.faults.ProfileFault.TheVariants as fault
use Rattle.ship_profile.specs.declared.fills.TankFill.{TankFill}
use Rattle.ship_profile.specs.declared.profiles.ProfileBytes.{ProfileBytes}
use Rattle.ship_profile.specs.Keys.{document_in}
use Rattle.units_core.specs.Outcome.{◌>>=◌, or_fault, demand}
use Rattle.ship_profile.specs.Outcome.{one_by_one}
use Rattle.ship_profile.specs.TableFaults.{as_profile_fault}
use Rattle.ship_profile.specs.Ship.{ShipRecord, ship_of, IsSoundShip, extent_of, NamedFill}
use Rattle.ship_profile.specs.Ship.{named_fills_of}

-- the texts of a profile's files
pub record Texts : Type 0 where
  pub ship : List ℕ
  pub tables : tables.Texts

abbrev pub texts_of : ProfileBytes → Texts
texts_of b = record {
  ship = b.ship.now;
  tables = record {
    cells = b.cells.now;
    hydro = b.hydro.now;
    levers = b.kn.now;
    bonjean = b.bonjean.now;
    tanks = b.tanks.now;
    least_gm = option_map (λ t. t.now) b.gm;
  };
}

-- what a profile is: what `ship.toml` says of the ship, her tables, and the tanks that are filled
pub record ProfileRecord : Type 0 where
  pub ship : ShipRecord
  pub tables : tables.TablesRecord
  pub fills : List TankFill

-- what was read, or its fault as one of the profile
abbrev pub from_tables : {A : Type 0} → Result A TableFault → Result A ProfileFault
from_tables (Ok a) = Ok a
from_tables (Err e) = Err (as_profile_fault e)

-- the tables of a ship of these stations
abbrev pub tables_in : ShipRecord → tables.Texts → Result tables.TablesRecord ProfileFault
tables_in ship texts =
    from_tables (tables.tables_of (extent_of ship.stations) (length ship.stations) texts)

-- one of these fills is of this tank
abbrev pub is_filled : List TankFill → ℕ → Bool
is_filled fills tank = list_any (λ f. nat_eq f.tank tank) fills

-- a fill in its tank: the tank is there, and wasn't filled before; it is named by its number, the
-- first being 1
abbrev pub fill_in : tables.TablesRecord → List TankFill → NamedFill → Result TankFill ProfileFault
fill_in ts before named =
    or_fault (fault.UnknownTank (length before + 1)) (tables.tank_of ts named.tank) >>= (λ tank.
    demand (fault.BadKey key.Fills) (not (is_filled before tank))
    (record { tank = tank; kg = named.kg }))

-- the fills in their tanks, in the order of `ship.toml`
abbrev pub fills_in : tables.TablesRecord → List NamedFill → Result (List TankFill) ProfileFault
fills_in ts named = one_by_one (fill_in ts) [] named

-- the profile of a document and of the texts of the tables
abbrev pub profile_of : Members → tables.Texts → Result ProfileRecord ProfileFault
profile_of ms texts =
    ship_of ms >>= (λ ship.
    named_fills_of ms >>= (λ named.
    tables_in ship texts >>= (λ ts.
    fills_in ts named >>= (λ fills.
    Ok (record { ship = ship; tables = ts; fills = fills })))))

-- the profile that the texts of the files write
abbrev pub record_of : Texts → Result ProfileRecord ProfileFault
record_of texts = document_in texts.ship >>= (λ ms. profile_of ms texts.tables)

-- the place of a container in a cell
abbrev pub place_of : ProfileRecord → Cell → Option Place
place_of r cell = tables.place_of r.tables cell

-- the number of a cell, from 0 in the order of her cells
abbrev pub number_of : ProfileRecord → Cell → Option ℕ
number_of r cell = tables.number_of r.tables cell

-- the number of the tank of a name
abbrev pub tank_of : ProfileRecord → List ℕ → Option ℕ
tank_of r name = tables.tank_of r.tables name

-- a tank that holds this mass, as a body
abbrev pub tank_body : ProfileRecord → ℕ → ℕ → Option Mass
tank_body r tank kg = tables.tank_body r.tables tank kg

-- a fill of a tank that is there
pub record IsFill (ts : tables.TablesRecord) (f : TankFill) : Type 0 where
  pub tank : f.tank < length ts.tanks
  pub kg_most : f.kg ≤ 10 ^ 9

-- at most 200 fills, each of a tank that is there, and none of a tank that was filled before
pub record AreFills (ts : tables.TablesRecord) (fs : List TankFill) : Type 0 where
  pub few : length fs ≤ 200
  pub each : All (IsFill ts) fs
  pub distinct : IsDistinct nat_eq (map (λ f. f.tank) fs)

-- what every profile keeps: each number of `ship.toml` within its limits, tables that can be read,
-- and fills of its tanks
pub record IsSound (p : ProfileRecord) : Type 0 where
  pub ship : IsSoundShip p.ship
  pub tables : tables.IsSound (extent_of p.ship.stations) (length p.ship.stations) p.tables
  pub fills : AreFills p.tables p.fills

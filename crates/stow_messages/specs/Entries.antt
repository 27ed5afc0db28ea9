-- What a group says, whatever its message: a cell, a container's identification, and its mass.
use Rattle.std.specs.Prelude.{◌≡◌, ◌≢◌, ℕ, List, [], ◌∷◌, ◌++◌, length, Option, Some, None, Result}
use Rattle.std.specs.Prelude.{Ok, Err, is_ok, true, nat_le, nat_lt, flat_map, option_to_list}
use Rattle.std.specs.Prelude.{if◌then◌else◌, codes}
use Rattle.std.specs.List.{list_all}
use Rattle.std.specs.Option.{option_or, is_some}
use Rattle.arrayvec.specs.ArrayVec.{ArrayVec}
use Rattle.units_core.specs.declared.cells.Cell.{Cell}
use Rattle.units_core.specs.Cells.{cell_in}
use Rattle.units_core.specs.Outcome.{◌>>=◌, or_fault}
use Rattle.edifact_text.specs.Interchange.{Numbered, component}
use Rattle.stow_messages.specs.declared.items.Item.{Item}
use Rattle.stow_messages.specs.declared.faults.StowFault.{StowFault}
use Rattle.stow_messages.specs.declared.faults.StowCode.{StowCode}
use Rattle.stow_messages.specs.declared.faults.StowCode.TheVariants.{BadCell, IdTooLong, BadWeight}
use Rattle.stow_messages.specs.declared.faults.StowCode.TheVariants.{WrongUnit, NoWeight, TooMany}
use Rattle.stow_messages.specs.declared.faults.StowCode.TheVariants.{NoMemory}
use Rattle.stow_messages.specs.Groups.{Found}
use Rattle.stow_messages.specs.Kinds.{has}
use Rattle.stow_messages.specs.Weights.{kg_in}

-- a fault found at a segment
abbrev pub fault_at : StowCode → Numbered → StowFault
fault_at code s = record { code = code; segment = s.number }

abbrev pub or_fault_at : {A : Type 0} → StowCode → Numbered → Option A → Result A StowFault
or_fault_at code s o = or_fault (fault_at code s) o

-- the cell of a location
abbrev pub cell_at : Numbered → Result Cell StowFault
cell_at s = or_fault_at BadCell s (cell_in (component s.parts 2 0))

-- the identification of a container, at most 17 bytes
abbrev pub id_at : Numbered → Result (ArrayVec ℕ) StowFault
id_at s = if nat_le (length (component s.parts 2 0)) 17
    then Ok (record { items = component s.parts 2 0 }) else Err (fault_at IdTooLong s)

abbrev pub id_of : Option Numbered → Result (ArrayVec ℕ) StowFault
id_of None = Ok (record { items = [] })
id_of (Some s) = id_at s

-- the mass of a measurement: its unit, then its value
abbrev pub kg_at : ℕ → Numbered → Result ℕ StowFault
kg_at mark s =
    if has s 3 0 (codes "KGM") then or_fault_at BadWeight s (kg_in mark (component s.parts 3 1))
    else Err (fault_at WrongUnit s)

-- the measurement that counts: the verified one before the other
abbrev pub measure_of : Found → Option Numbered
measure_of f = option_or f.verified f.gross

-- the item of a cell and an identification, with the mass that was found: a container without a
-- mass is a fault, and a group without either is nothing
abbrev pub item_by : ℕ → Found → Cell → ArrayVec ℕ → Option Numbered
    → Result (Option Item) StowFault
item_by mark f cell id (Some measure) =
    kg_at mark measure >>= (λ kg. Ok (Some (record { cell = cell; id = id; kg = kg })))
item_by mark f cell id None =
    if is_some f.equipment then Err (fault_at NoWeight f.location) else Ok None

abbrev pub item_of : ℕ → Found → Cell → ArrayVec ℕ → Result (Option Item) StowFault
item_of mark f cell id = item_by mark f cell id (measure_of f)

-- the entries with one more, if the group at this location gives one: a message has at most `most`
-- entries
abbrev pub with_entry : {X : Type 0} → ℕ → List X → Numbered → Option X → Result (List X) StowFault
with_entry most entries location None = Ok entries
with_entry most entries location (Some entry) =
    if nat_lt (length entries) most then Ok (entries ++ entry ∷ [])
    else Err (fault_at TooMany location)

-- what a part gives: an entry, or none
abbrev pub entries_of : {X : Type 0} → Result (Option X) StowFault → List X
entries_of (Ok entry) = option_to_list entry
entries_of (Err e) = []

-- The fault that is answered, where memory sufficed, is the one defined.
abbrev pub IsFaultOf : {A : Type 0} → Result A StowFault → StowFault → Type 0
IsFaultOf defined e = e.code ≢ NoMemory → defined ≡ Err e

-- None of the parts of a message has a fault, and these are the entries that they give, in their
-- order.
pub record AreEntries {X P : Type 0} (gives : P → Result (Option X) StowFault) (parts : List P)
    (entries : List X) : Type 0 where
  pub sound : list_all (λ p. is_ok (gives p)) parts ≡ true
  pub each : entries ≡ flat_map (λ p. entries_of (gives p)) parts

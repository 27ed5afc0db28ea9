-- The first fault of a profile, stage by stage: the document; the keys of `ship.toml`, and the
-- elements of its arrays; the tables, file by file; and the fills in their tanks.
use Rattle.std.specs.Prelude.{◌≡◌, ◌⊎◌, ℕ, ◌<◌, ◌≤◌, pos, List, [], ◌∷◌, ◌++◌, length, take}
use Rattle.std.specs.Prelude.{slice_get, Option, Some, None, Result, Ok, Err}
use Rattle.std.specs.Result.{result_err}
use Rattle.toml.specs.Data.{Data, Items, Members, get_member, as_array}
use Rattle.units_core.specs.Outcome.{◌>>=◌}
use Rattle.ship_tables.specs.declared.faults.File.TheVariants as file
use Rattle.ship_tables.specs.declared.faults.TableFault.{TableFault}
use Rattle.ship_tables.specs.Record.{TablesRecord}
use Rattle.ship_tables.specs.Faults.{AreTablesOf, IsFirstFileFault, files_of}
use Rattle.ship_profile.specs.declared.faults.Key.{Key}
use Rattle.ship_profile.specs.declared.faults.Key.TheVariants as key
use Rattle.ship_profile.specs.declared.faults.ProfileFault.{ProfileFault}
use Rattle.ship_profile.specs.declared.faults.ProfileFault.TheVariants.{BadToml, MissingKey, BadKey}
use Rattle.ship_profile.specs.declared.faults.ProfileFault.TheVariants.{OutOfLimits, TooFewRows}
use Rattle.ship_profile.specs.Keys.{name_of, document_of, items_in, number_at}
use Rattle.ship_profile.specs.Record.{Texts, ProfileRecord, fill_in}
use Rattle.ship_profile.specs.Ship.{ShipRecord, extent_of, stations_of, blocks_of, frames_of}
use Rattle.ship_profile.specs.Ship.{downflooding_of, NamedFill, named_fills_of}
use Rattle.ship_profile.specs.TableFaults.{as_profile_fault}

-- A result has one answer: it is good, or it has a fault, and one only.
pub record HasOneAnswer {A : Type 0} (r : Result A ProfileFault) (IsGood : A → Type 0)
    (IsFault : ProfileFault → Type 0) : Type 0 where
  pub sound : (a : A) → IsGood a → r ≡ Ok a
  pub fault : (f : ProfileFault) → IsFault f → r ≡ Err f
  pub either : ((a : A) × IsGood a) ⊎ ((f : ProfileFault) × IsFault f)
  pub not_both : (a : A) (f : ProfileFault) → IsGood a → IsFault f → ⊥

-- Each of these gives its value, after those before it.
pub record AreMadeOf {A B : Type 0} (next : List B → A → Result B ProfileFault) (xs : List A)
    (ys : List B) : Type 0 where
  pub as_many : length ys ≡ length xs
  pub each : (k : ℕ) (x : A) (y : B) → slice_get xs k ≡ Some x → slice_get ys k ≡ Some y
      → next (take k ys) x ≡ Ok y

-- One of these is refused with this fault, and none before it is refused.
pub record IsFirstRefused {A B : Type 0} (next : List B → A → Result B ProfileFault) (xs : List A)
    (f : ProfileFault) : Type 0 where
  pub before : List A
  pub x : A
  pub behind : List A
  pub ys : List B
  pub xs_are : xs ≡ before ++ x ∷ behind
  pub made_before : AreMadeOf next before ys
  pub refused : next ys x ≡ Err f

-- These are the elements of the array at a key.
pub record AreElements {A : Type 0} (key : Key) (least most : ℕ)
    (next : List A → Data → Result A ProfileFault) (d : Data) (xs : List A) : Type 0 where
  pub items : Items
  pub array : as_array d ≡ Some items
  pub few : length (items_in items) ≤ most
  pub made : AreMadeOf next (items_in items) xs
  pub some : least ≤ length xs

-- The value at a key is no array, or has too many elements, or one of them is refused, or it has
-- too few.
abbrev pub IsArrayFault : {A : Type 0} → Key → ℕ → ℕ → (List A → Data → Result A ProfileFault)
    → Data → ProfileFault → Type 0
IsArrayFault {A} key least most next d f =
    ((as_array d ≡ None) × (f ≡ BadKey key))
    ⊎ ((items : Items) × (as_array d ≡ Some items)
    × (((most < length (items_in items)) × (f ≡ OutOfLimits file.Ship 0))
    ⊎ (((length (items_in items) ≤ most) × IsFirstRefused next (items_in items) f)
    ⊎ ((xs : List A) × (length (items_in items) ≤ most) × AreMadeOf next (items_in items) xs
    × (length xs < least) × (f ≡ TooFewRows file.Ship)))))

-- The array is there, with these elements; and the fault of one that isn't there, or has a fault.
abbrev pub AreElementsAt : {A : Type 0} → Key → ℕ → ℕ → (List A → Data → Result A ProfileFault)
    → Members → List A → Type 0
AreElementsAt key least most next ms xs = (d : Data) × (get_member (name_of key) ms ≡ Some d)
    × AreElements key least most next d xs

abbrev pub IsArrayFaultAt : {A : Type 0} → Key → ℕ → ℕ → (List A → Data → Result A ProfileFault)
    → Members → ProfileFault → Type 0
IsArrayFaultAt key least most next ms f =
    ((get_member (name_of key) ms ≡ None) × (f ≡ MissingKey key))
    ⊎ ((d : Data) × (get_member (name_of key) ms ≡ Some d) × IsArrayFault key least most next d f)

-- The elements and the fault of an array that may be missing.
abbrev pub AreOptionalAt : {A : Type 0} → Key → ℕ → (List A → Data → Result A ProfileFault)
    → Members → List A → Type 0
AreOptionalAt key most next ms xs = ((get_member (name_of key) ms ≡ None) × (xs ≡ []))
    ⊎ AreElementsAt key 0 most next ms xs

abbrev pub IsOptionalFaultAt : {A : Type 0} → Key → ℕ → (List A → Data → Result A ProfileFault)
    → Members → ProfileFault → Type 0
IsOptionalFaultAt key most next ms f = (d : Data) × (get_member (name_of key) ms ≡ Some d)
    × IsArrayFault key 0 most next d f

-- the keys in their order
abbrev pub keys : List Key
keys =
    key.Lbp ∷ key.Downflooding ∷ key.DraughtMax ∷ key.TrimMax ∷ key.ListMax ∷ key.ClosingMax
    ∷ key.Stations ∷ key.Blocks ∷ key.Frames ∷ key.Fills
    ∷ []

-- the fault of the value at a key, if it has one; the blocks and the frames are judged by the
-- stations
abbrev pub key_fault : Members → Key → Option ProfileFault
key_fault ms key.Lbp = result_err (number_at key.Lbp (pos 1) (pos 1000000) ms)
key_fault ms key.Downflooding = result_err (downflooding_of ms)
key_fault ms key.DraughtMax = result_err (number_at key.DraughtMax (pos 1) (pos 100000) ms)
key_fault ms key.TrimMax = result_err (number_at key.TrimMax (pos 0) (pos 100000) ms)
key_fault ms key.ListMax = result_err (number_at key.ListMax (pos 0) (pos 10000) ms)
key_fault ms key.ClosingMax = result_err (number_at key.ClosingMax (pos 0) (pos 1000000000) ms)
key_fault ms key.Stations = result_err (stations_of ms)
key_fault ms key.Blocks =
    result_err (stations_of ms >>= (λ stations. blocks_of (extent_of stations) ms))
key_fault ms key.Frames = result_err (stations_of ms >>= (λ stations. frames_of stations ms))
key_fault ms key.Fills = result_err (named_fills_of ms)

-- A key has this fault, and none before it has one.
pub record IsFirstKeyFault (ms : Members) (f : ProfileFault) : Type 0 where
  pub before : List Key
  pub key : Key
  pub behind : List Key
  pub keys_are : keys ≡ before ++ key ∷ behind
  pub good_before : (k : ℕ) (other : Key) → slice_get before k ≡ Some other
      → key_fault ms other ≡ None
  pub fault_is : key_fault ms key ≡ Some f

-- The text is a document that says this of the ship, and has these fills.
pub record IsShip (text : List ℕ) (ship : ShipRecord) (named : List NamedFill) : Type 0 where
  pub members : Members
  pub document : document_of text ≡ Some members
  pub lbp : number_at key.Lbp (pos 1) (pos 1000000) members ≡ Ok ship.lbp
  pub downflooding : downflooding_of members ≡ Ok ship.downflooding
  pub draught_max : number_at key.DraughtMax (pos 1) (pos 100000) members ≡ Ok ship.draught_max
  pub trim_max : number_at key.TrimMax (pos 0) (pos 100000) members ≡ Ok ship.trim_max
  pub list_max : number_at key.ListMax (pos 0) (pos 10000) members ≡ Ok ship.list_max
  pub closing_max : number_at key.ClosingMax (pos 0) (pos 1000000000) members ≡ Ok ship.closing_max
  pub stations : stations_of members ≡ Ok ship.stations
  pub blocks : blocks_of (extent_of ship.stations) members ≡ Ok ship.blocks
  pub frames : frames_of ship.stations members ≡ Ok ship.frames
  pub fills : named_fills_of members ≡ Ok named

-- The texts are those of a profile.
pub record IsProfile (texts : Texts) (p : ProfileRecord) : Type 0 where
  pub named : List NamedFill
  pub ship : IsShip texts.ship p.ship named
  pub tables : AreTablesOf (extent_of p.ship.stations)
      (length p.ship.stations) texts.tables p.tables
  pub fills : AreMadeOf (fill_in p.tables) named p.fills

-- `ship.toml` is no document, or a key of it has this fault.
abbrev pub IsShipFault : List ℕ → ProfileFault → Type 0
IsShipFault text f =
    ((document_of text ≡ None) × (f ≡ BadToml))
    ⊎ ((ms : Members) × (document_of text ≡ Some ms) × IsFirstKeyFault ms f)

-- `ship.toml` is good, and a table has this fault.
pub record IsTablesFault (texts : Texts) (f : ProfileFault) : Type 0 where
  pub read : ShipRecord
  pub named : List NamedFill
  pub ship : IsShip texts.ship read named
  pub table_fault : TableFault
  pub of_tables : IsFirstFileFault
      (files_of (extent_of read.stations) (length read.stations) texts.tables) table_fault
  pub fault_is : f ≡ as_profile_fault table_fault

-- `ship.toml` and the tables are good, and a fill has this fault.
pub record IsFillsFault (texts : Texts) (f : ProfileFault) : Type 0 where
  pub read : ShipRecord
  pub named : List NamedFill
  pub ship : IsShip texts.ship read named
  pub tables : TablesRecord
  pub are_tables : AreTablesOf (extent_of read.stations) (length read.stations) texts.tables tables
  pub of_fills : IsFirstRefused (fill_in tables) named f

-- The fault of texts that are those of no profile.
abbrev pub IsProfileFault : Texts → ProfileFault → Type 0
IsProfileFault texts f = IsShipFault texts.ship f ⊎ (IsTablesFault texts f ⊎ IsFillsFault texts f)

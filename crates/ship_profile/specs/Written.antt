-- What a profile says is what its files say: each number of `ship.toml` is at its key in the
-- document, each station, block, frame and fill in its array at the same place, and each number of
-- the tables is in its column.
use Rattle.std.specs.Prelude.{◌≡◌, codes, ℕ, ℤ, pos, List, [], ◌∷◌, Option, Some, None}
use Rattle.std.specs.Bool.{⊤}
use Rattle.toml.specs.Data.{Data, string, integer, array, table, Items, Members, get_member}
use Rattle.units_core.specs.Bodies.{Mass}
use Rattle.ship_tables.specs.Record as tables
use Rattle.ship_tables.specs.Written as table_files
use Rattle.ship_profile.specs.declared.fills.TankFill.{TankFill}
use Rattle.units_core.specs.declared.frames.Frame.{Frame}
use Rattle.ship_profile.specs.Keys.{document_of, items_in}
use Rattle.ship_profile.specs.Record.{Texts, ProfileRecord}
use Rattle.ship_profile.specs.Ship.{ShipRecord, NamedFill}

-- an integer is at a key
abbrev pub HasNumber : Members → List ℕ → ℤ → Type 0
HasNumber ms name z = get_member name ms ≡ Some (integer z)

-- the lists are of one length, and the relation holds place by place
abbrev pub Pairwise : {A B : Type 0} → (A → B → Type 0) → List A → List B → Type 0
Pairwise R [] [] = ⊤
Pairwise R (x ∷ xs) (y ∷ ys) = R x y × Pairwise R xs ys
Pairwise R _ _ = ⊥

-- an array is at a key, and its elements are related to these one by one
pub record HasArray {A : Type 0} (R : A → Data → Type 0) (ms : Members) (name : List ℕ)
    (xs : List A) : Type 0 where
  pub items : Items
  pub there : get_member name ms ≡ Some (array items)
  pub each : Pairwise R xs (items_in items)

abbrev pub IsNumber : ℤ → Data → Type 0
IsNumber z d = d ≡ integer z

-- a block as a table
pub record IsBlockTable (b : Mass) (d : Data) : Type 0 where
  pub members : Members
  pub is : d ≡ table members
  pub kg : HasNumber members (codes "kg") (pos b.kg)
  pub x : HasNumber members (codes "x_mm") b.place.x
  pub y : HasNumber members (codes "y_mm") b.place.y
  pub z : HasNumber members (codes "z_mm") b.place.z
  pub half : HasNumber members (codes "half_mm") b.place.half

-- a frame as a table
pub record IsFrameTable (f : Frame) (d : Data) : Type 0 where
  pub members : Members
  pub is : d ≡ table members
  pub x : HasNumber members (codes "x_mm") f.x
  pub shear_max : HasNumber members (codes "shear_max_kg") f.shear_max
  pub hog_max : HasNumber members (codes "hog_max_kgmm") f.hog_max
  pub sag_max : HasNumber members (codes "sag_max_kgmm") f.sag_max

-- a fill as a table
pub record IsFillTable (f : NamedFill) (d : Data) : Type 0 where
  pub members : Members
  pub is : d ≡ table members
  pub tank : get_member (codes "tank") members ≡ Some (string f.tank)
  pub kg : HasNumber members (codes "kg") (pos f.kg)

-- the ship is the one of the document
pub record IsShipOf (ms : Members) (s : ShipRecord) : Type 0 where
  pub lbp : HasNumber ms (codes "lbp_mm") s.lbp
  pub downflooding : HasNumber ms (codes "downflooding_deg") (pos s.downflooding)
  pub draught_max : HasNumber ms (codes "draught_max_mm") s.draught_max
  pub trim_max : HasNumber ms (codes "trim_max_mm") s.trim_max
  pub list_max : HasNumber ms (codes "list_max") s.list_max
  pub closing_max : HasNumber ms (codes "closing_max_kg") s.closing_max
  pub stations : HasArray IsNumber ms (codes "stations_mm") s.stations
  pub blocks : HasArray IsBlockTable ms (codes "blocks") s.blocks
  pub frames : HasArray IsFrameTable ms (codes "frames") s.frames

-- the fills of a document: those of the array, and none where the key is missing
abbrev pub AreFillsAt : Members → Option Data → List NamedFill → Type 0
AreFillsAt ms None named = named ≡ []
AreFillsAt ms (Some d) named = HasArray IsFillTable ms (codes "fills") named

-- a fill of the tank of a name
pub record IsFillOf (ts : tables.TablesRecord) (f : TankFill) (n : NamedFill) : Type 0 where
  pub tank : tables.tank_of ts n.tank ≡ Some f.tank
  pub kg : f.kg ≡ n.kg

-- what the texts of the files say of a profile: the document of `ship.toml`, and the tables
pub record IsWritten (texts : Texts) (p : ProfileRecord) : Type 0 where
  pub document : Members
  pub document_is : document_of texts.ship ≡ Some document
  pub ship : IsShipOf document p.ship
  pub named : List NamedFill
  pub named_are : AreFillsAt document (get_member (codes "fills") document) named
  pub fills : Pairwise (IsFillOf p.tables) p.fills named
  pub tables : table_files.IsWritten texts.tables p.tables

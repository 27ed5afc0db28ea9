-- What `ship.toml` says: the ship's length and limits, her stations, the blocks of the light ship,
-- the frames at which loads are judged, and the tanks that are filled. Lengths are in mm, masses in
-- kg.
use Rattle.std.specs.Prelude.{◌≡◌, codes, ℕ, ◌+◌, ◌-◌, ◌≤◌, ◌^◌, ℤ, pos, ◌≤ℤ◌, neg_ℤ, unsigned_abs}
use Rattle.std.specs.Prelude.{int_lt, int_le, Bool, true, List, map, length, slice_get, All}
use Rattle.std.specs.Prelude.{Contains, Option, Some, None, option_map, Result, Ok}
use Rattle.std.specs.List.{list_any}
use Rattle.std.specs.Ordering.{int_eq}
use Rattle.toml.specs.Data.{Data, Members, get_member}
use Rattle.ship_tables.specs.declared.extents.Extent.{Extent}
use Rattle.ship_tables.specs.Extents.{holds}
use Rattle.ship_tables.specs.Record.{IsPlace}
use Rattle.units_core.specs.Bodies.{Mass}
use Rattle.units_core.specs.Interpolation.{at, IsRising, IsWithin}
use Rattle.ship_tables.specs.declared.faults.File.TheVariants as file
use Rattle.ship_profile.specs.declared.faults.Key.TheVariants as key
use Rattle.ship_profile.specs.declared.faults.ProfileFault.{ProfileFault}
use Rattle.ship_profile.specs.declared.faults.ProfileFault.TheVariants.{NotRising, FrameNotStation}
use Rattle.ship_profile.specs.declared.faults.ProfileFault.TheVariants.{OutsideStations}
use Rattle.ship_profile.specs.declared.faults.ProfileFault.TheVariants.{Downflooding}
use Rattle.units_core.specs.declared.frames.Frame.{Frame}
use Rattle.ship_profile.specs.Keys.{number_of, number_in_table, length_in_table, text_in_table}
use Rattle.ship_profile.specs.Keys.{table_of, number_at, elements_at, optional_of, name_of}
use Rattle.units_core.specs.Outcome.{◌>>=◌, demand}

-- from the first station to the last
abbrev pub extent_of : List ℤ → Extent
extent_of stations = record { aft = at stations 0; fore = at stations (length stations - 1) }

-- x follows these where it is above the last of them
abbrev pub is_above : Option ℤ → ℤ → Bool
is_above None x = true
is_above (Some last) x = int_lt last x

-- the last of these
abbrev pub last_of : {A : Type 0} → List A → Option A
last_of xs = slice_get xs (length xs - 1)

-- a station: its place, which is above that of the one before it
abbrev pub station_of : List ℤ → Data → Result ℤ ProfileFault
station_of before d =
    number_of key.Stations (neg_ℤ (pos 1000000)) (pos 1000000) d >>= (λ x.
    demand (NotRising file.Ship 0) (is_above (last_of before) x) x)

-- the stations: 2 to 64
abbrev pub stations_of : Members → Result (List ℤ) ProfileFault
stations_of ms = elements_at key.Stations 2 64 station_of ms

-- the block of the light ship that a table gives: its mass and its place
abbrev pub block_in : Members → Result Mass ProfileFault
block_in ms =
    number_in_table key.Blocks (codes "kg") (pos 1) (pos 1000000000) ms >>= (λ kg.
    length_in_table key.Blocks (codes "x_mm") ms >>= (λ x.
    length_in_table key.Blocks (codes "y_mm") ms >>= (λ y.
    length_in_table key.Blocks (codes "z_mm") ms >>= (λ z.
    number_in_table key.Blocks (codes "half_mm") (pos 0) (pos 1000000) ms >>= (λ half.
    Ok (record {
      kg = unsigned_abs kg;
      place = record { x = x; y = y; z = z; half = half };
      fsm = pos 0;
    }))))))

-- a block: a table, and within the stations; it is named by its number, the first being 1
abbrev pub block_of : Extent → List Mass → Data → Result Mass ProfileFault
block_of extent before d =
    table_of key.Blocks d >>= (λ ms.
    block_in ms >>= (λ b.
    demand (OutsideStations file.Ship (length before + 1)) (holds extent b.place) b))

-- the blocks: 1 to 200
abbrev pub blocks_of : Extent → Members → Result (List Mass) ProfileFault
blocks_of extent ms = elements_at key.Blocks 1 200 (block_of extent) ms

-- the frame that a table gives: its place, and the greatest shear force and bending moments there
abbrev pub frame_in : Members → Result Frame ProfileFault
frame_in ms =
    length_in_table key.Frames (codes "x_mm") ms >>= (λ x.
    number_in_table key.Frames (codes "shear_max_kg") (pos 0) (pos 1000000000) ms >>= (λ shear.
    number_in_table key.Frames (codes "hog_max_kgmm") (pos 0) (pos 1000000000000000) ms >>= (λ hog.
    number_in_table key.Frames (codes "sag_max_kgmm") (pos 0) (pos 1000000000000000) ms >>= (λ sag.
    Ok (record { x = x; shear_max = shear; hog_max = hog; sag_max = sag })))))

-- x is one of these
abbrev pub is_one_of : List ℤ → ℤ → Bool
is_one_of xs x = list_any (λ y. int_eq y x) xs

-- a frame: a table, above the frame before it, and at a station; it is named by its number, the
-- first being 1
abbrev pub frame_of : List ℤ → List Frame → Data → Result Frame ProfileFault
frame_of stations before d =
    table_of key.Frames d >>= (λ ms.
    frame_in ms >>= (λ f.
    demand (NotRising file.Ship 0) (is_above (option_map (λ b. b.x) (last_of before)) f.x) f
    >>= (λ above.
    demand (FrameNotStation (length before + 1)) (is_one_of stations above.x) above)))

-- the frames: 1 to 16
abbrev pub frames_of : List ℤ → Members → Result (List Frame) ProfileFault
frames_of stations ms = elements_at key.Frames 1 16 (frame_of stations) ms

-- the angle of down-flooding in degrees: 0 to 90, and no less than 40
abbrev pub downflooding_of : Members → Result ℕ ProfileFault
downflooding_of ms =
    number_at key.Downflooding (pos 0) (pos 90) ms >>= (λ angle.
    demand (Downflooding (unsigned_abs angle)) (int_le (pos 40) angle) (unsigned_abs angle))

-- The ship's values but for the fills: her length between perpendiculars, the angle of
-- down-flooding in degrees, the greatest draught and the greatest trim either way, the greatest
-- list in ten-thousandths of its tangent, the greatest closing error of the buoyancy in kg, the
-- stations, the blocks and the frames.
pub record ShipRecord : Type 0 where
  pub lbp : ℤ
  pub downflooding : ℕ
  pub draught_max : ℤ
  pub trim_max : ℤ
  pub list_max : ℤ
  pub closing_max : ℤ
  pub stations : List ℤ
  pub blocks : List Mass
  pub frames : List Frame

-- the ship of a document, key by key
abbrev pub ship_of : Members → Result ShipRecord ProfileFault
ship_of ms =
    number_at key.Lbp (pos 1) (pos 1000000) ms >>= (λ lbp.
    downflooding_of ms >>= (λ downflooding.
    number_at key.DraughtMax (pos 1) (pos 100000) ms >>= (λ draught_max.
    number_at key.TrimMax (pos 0) (pos 100000) ms >>= (λ trim_max.
    number_at key.ListMax (pos 0) (pos 10000) ms >>= (λ list_max.
    number_at key.ClosingMax (pos 0) (pos 1000000000) ms >>= (λ closing_max.
    stations_of ms >>= (λ stations.
    blocks_of (extent_of stations) ms >>= (λ blocks.
    frames_of stations ms >>= (λ frames.
    Ok (record {
      lbp = lbp;
      downflooding = downflooding;
      draught_max = draught_max;
      trim_max = trim_max;
      list_max = list_max;
      closing_max = closing_max;
      stations = stations;
      blocks = blocks;
      frames = frames;
    }))))))))))

-- a fill as it is written: the tank's name, and how many kg are in it
pub record NamedFill : Type 0 where
  pub tank : List ℕ
  pub kg : ℕ

-- a fill: a table of the tank's name and the mass
abbrev pub named_fill_of : List NamedFill → Data → Result NamedFill ProfileFault
named_fill_of before d =
    table_of key.Fills d >>= (λ ms.
    text_in_table key.Fills (codes "tank") ms >>= (λ tank.
    number_in_table key.Fills (codes "kg") (pos 0) (pos 1000000000) ms >>= (λ kg.
    Ok (record { tank = tank; kg = unsigned_abs kg }))))

-- the fills: at most 200, and none where the key is missing
abbrev pub named_fills_of : Members → Result (List NamedFill) ProfileFault
named_fills_of ms = optional_of key.Fills 200 named_fill_of (get_member (name_of key.Fills) ms)

-- 2 to 64 stations that rise
pub record AreStations (xs : List ℤ) : Type 0 where
  pub some : 2 ≤ length xs
  pub few : length xs ≤ 64
  pub within : IsWithin (10 ^ 6) xs
  pub rises : IsRising xs

-- a block of the light ship: 1 to 10^9 kg at a place within the stations, with no free surface
pub record IsBlock (extent : Extent) (b : Mass) : Type 0 where
  pub kg_least : 1 ≤ b.kg
  pub kg_most : b.kg ≤ 10 ^ 9
  pub place : IsPlace b.place
  pub inside : holds extent b.place ≡ true
  pub still : b.fsm ≡ pos 0

-- 1 to 200 blocks
pub record AreBlocks (extent : Extent) (bs : List Mass) : Type 0 where
  pub some : 1 ≤ length bs
  pub few : length bs ≤ 200
  pub each : All (IsBlock extent) bs

-- a frame: its limits, at one of the stations
pub record IsFrame (stations : List ℤ) (f : Frame) : Type 0 where
  pub shear_least : pos 0 ≤ℤ f.shear_max
  pub shear_most : f.shear_max ≤ℤ pos (10 ^ 9)
  pub hog_least : pos 0 ≤ℤ f.hog_max
  pub hog_most : f.hog_max ≤ℤ pos (10 ^ 15)
  pub sag_least : pos 0 ≤ℤ f.sag_max
  pub sag_most : f.sag_max ≤ℤ pos (10 ^ 15)
  pub station : Contains stations f.x

-- 1 to 16 frames that rise
pub record AreFrames (stations : List ℤ) (fs : List Frame) : Type 0 where
  pub some : 1 ≤ length fs
  pub few : length fs ≤ 16
  pub each : All (IsFrame stations) fs
  pub rises : IsRising (map (λ f. f.x) fs)

-- each number within its limits
pub record IsSoundShip (s : ShipRecord) : Type 0 where
  pub lbp_least : pos 1 ≤ℤ s.lbp
  pub lbp_most : s.lbp ≤ℤ pos (10 ^ 6)
  pub downflooding_least : 40 ≤ s.downflooding
  pub downflooding_most : s.downflooding ≤ 90
  pub draught_least : pos 1 ≤ℤ s.draught_max
  pub draught_most : s.draught_max ≤ℤ pos (10 ^ 5)
  pub trim_least : pos 0 ≤ℤ s.trim_max
  pub trim_most : s.trim_max ≤ℤ pos (10 ^ 5)
  pub list_least : pos 0 ≤ℤ s.list_max
  pub list_most : s.list_max ≤ℤ pos (10 ^ 4)
  pub closing_least : pos 0 ≤ℤ s.closing_max
  pub closing_most : s.closing_max ≤ℤ pos (10 ^ 9)
  pub stations : AreStations s.stations
  pub blocks : AreBlocks (extent_of s.stations) s.blocks
  pub frames : AreFrames s.stations s.frames

-- a fill as written is of at most 10^9 kg
abbrev pub IsNamedFill : NamedFill → Type 0
IsNamedFill f = f.kg ≤ 10 ^ 9

pub record AreNamedFills (fs : List NamedFill) : Type 0 where
  pub few : length fs ≤ 200
  pub each : All IsNamedFill fs

-- What is read keeps what it should: each number is within its limits, stations and frames rise, blocks stand within the stations.
use Rattle.std.proofs.Common.{◌≡◌, ◌∙◌, codes, ℕ, ◌+◌, ◌≤◌, ◌^◌, nat_le, true, ℤ, pos, neg_ℤ, ◌≤ℤ◌, unsigned_abs, List, [], ◌∷◌, ◌++◌, length, map, Option, None, Some, Result, Ok, option_map, refl, arith, ap}
use Rattle.std.proofs.lemmas.Bool.Decides.{nat_tests}
use Rattle.std.proofs.lemmas.Int.{ints}
use Rattle.std.proofs.lemmas.List.{map-append}
use Rattle.std.specs.Bool.{⊤}
use Rattle.std.specs.List.{AllByRecursion}
use Rattle.toml.specs.Data.{Data, Members, get_member, as_array, as_integer}
use Rattle.units_core.specs.Bodies.{Mass}
use Rattle.units_core.specs.Interpolation.{IsRising}
use Rattle.ship_tables.specs.declared.extents.Extent.{Extent}
use Rattle.ship_tables.specs.Extents.{holds}
use Rattle.ship_tables.specs.Record.{IsPlace}
use Rattle.ship_tables.specs.declared.faults.File.TheVariants as file
use Rattle.ship_profile.specs.declared.faults.Key.{Key}
use Rattle.ship_profile.specs.declared.faults.Key.TheVariants as key
use Rattle.ship_profile.specs.declared.faults.ProfileFault.{ProfileFault}
use Rattle.ship_profile.specs.declared.faults.ProfileFault.TheVariants.{MissingKey, BadKey, OutOfLimits, NotRising, FrameNotStation, OutsideStations, TooFewRows}
use Rattle.units_core.specs.declared.frames.Frame.{Frame}
use Rattle.ship_profile.specs.Keys.{items_in, name_of, number_of, number_in_table, length_in_table, text_in_table, table_of, elements_of, elements_at, optional_of}
use Rattle.units_core.specs.Outcome.{or_fault, demand, within}
use Rattle.ship_profile.specs.Outcome.{one_by_one}
use Rattle.ship_profile.specs.Ship.{is_above, last_of, is_one_of, station_of, stations_of, block_in, block_of, blocks_of, frame_in, frame_of, frames_of, NamedFill, named_fill_of, AreStations, IsBlock, AreBlocks, IsFrame, AreFrames, IsNamedFill, AreNamedFills}
use Rattle.ship_tables.proofs.SoundLemmas.{all-push}
use Rattle.ship_profile.proofs.ListLemmas.{each_at, all_of, rising-push, last-map, size, sizes_within, one_of}
use Rattle.units_core.proofs.OutcomeLemmas.{went_on, same_ok, passed, within-limits}
use Rattle.ship_profile.proofs.OutcomeLemmas.{one_by_one-keeps, one_by_one-length}

number_of-limits : (key : Key) (low high : ℤ) (d : Data) (z : ℤ) → number_of key low high d ≡ Ok z → (low ≤ℤ z) × (z ≤ℤ high)
number_of-limits key low high d z e =
    let number = went_on (or_fault (BadKey key) (as_integer d)) (within (OutOfLimits file.Ship 0) low high) z e in
    let limits = within-limits (OutOfLimits file.Ship 0) low high number.0 z number.2 in
    (limits.1, limits.2)

pub number-limits : (key : Key) (name : List ℕ) (low high : ℤ) (ms : Members) (z : ℤ) → number_in_table key name low high ms ≡ Ok z → (low ≤ℤ z) × (z ≤ℤ high)
number-limits key name low high ms z e =
    let found = went_on (or_fault (MissingKey key) (get_member name ms)) (number_of key low high) z e in
    number_of-limits key low high found.0 z found.2

-- the elements of an array: no more than there may be, no fewer, and what is kept from one to the next
module _ {A : Type 0} (P : List A → Type 0) (key : Key) (least most : ℕ) (next : List A → Data → Result A ProfileFault)
    (keeps : (done : List A) (d : Data) (y : A) → P done → next done d ≡ Ok y → P (done ++ y ∷ [])) (none : P []) where
  elements-keep : (d : Data) (all : List A) → elements_of key least most next d ≡ Ok all → (least ≤ length all) × (length all ≤ most) × P all
  elements-keep d all e =
      let array = went_on (or_fault (BadKey key) (as_array d)) _ all e in
      let few = went_on (demand (OutOfLimits file.Ship 0) (nat_le (length (items_in array.0)) most) (items_in array.0)) _ all array.2 in
      let test = passed (OutOfLimits file.Ship 0) (nat_le (length (items_in array.0)) most) (items_in array.0) few.0 few.1 in
      let read = went_on (one_by_one next [] few.0) _ all few.2 in
      let enough = passed (TooFewRows file.Ship) (nat_le least (length read.0)) read.0 all read.2 in
      let count = one_by_one-length next [] few.0 read.0 read.1 in
      let same = ap length test.1 in
      rw (← enough.1)
      (grind (arith, nat_tests, enough.0), grind (arith, nat_tests, test.0, count, same), one_by_one-keeps next P (λ x. ⊤) (λ done x y p q h. keeps done x y p h) [] few.0 read.0 none (all_of few.0) read.1)

  elements_at-keep : (ms : Members) (all : List A) → elements_at key least most next ms ≡ Ok all → (least ≤ length all) × (length all ≤ most) × P all
  elements_at-keep ms all e = let found = went_on (or_fault (MissingKey key) (get_member (name_of key) ms)) _ all e in elements-keep found.0 all found.2

-- stations
AreRising : List ℤ → Type 0
AreRising zs = AllByRecursion (λ z. unsigned_abs z ≤ 10 ^ 6) zs × IsRising zs

station-keeps : (done : List ℤ) (d : Data) (z : ℤ) → AreRising done → station_of done d ≡ Ok z → AreRising (done ++ z ∷ [])
unfolding AreRising
station-keeps done d z h e =
    let number = went_on (number_of key.Stations (neg_ℤ (pos 1000000)) (pos 1000000) d) _ z e in
    let above = passed (NotRising file.Ship 0) (is_above (last_of done) number.0) number.0 z number.2 in
    let limits = number_of-limits key.Stations (neg_ℤ (pos 1000000)) (pos 1000000) d number.0 number.1 in
    rw (← above.1) (all-push (λ z. unsigned_abs z ≤ 10 ^ 6) done number.0 h.0 (size number.0 1000000 limits.0 limits.1), rising-push done number.0 h.1 above.0)

no_stations : AreRising []
unfolding AreRising
no_stations = (tt, λ i inside. absurd (omega arith))

pub stations-sound : (ms : Members) (zs : List ℤ) → stations_of ms ≡ Ok zs → AreStations zs
unfolding AreRising
stations-sound ms zs e =
    let all = elements_at-keep AreRising key.Stations 2 64 station_of station-keeps no_stations ms zs e in
    record { some = all.0; few = all.1; within = sizes_within (10 ^ 6) zs all.2.0; rises = all.2.1 }

-- blocks
mass_of : ℤ → ℤ → ℤ → ℤ → ℤ → Mass
mass_of kg x y z half = record { kg = unsigned_abs kg; place = record { x = x; y = y; z = z; half = half }; fsm = pos 0 }

-- a block's numbers
record IsBlockInLimits (b : Mass) : Type 0 where
  kg_least : 1 ≤ b.kg
  kg_most : b.kg ≤ 10 ^ 9
  place : IsPlace b.place
  still : b.fsm ≡ pos 0

mass-limits : (kg x y z half : ℤ) → (pos 1 ≤ℤ kg) × (kg ≤ℤ pos 1000000000) → (neg_ℤ (pos 1000000) ≤ℤ x) × (x ≤ℤ pos 1000000)
    → (neg_ℤ (pos 1000000) ≤ℤ y) × (y ≤ℤ pos 1000000) → (neg_ℤ (pos 1000000) ≤ℤ z) × (z ≤ℤ pos 1000000) → (pos 0 ≤ℤ half) × (half ≤ℤ pos 1000000)
    → IsBlockInLimits (mass_of kg x y z half)
unfolding mass_of
mass-limits kg x y z half k a b c h = record {
  kg_least = least kg k.0;
  kg_most = above kg (pos 1) 1000000000 (omega (arith, ints)) k.0 k.1;
  place = record {
    x_within = size x 1000000 a.0 a.1;
    y_within = size y 1000000 b.0 b.1;
    z_within = size z 1000000 c.0 c.1;
    half_least = h.0;
    half_within = above half (pos 0) 1000000 (omega (arith, ints)) h.0 h.1;
  };
  still = refl;
}
  where
    least : (n : ℤ) → pos 1 ≤ℤ n → 1 ≤ unsigned_abs n
    least n h = omega (arith, ints)

    above : (n low : ℤ) (m : ℕ) → pos 0 ≤ℤ low → low ≤ℤ n → n ≤ℤ pos m → unsigned_abs n ≤ m
    above n low m a b c = omega (arith, ints)

block_in-limits : (ms : Members) (b : Mass) → block_in ms ≡ Ok b → IsBlockInLimits b
unfolding mass_of
block_in-limits ms b e =
    let kg = went_on (number_in_table key.Blocks (codes "kg") (pos 1) (pos 1000000000) ms) _ b e in
    let x = went_on (length_in_table key.Blocks (codes "x_mm") ms) _ b kg.2 in
    let y = went_on (length_in_table key.Blocks (codes "y_mm") ms) _ b x.2 in
    let z = went_on (length_in_table key.Blocks (codes "z_mm") ms) _ b y.2 in
    let half = went_on (number_in_table key.Blocks (codes "half_mm") (pos 0) (pos 1000000) ms) _ b z.2 in
    rw (← same_ok (mass_of kg.0 x.0 y.0 z.0 half.0) b half.2)
    (mass-limits kg.0 x.0 y.0 z.0 half.0
    (number-limits key.Blocks (codes "kg") (pos 1) (pos 1000000000) ms kg.0 kg.1)
    (number-limits key.Blocks (codes "x_mm") (neg_ℤ (pos 1000000)) (pos 1000000) ms x.0 x.1)
    (number-limits key.Blocks (codes "y_mm") (neg_ℤ (pos 1000000)) (pos 1000000) ms y.0 y.1)
    (number-limits key.Blocks (codes "z_mm") (neg_ℤ (pos 1000000)) (pos 1000000) ms z.0 z.1)
    (number-limits key.Blocks (codes "half_mm") (pos 0) (pos 1000000) ms half.0 half.1))

block_of-sound : (extent : Extent) (before : List Mass) (d : Data) (b : Mass) → block_of extent before d ≡ Ok b → IsBlock extent b
block_of-sound extent before d b e =
    let t = went_on (table_of key.Blocks d) _ b e in
    let block = went_on (block_in t.0) _ b t.2 in
    let inside = passed (OutsideStations file.Ship (length before + 1)) (holds extent block.0.place) block.0 b block.2 in
    let limits = block_in-limits t.0 block.0 block.1 in
    rw (← inside.1) (record { kg_least = limits.kg_least; kg_most = limits.kg_most; place = limits.place; inside = inside.0; still = limits.still })

pub blocks-sound : (extent : Extent) (ms : Members) (bs : List Mass) → blocks_of extent ms ≡ Ok bs → AreBlocks extent bs
blocks-sound extent ms bs e =
    let all = elements_at-keep (AllByRecursion (IsBlock extent)) key.Blocks 1 200 (block_of extent)
    (λ done d b h f. all-push (IsBlock extent) done b h (block_of-sound extent done d b f)) tt ms bs e in
    record { some = all.0; few = all.1; each = each_at (IsBlock extent) bs all.2 }

-- frames
a_frame : ℤ → ℤ → ℤ → ℤ → Frame
a_frame x shear hog sag = record { x = x; shear_max = shear; hog_max = hog; sag_max = sag }

-- a frame's numbers
record IsFrameInLimits (f : Frame) : Type 0 where
  shear : (pos 0 ≤ℤ f.shear_max) × (f.shear_max ≤ℤ pos 1000000000)
  hog : (pos 0 ≤ℤ f.hog_max) × (f.hog_max ≤ℤ pos 1000000000000000)
  sag : (pos 0 ≤ℤ f.sag_max) × (f.sag_max ≤ℤ pos 1000000000000000)

frame_in-limits : (ms : Members) (f : Frame) → frame_in ms ≡ Ok f → IsFrameInLimits f
unfolding a_frame
frame_in-limits ms f e =
    let x = went_on (length_in_table key.Frames (codes "x_mm") ms) _ f e in
    let shear = went_on (number_in_table key.Frames (codes "shear_max_kg") (pos 0) (pos 1000000000) ms) _ f x.2 in
    let hog = went_on (number_in_table key.Frames (codes "hog_max_kgmm") (pos 0) (pos 1000000000000000) ms) _ f shear.2 in
    let sag = went_on (number_in_table key.Frames (codes "sag_max_kgmm") (pos 0) (pos 1000000000000000) ms) _ f hog.2 in
    rw (← same_ok (a_frame x.0 shear.0 hog.0 sag.0) f sag.2)
    (record {
      shear = number-limits key.Frames (codes "shear_max_kg") (pos 0) (pos 1000000000) ms shear.0 shear.1;
      hog = number-limits key.Frames (codes "hog_max_kgmm") (pos 0) (pos 1000000000000000) ms hog.0 hog.1;
      sag = number-limits key.Frames (codes "sag_max_kgmm") (pos 0) (pos 1000000000000000) ms sag.0 sag.1;
    })

record AreGoodFrames (stations : List ℤ) (fs : List Frame) : Type 0 where
  each : AllByRecursion (IsFrame stations) fs
  rises : IsRising (map (λ f. f.x) fs)

frame-keeps : (stations : List ℤ) (done : List Frame) (d : Data) (f : Frame) → AreGoodFrames stations done → frame_of stations done d ≡ Ok f → AreGoodFrames stations (done ++ f ∷ [])
frame-keeps stations done d f h e =
    let last = option_map (λ (b : Frame). b.x) (last_of done) in
    let t = went_on (table_of key.Frames d) _ f e in
    let frame = went_on (frame_in t.0) _ f t.2 in
    let risen = went_on (demand (NotRising file.Ship 0) (is_above last frame.0.x) frame.0) _ f frame.2 in
    let above = passed (NotRising file.Ship 0) (is_above last frame.0.x) frame.0 risen.0 risen.1 in
    let stands = passed (FrameNotStation (length done + 1)) (is_one_of stations risen.0.x) risen.0 f risen.2 in
    let same : frame.0 ≡ f = above.1 ∙ stands.1 in
    let limits = frame_in-limits t.0 frame.0 frame.1 in
    let test : is_above (last_of (map (λ (b : Frame). b.x) done)) frame.0.x ≡ true = rw (← last-map (λ (b : Frame). b.x) done) above.0 in
    let station : is_one_of stations frame.0.x ≡ true = rw above.1 stands.0 in
    rw (← same)
    (record {
      each = all-push (IsFrame stations) done frame.0 h.each (record {
        shear_least = limits.shear.0;
        shear_most = limits.shear.1;
        hog_least = limits.hog.0;
        hog_most = limits.hog.1;
        sag_least = limits.sag.0;
        sag_most = limits.sag.1;
        station = one_of stations frame.0.x station;
      });
      rises = rw (map-append (λ (b : Frame). b.x) done (frame.0 ∷ [])) (rising-push (map (λ (b : Frame). b.x) done) frame.0.x h.rises test);
    })

pub frames-sound : (stations : List ℤ) (ms : Members) (fs : List Frame) → frames_of stations ms ≡ Ok fs → AreFrames stations fs
frames-sound stations ms fs e =
    let all = elements_at-keep (AreGoodFrames stations) key.Frames 1 16 (frame_of stations) (frame-keeps stations)
    (record { each = tt; rises = λ i inside. absurd (omega arith) }) ms fs e in
    record { some = all.0; few = all.1; each = each_at (IsFrame stations) fs all.2.each; rises = all.2.rises }

-- fills as written
named_fill-sound : (before : List NamedFill) (d : Data) (f : NamedFill) → named_fill_of before d ≡ Ok f → IsNamedFill f
named_fill-sound before d f e =
    let t = went_on (table_of key.Fills d) _ f e in
    let tank = went_on (text_in_table key.Fills (codes "tank") t.0) _ f t.2 in
    let kg = went_on (number_in_table key.Fills (codes "kg") (pos 0) (pos 1000000000) t.0) _ f tank.2 in
    let limits = number-limits key.Fills (codes "kg") (pos 0) (pos 1000000000) t.0 kg.0 kg.1 in
    rw (← same_ok (record { tank = tank.0; kg = unsigned_abs kg.0 }) f kg.2) (most kg.0 limits.0 limits.1)
  where
    most : (n : ℤ) → pos 0 ≤ℤ n → n ≤ℤ pos 1000000000 → unsigned_abs n ≤ 10 ^ 9
    most n a b = omega (arith, ints)

pub optional-sound : (o : Option Data) (fs : List NamedFill) → optional_of key.Fills 200 named_fill_of o ≡ Ok fs → AreNamedFills fs
optional-sound None fs e = rw (← same_ok [] fs e) (record { few = omega arith; each = each_at IsNamedFill [] tt })
optional-sound (Some d) fs e =
    let all = elements-keep (AllByRecursion IsNamedFill) key.Fills 0 200 named_fill_of
    (λ done x f h g. all-push IsNamedFill done f h (named_fill-sound done x f g)) tt d fs e in
    record { few = all.1; each = each_at IsNamedFill fs all.2 }

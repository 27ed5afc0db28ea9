-- What was read is what the document and the files of the tables say.
use Rattle.std.proofs.Common.{◌≡◌, ◌∙◌, codes, ℕ, ◌+◌, nat_le, ℤ, pos, neg_ℤ, ◌≤ℤ◌, unsigned_abs, not, int_le, List, [], ◌∷◌, ◌++◌, length, append_assoc, Option, None, Some, Result, Ok, Err, option_map, refl, arith, ap, sym}
use Rattle.std.proofs.lemmas.Int.{ints}
use Rattle.std.proofs.lemmas.List.{append-nil}
use Rattle.toml.specs.Data.{Data, string, integer, float, boolean, datetime, array, table, Items, Members, get_member, as_integer, as_str, as_array, as_table}
use Rattle.units_core.specs.Bodies.{Mass}
use Rattle.ship_tables.specs.declared.extents.Extent.{Extent}
use Rattle.ship_tables.specs.Extents.{holds}
use Rattle.ship_tables.specs.declared.faults.TableFault.{TableFault}
use Rattle.ship_tables.specs.Record.{TablesRecord, tank_of, tables_of}
use Rattle.ship_tables.proofs.WrittenLemmas.{tables-written}
use Rattle.ship_tables.specs.declared.faults.File.TheVariants as file
use Rattle.ship_profile.specs.declared.faults.Key.{Key}
use Rattle.ship_profile.specs.declared.faults.Key.TheVariants as key
use Rattle.ship_profile.specs.declared.faults.ProfileFault.{ProfileFault}
use Rattle.ship_profile.specs.declared.faults.ProfileFault.TheVariants.{BadToml, MissingKey, BadKey, OutOfLimits, NotRising, FrameNotStation, OutsideStations, Downflooding, UnknownTank, TooFewRows}
use Rattle.ship_profile.specs.declared.fills.TankFill.{TankFill}
use Rattle.units_core.specs.declared.frames.Frame.{Frame}
use Rattle.ship_profile.specs.Keys.{document_of, document_in, items_in, name_of, number_of, number_in_table, length_in_table, text_in_table, table_of, number_at, elements_of, elements_at, optional_of}
use Rattle.units_core.specs.Outcome.{or_fault, demand, within}
use Rattle.ship_profile.specs.Outcome.{one_by_one}
use Rattle.ship_profile.specs.Record.{Texts, ProfileRecord, from_tables, tables_in, is_filled, fill_in, fills_in}
use Rattle.ship_profile.specs.Ship.{ShipRecord, extent_of, is_above, last_of, is_one_of, station_of, stations_of, block_in, block_of, blocks_of, frame_in, frame_of, frames_of, downflooding_of, ship_of, NamedFill, named_fill_of, named_fills_of}
use Rattle.ship_profile.specs.Written.{HasNumber, Pairwise, HasArray, IsNumber, IsBlockTable, IsFrameTable, IsFillTable, IsShipOf, AreFillsAt, IsFillOf, IsWritten}
use Rattle.ship_profile.proofs.MeaningLemmas.{number-limits}
use Rattle.units_core.proofs.OutcomeLemmas.{went_on, same_ok, was_there, passed, within-limits}

is_integer : (d : Data) (z : ℤ) → as_integer d ≡ Some z → d ≡ integer z
is_integer (integer y) z e = cc
is_integer (string s) z e = cc
is_integer (float x) z e = cc
is_integer (boolean b) z e = cc
is_integer (datetime t) z e = cc
is_integer (array ds) z e = cc
is_integer (table ms) z e = cc

is_string : (d : Data) (s : List ℕ) → as_str d ≡ Some s → d ≡ string s
is_string (integer y) s e = cc
is_string (string t) s e = cc
is_string (float x) s e = cc
is_string (boolean b) s e = cc
is_string (datetime t) s e = cc
is_string (array ds) s e = cc
is_string (table ms) s e = cc

is_array : (d : Data) (ds : Items) → as_array d ≡ Some ds → d ≡ array ds
is_array (integer y) ds e = cc
is_array (string s) ds e = cc
is_array (float x) ds e = cc
is_array (boolean b) ds e = cc
is_array (datetime t) ds e = cc
is_array (array es) ds e = cc
is_array (table ms) ds e = cc

is_table : (d : Data) (ms : Members) → as_table d ≡ Some ms → d ≡ table ms
is_table (integer y) ms e = cc
is_table (string s) ms e = cc
is_table (float x) ms e = cc
is_table (boolean b) ms e = cc
is_table (datetime t) ms e = cc
is_table (array es) ms e = cc
is_table (table ns) ms e = cc

-- a number, in an array and at a key
number-is : (key : Key) (low high : ℤ) (d : Data) (z : ℤ) → number_of key low high d ≡ Ok z → d ≡ integer z
number-is key low high d z e =
    let number = went_on (or_fault (BadKey key) (as_integer d)) (within (OutOfLimits file.Ship 0) low high) z e in
    let there = was_there (BadKey key) (as_integer d) number.0 number.1 in
    let same = (within-limits (OutOfLimits file.Ship 0) low high number.0 z number.2).0 in
    is_integer d number.0 there ∙ ap integer same

number-has : (key : Key) (name : List ℕ) (low high : ℤ) (ms : Members) (z : ℤ) → number_in_table key name low high ms ≡ Ok z → HasNumber ms name z
number-has key name low high ms z e =
    let found = went_on (or_fault (MissingKey key) (get_member name ms)) (number_of key low high) z e in
    was_there (MissingKey key) (get_member name ms) found.0 found.1 ∙ ap Some (number-is key low high found.0 z found.2)

-- a number that isn't below 0 is its size
natural : (z low : ℤ) → pos 0 ≤ℤ low → low ≤ℤ z → z ≡ pos (unsigned_abs z)
natural z low h l = omega (arith, ints)

natural-has : (key : Key) (name : List ℕ) (low high : ℤ) (ms : Members) (z : ℤ) → pos 0 ≤ℤ low → number_in_table key name low high ms ≡ Ok z → HasNumber ms name (pos (unsigned_abs z))
natural-has key name low high ms z h e = number-has key name low high ms z e ∙ ap (λ n. Some (integer n)) (natural z low h (number-limits key name low high ms z e).0)

text-has : (key : Key) (name : List ℕ) (ms : Members) (s : List ℕ) → text_in_table key name ms ≡ Ok s → get_member name ms ≡ Some (string s)
text-has key name ms s e =
    let found = went_on (or_fault (MissingKey key) (get_member name ms)) (λ d. or_fault (BadKey key) (as_str d)) s e in
    was_there (MissingKey key) (get_member name ms) found.0 found.1 ∙ ap Some (is_string found.0 s (was_there (BadKey key) (as_str found.0) s found.2))

module _ {A B : Type 0} (R : B → A → Type 0) (next : List B → A → Result B ProfileFault) (relates : (done : List B) (x : A) (y : B) → next done x ≡ Ok y → R y x) where
  -- those that are read after some are related to what they were read of
  pub related : (done : List B) (xs : List A) (all : List B) → one_by_one next done xs ≡ Ok all → (ys : List B) × (all ≡ done ++ ys) × Pairwise R ys xs
  related done [] all e = ([], sym (same_ok done all e) ∙ sym (append-nil done), tt)
  related done (x ∷ xs) all e =
      let one = went_on (next done x) (λ y. one_by_one next (done ++ y ∷ []) xs) all e in
      let rest = related (done ++ one.0 ∷ []) xs all one.2 in
      (one.0 ∷ rest.0, rest.1 ∙ append_assoc done (one.0 ∷ []) rest.0, (relates done x one.0 one.1, rest.2))

  pub all-related : (xs : List A) (all : List B) → one_by_one next [] xs ≡ Ok all → Pairwise R all xs
  all-related xs all e = let r = related [] xs all e in rw r.1 r.2

same_pairs : {A B : Type 0} (R : A → B → Type 0) (xs ys : List A) (ds es : List B) → xs ≡ ys → ds ≡ es → Pairwise R xs es → Pairwise R ys ds
same_pairs R xs ys ds es x d h = rw (← x, d) h

module _ {A : Type 0} (R : A → Data → Type 0) (key : Key) (least most : ℕ) (next : List A → Data → Result A ProfileFault)
    (relates : (done : List A) (d : Data) (y : A) → next done d ≡ Ok y → R y d) where
  elements-related : (d : Data) (all : List A) → elements_of key least most next d ≡ Ok all → (ds : Items) × (d ≡ array ds) × Pairwise R all (items_in ds)
  elements-related d all e =
      let found = went_on (or_fault (BadKey key) (as_array d)) _ all e in
      let few = went_on (demand (OutOfLimits file.Ship 0) (nat_le (length (items_in found.0)) most) (items_in found.0)) _ all found.2 in
      let test = passed (OutOfLimits file.Ship 0) (nat_le (length (items_in found.0)) most) (items_in found.0) few.0 few.1 in
      let read = went_on (one_by_one next [] few.0) _ all few.2 in
      let enough = passed (TooFewRows file.Ship) (nat_le least (length read.0)) read.0 all read.2 in
      let pairs = all-related R next relates few.0 read.0 read.1 in
      (found.0, is_array d found.0 (was_there (BadKey key) (as_array d) found.0 found.1), same_pairs R read.0 all (items_in found.0) few.0 enough.1 test.1 pairs)

  elements-has : (ms : Members) (all : List A) → elements_at key least most next ms ≡ Ok all → HasArray R ms (name_of key) all
  elements-has ms all e =
      let found = went_on (or_fault (MissingKey key) (get_member (name_of key) ms)) _ all e in
      let elements = elements-related found.0 all found.2 in
      record {
        items = elements.0;
        there = was_there (MissingKey key) (get_member (name_of key) ms) found.0 found.1 ∙ ap Some elements.1;
        each = elements.2;
      }

-- stations
station-is : (before : List ℤ) (d : Data) (z : ℤ) → station_of before d ≡ Ok z → IsNumber z d
station-is before d z e =
    let number = went_on (number_of key.Stations (neg_ℤ (pos 1000000)) (pos 1000000) d) _ z e in
    let above = passed (NotRising file.Ship 0) (is_above (last_of before) number.0) number.0 z number.2 in
    number-is key.Stations (neg_ℤ (pos 1000000)) (pos 1000000) d number.0 number.1 ∙ ap integer above.1

table-is : (key : Key) (d : Data) (ms : Members) → table_of key d ≡ Ok ms → d ≡ table ms
table-is key d ms e = is_table d ms (was_there (BadKey key) (as_table d) ms e)

-- blocks
block-is : (extent : Extent) (before : List Mass) (d : Data) (b : Mass) → block_of extent before d ≡ Ok b → IsBlockTable b d
block-is extent before d b e =
    let t = went_on (table_of key.Blocks d) _ b e in
    let block = went_on (block_in t.0) _ b t.2 in
    let inside = passed (OutsideStations file.Ship (length before + 1)) (holds extent block.0.place) block.0 b block.2 in
    let kg = went_on (number_in_table key.Blocks (codes "kg") (pos 1) (pos 1000000000) t.0) _ block.0 block.1 in
    let x = went_on (length_in_table key.Blocks (codes "x_mm") t.0) _ block.0 kg.2 in
    let y = went_on (length_in_table key.Blocks (codes "y_mm") t.0) _ block.0 x.2 in
    let z = went_on (length_in_table key.Blocks (codes "z_mm") t.0) _ block.0 y.2 in
    let half = went_on (number_in_table key.Blocks (codes "half_mm") (pos 0) (pos 1000000) t.0) _ block.0 z.2 in
    let same = same_ok (record { kg = unsigned_abs kg.0; place = record { x = x.0; y = y.0; z = z.0; half = half.0 }; fsm = pos 0 }) block.0 half.2 in
    rw (← inside.1, ← same)
    (record {
      members = t.0;
      is = table-is key.Blocks d t.0 t.1;
      kg = natural-has key.Blocks (codes "kg") (pos 1) (pos 1000000000) t.0 kg.0 (omega (arith, ints)) kg.1;
      x = number-has key.Blocks (codes "x_mm") (neg_ℤ (pos 1000000)) (pos 1000000) t.0 x.0 x.1;
      y = number-has key.Blocks (codes "y_mm") (neg_ℤ (pos 1000000)) (pos 1000000) t.0 y.0 y.1;
      z = number-has key.Blocks (codes "z_mm") (neg_ℤ (pos 1000000)) (pos 1000000) t.0 z.0 z.1;
      half = number-has key.Blocks (codes "half_mm") (pos 0) (pos 1000000) t.0 half.0 half.1;
    })

-- frames
frame-is : (stations : List ℤ) (before : List Frame) (d : Data) (f : Frame) → frame_of stations before d ≡ Ok f → IsFrameTable f d
frame-is stations before d f e =
    let last = option_map (λ (b : Frame). b.x) (last_of before) in
    let t = went_on (table_of key.Frames d) _ f e in
    let frame = went_on (frame_in t.0) _ f t.2 in
    let risen = went_on (demand (NotRising file.Ship 0) (is_above last frame.0.x) frame.0) _ f frame.2 in
    let above = passed (NotRising file.Ship 0) (is_above last frame.0.x) frame.0 risen.0 risen.1 in
    let stands = passed (FrameNotStation (length before + 1)) (is_one_of stations risen.0.x) risen.0 f risen.2 in
    let x = went_on (length_in_table key.Frames (codes "x_mm") t.0) _ frame.0 frame.1 in
    let shear = went_on (number_in_table key.Frames (codes "shear_max_kg") (pos 0) (pos 1000000000) t.0) _ frame.0 x.2 in
    let hog = went_on (number_in_table key.Frames (codes "hog_max_kgmm") (pos 0) (pos 1000000000000000) t.0) _ frame.0 shear.2 in
    let sag = went_on (number_in_table key.Frames (codes "sag_max_kgmm") (pos 0) (pos 1000000000000000) t.0) _ frame.0 hog.2 in
    let same = same_ok (record { x = x.0; shear_max = shear.0; hog_max = hog.0; sag_max = sag.0 }) frame.0 sag.2 in
    rw (← stands.1, ← above.1, ← same)
    (record {
      members = t.0;
      is = table-is key.Frames d t.0 t.1;
      x = number-has key.Frames (codes "x_mm") (neg_ℤ (pos 1000000)) (pos 1000000) t.0 x.0 x.1;
      shear_max = number-has key.Frames (codes "shear_max_kg") (pos 0) (pos 1000000000) t.0 shear.0 shear.1;
      hog_max = number-has key.Frames (codes "hog_max_kgmm") (pos 0) (pos 1000000000000000) t.0 hog.0 hog.1;
      sag_max = number-has key.Frames (codes "sag_max_kgmm") (pos 0) (pos 1000000000000000) t.0 sag.0 sag.1;
    })

-- fills
fill-is : (before : List NamedFill) (d : Data) (f : NamedFill) → named_fill_of before d ≡ Ok f → IsFillTable f d
fill-is before d f e =
    let t = went_on (table_of key.Fills d) _ f e in
    let tank = went_on (text_in_table key.Fills (codes "tank") t.0) _ f t.2 in
    let kg = went_on (number_in_table key.Fills (codes "kg") (pos 0) (pos 1000000000) t.0) _ f tank.2 in
    rw (← same_ok (record { tank = tank.0; kg = unsigned_abs kg.0 }) f kg.2)
    (record {
      members = t.0;
      is = table-is key.Fills d t.0 t.1;
      tank = text-has key.Fills (codes "tank") t.0 tank.0 tank.1;
      kg = natural-has key.Fills (codes "kg") (pos 0) (pos 1000000000) t.0 kg.0 (omega (arith, ints)) kg.1;
    })

fills-at : (ms : Members) (o : Option Data) (fs : List NamedFill) → get_member (name_of key.Fills) ms ≡ o → optional_of key.Fills 200 named_fill_of o ≡ Ok fs → AreFillsAt ms o fs
fills-at ms None fs there e = sym (same_ok [] fs e)
fills-at ms (Some d) fs there e =
    let elements = elements-related IsFillTable key.Fills 0 200 named_fill_of fill-is d fs e in
    record { items = elements.0; there = there ∙ ap Some elements.1; each = elements.2 }

fill-of : (ts : TablesRecord) (before : List TankFill) (n : NamedFill) (f : TankFill) → fill_in ts before n ≡ Ok f → IsFillOf ts f n
fill-of ts before n f e =
    let found = went_on (or_fault (UnknownTank (length before + 1)) (tank_of ts n.tank)) _ f e in
    let there = was_there (UnknownTank (length before + 1)) (tank_of ts n.tank) found.0 found.1 in
    let free = passed (BadKey key.Fills) (not (is_filled before found.0)) (record { tank = found.0; kg = n.kg }) f found.2 in
    rw (← free.1) (record { tank = there; kg = refl })

downflooding-has : (ms : Members) (n : ℕ) → downflooding_of ms ≡ Ok n → HasNumber ms (codes "downflooding_deg") (pos n)
downflooding-has ms n e =
    let angle = went_on (number_at key.Downflooding (pos 0) (pos 90) ms) _ n e in
    let great = passed (Downflooding (unsigned_abs angle.0)) (int_le (pos 40) angle.0) (unsigned_abs angle.0) n angle.2 in
    natural-has key.Downflooding (codes "downflooding_deg") (pos 0) (pos 90) ms angle.0 (omega (arith, ints)) angle.1 ∙ ap (λ k. Some (integer (pos k))) great.1

pub ship-is : (ms : Members) (s : ShipRecord) → ship_of ms ≡ Ok s → IsShipOf ms s
ship-is ms s e =
    let lbp = went_on (number_at key.Lbp (pos 1) (pos 1000000) ms) _ s e in
    let angle = went_on (downflooding_of ms) _ s lbp.2 in
    let draught = went_on (number_at key.DraughtMax (pos 1) (pos 100000) ms) _ s angle.2 in
    let trim = went_on (number_at key.TrimMax (pos 0) (pos 100000) ms) _ s draught.2 in
    let list = went_on (number_at key.ListMax (pos 0) (pos 10000) ms) _ s trim.2 in
    let closing = went_on (number_at key.ClosingMax (pos 0) (pos 1000000000) ms) _ s list.2 in
    let stations = went_on (stations_of ms) _ s closing.2 in
    let blocks = went_on (blocks_of (extent_of stations.0) ms) _ s stations.2 in
    let frames = went_on (frames_of stations.0 ms) _ s blocks.2 in
    let same = same_ok (record {
      lbp = lbp.0;
      downflooding = angle.0;
      draught_max = draught.0;
      trim_max = trim.0;
      list_max = list.0;
      closing_max = closing.0;
      stations = stations.0;
      blocks = blocks.0;
      frames = frames.0;
    }) s frames.2 in
    rw (← same)
    (record {
      lbp = number-has key.Lbp (codes "lbp_mm") (pos 1) (pos 1000000) ms lbp.0 lbp.1;
      downflooding = downflooding-has ms angle.0 angle.1;
      draught_max = number-has key.DraughtMax (codes "draught_max_mm") (pos 1) (pos 100000) ms draught.0 draught.1;
      trim_max = number-has key.TrimMax (codes "trim_max_mm") (pos 0) (pos 100000) ms trim.0 trim.1;
      list_max = number-has key.ListMax (codes "list_max") (pos 0) (pos 10000) ms list.0 list.1;
      closing_max = number-has key.ClosingMax (codes "closing_max_kg") (pos 0) (pos 1000000000) ms closing.0 closing.1;
      stations = elements-has IsNumber key.Stations 2 64 station_of station-is ms stations.0 stations.1;
      blocks = elements-has IsBlockTable key.Blocks 1 200 (block_of (extent_of stations.0)) (block-is (extent_of stations.0)) ms blocks.0 blocks.1;
      frames = elements-has IsFrameTable key.Frames 1 16 (frame_of stations.0) (frame-is stations.0) ms frames.0 frames.1;
    })

-- tables that were read
tables-read : {A : Type 0} (r : Result A TableFault) (a : A) → from_tables r ≡ Ok a → r ≡ Ok a
tables-read (Ok b) a e = cc
tables-read (Err x) a e = cc

-- a profile that was read part by part
pub parts-written : (texts : Texts) (ms : Members) (p : ProfileRecord) (named : List NamedFill) → document_in texts.ship ≡ Ok ms → ship_of ms ≡ Ok p.ship → named_fills_of ms ≡ Ok named
    → tables_in p.ship texts.tables ≡ Ok p.tables → fills_in p.tables named ≡ Ok p.fills → IsWritten texts p
parts-written texts ms p named d s n t f =
    let stations = p.ship.stations in
    record {
      document = ms;
      document_is = was_there BadToml (document_of texts.ship) ms d;
      ship = ship-is ms p.ship s;
      named = named;
      named_are = fills-at ms (get_member (name_of key.Fills) ms) named refl n;
      fills = all-related (IsFillOf p.tables) (fill_in p.tables) (fill-of p.tables) named p.fills f;
      tables = tables-written (extent_of stations) (length stations) texts.tables p.tables (tables-read (tables_of (extent_of stations) (length stations) texts.tables) p.tables t);
    }

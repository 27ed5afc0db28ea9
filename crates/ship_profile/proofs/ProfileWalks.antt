-- The first fault of a profile is that of its document, of the first key, of the first table or of the first fill that has one.
use Rattle.std.proofs.Common.{◌≡◌, ◌∙◌, ◌⊎◌, inl, inr, ℕ, zero, suc, pos, List, [], ◌∷◌, ◌++◌, length, Option, Some, None, Result, Ok, Err, refl, ap, sym}
use Rattle.std.specs.Prelude.{slice_get}
use Rattle.std.specs.Option.{option_or}
use Rattle.std.specs.Result.{result_err}
use Rattle.toml.specs.Data.{Members}
use Rattle.units_core.proofs.OutcomeLemmas.{went_on, same_ok}
use Rattle.units_core.specs.Outcome.{◌>>=◌, or_fault}
use Rattle.ship_tables.specs.declared.faults.TableFault.{TableFault}
use Rattle.ship_tables.specs.Faults.{AreTablesOf, IsFirstFileFault, files_of}
use Rattle.ship_tables.specs.Record.{TablesRecord}
use Rattle.ship_tables.proofs.OutcomeLemmas.{by_ok, by_err, is_fault}
use Rattle.ship_tables.proofs.SetWalks.{set_sound, set_fault, set_either}
use Rattle.ship_profile.specs.declared.faults.Key.{Key}
use Rattle.ship_profile.specs.declared.faults.Key.TheVariants as key
use Rattle.ship_profile.specs.declared.faults.ProfileFault.{ProfileFault}
use Rattle.ship_profile.specs.declared.faults.ProfileFault.TheVariants.{BadToml}
use Rattle.ship_profile.specs.declared.fills.TankFill.{TankFill}
use Rattle.ship_profile.specs.Faults.{AreMadeOf, IsFirstRefused, keys, key_fault, IsFirstKeyFault, IsShip, IsProfile, IsProfileFault}
use Rattle.ship_profile.specs.Keys.{document_of, document_in, number_at}
use Rattle.ship_profile.specs.Record.{Texts, ProfileRecord, from_tables, tables_in, fill_in, fills_in, record_of}
use Rattle.ship_profile.specs.Ship.{ShipRecord, ship_of, extent_of, stations_of, blocks_of, frames_of, downflooding_of, NamedFill, named_fills_of}
use Rattle.ship_profile.specs.TableFaults.{as_profile_fault}
use Rattle.ship_profile.proofs.ArrayWalks.{made_sound, made_fault, made_either}

-- the fault of a chain is that of its first step, or else of what follows
step : {A B C : Type 0} (w : Result A ProfileFault) (k : A → Result C ProfileFault) (all : C → Result B ProfileFault) (behind : Option ProfileFault)
    → ((a : A) → w ≡ Ok a → result_err (k a >>= all) ≡ behind) → result_err (w >>= k >>= all) ≡ option_or (result_err w) behind
step w k all behind h = go w refl
  where
    go : (v : Result _ ProfileFault) → w ≡ v → result_err (v >>= k >>= all) ≡ option_or (result_err v) behind
    go (Ok a) e = h a e
    go (Err x) e = refl

-- the same of a step that is judged by what was read before it
step_by : {A B C D : Type 0} (before : Result D ProfileFault) (d : D) (w : D → Result A ProfileFault) (k : A → Result C ProfileFault) (all : C → Result B ProfileFault)
    (behind : Option ProfileFault) → before ≡ Ok d
    → ((a : A) → result_err (k a >>= all) ≡ behind) → result_err (w d >>= k >>= all) ≡ option_or (result_err (before >>= w)) behind
step_by before d w k all behind is h =
    step (w d) k all behind (λ a e. h a) ∙ ap (λ r. option_or (result_err (r >>= w)) behind) (sym is)

-- a value beside another one
abbrev paired : {S N E : Type 0} → Result N E → S → Result (S × N) E
paired n ship = n >>= (λ named. Ok (ship, named))

last_step : {A B : Type 0} (w : Result A ProfileFault) (value : A → B) → result_err (w >>= (λ a. Ok (value a))) ≡ option_or (result_err w) None
last_step (Ok a) value = refl
last_step (Err x) value = refl

module _ (ms : Members) where
  -- the first fault of some keys
  abbrev first_of : List Key → Option ProfileFault
  first_of [] = None
  first_of (k ∷ ks) = option_or (key_fault ms k) (first_of ks)

  found : (before behind : List Key) (k : Key) (f : ProfileFault) → ((n : ℕ) (other : Key) → slice_get before n ≡ Some other → key_fault ms other ≡ None)
      → key_fault ms k ≡ Some f → first_of (before ++ k ∷ behind) ≡ Some f
  found [] behind k f good h = ap (λ o. option_or o (first_of behind)) h
  found (other ∷ before) behind k f good h =
      ap (λ o. option_or o (first_of (before ++ k ∷ behind))) (good zero other refl) ∙ found before behind k f (λ n more e. good (suc n) more e) h

  record Found (ks : List Key) (f : ProfileFault) : Type 0 where
    before : List Key
    key : Key
    behind : List Key
    keys_are : ks ≡ before ++ key ∷ behind
    good_before : (n : ℕ) (other : Key) → slice_get before n ≡ Some other → key_fault ms other ≡ None
    fault_is : key_fault ms key ≡ Some f

  one_good : (k : Key) (before : List Key) → key_fault ms k ≡ None → ((n : ℕ) (other : Key) → slice_get before n ≡ Some other → key_fault ms other ≡ None)
      → (n : ℕ) (other : Key) → slice_get (k ∷ before) n ≡ Some other → key_fault ms other ≡ None
  one_good k before good h zero other e = let same : k ≡ other = cc in rw (← same) good
  one_good k before good h (suc n) other e = h n other e

  is_first : (ks : List Key) (f : ProfileFault) → first_of ks ≡ Some f → Found ks f
  is_first [] f e = cc
  is_first (k ∷ ks) f e = go (key_fault ms k) refl (is_first ks f)
    where
      go : (o : Option ProfileFault) → key_fault ms k ≡ o → (first_of ks ≡ Some f → Found ks f) → Found (k ∷ ks) f
      go None is more =
          let h = more (sym (ap (λ o. option_or o (first_of ks)) is) ∙ e) in
          record {
            before = k ∷ h.before;
            key = h.key;
            behind = h.behind;
            keys_are = ap (λ (l : List Key). k ∷ l) h.keys_are;
            good_before = one_good k h.before is h.good_before;
            fault_is = h.fault_is;
          }
      go (Some x) is more =
          let same : Some x ≡ Some f = sym (ap (λ o. option_or o (first_of ks)) is) ∙ e in
          record { before = []; key = k; behind = ks; keys_are = refl; good_before = λ n other none. cc; fault_is = is ∙ same }

  -- what `ship.toml` says, with the fills
  abbrev keys_read : Result (ShipRecord × List NamedFill) ProfileFault
  keys_read = ship_of ms >>= paired (named_fills_of ms)

  abbrev with_fills : ShipRecord → Result (ShipRecord × List NamedFill) ProfileFault
  with_fills = paired (named_fills_of ms)

  fault_of_keys : result_err keys_read ≡ first_of keys
  fault_of_keys =
      step (number_at key.Lbp (pos 1) (pos 1000000) ms) _ with_fills _ (λ lbp e1.
      step (downflooding_of ms) _ with_fills _ (λ downflooding e2.
      step (number_at key.DraughtMax (pos 1) (pos 100000) ms) _ with_fills _ (λ draught_max e3.
      step (number_at key.TrimMax (pos 0) (pos 100000) ms) _ with_fills _ (λ trim_max e4.
      step (number_at key.ListMax (pos 0) (pos 10000) ms) _ with_fills _ (λ list_max e5.
      step (number_at key.ClosingMax (pos 0) (pos 1000000000) ms) _ with_fills _ (λ closing_max e6.
      step (stations_of ms) _ with_fills _ (λ stations are.
      step_by (stations_of ms) stations (λ at. blocks_of (extent_of at) ms) _ with_fills _ are (λ blocks.
      step_by (stations_of ms) stations (λ at. frames_of at ms) _ with_fills _ are (λ frames.
      last_step (named_fills_of ms) _)))))))))

  keys_fault : (f : ProfileFault) → IsFirstKeyFault ms f → keys_read ≡ Err f
  keys_fault f h = is_fault keys_read f (fault_of_keys ∙ ap first_of h.keys_are ∙ found h.before h.behind h.key f h.good_before h.fault_is)

  first_key : (f : ProfileFault) → keys_read ≡ Err f → IsFirstKeyFault ms f
  first_key f e =
      let h = is_first keys f (sym fault_of_keys ∙ ap result_err e) in
      record {
        before = h.before;
        key = h.key;
        behind = h.behind;
        keys_are = h.keys_are;
        good_before = h.good_before;
        fault_is = h.fault_is;
      }

-- what is said of the ship, and her fills
ship_is : (text : List ℕ) (ship : ShipRecord) (named : List NamedFill) (h : IsShip text ship named) → ship_of h.members ≡ Ok ship
ship_is text ship named h =
    by_ok (number_at key.Lbp (pos 1) (pos 1000000) h.members) ship.lbp _ _ h.lbp
    (by_ok (downflooding_of h.members) ship.downflooding _ _ h.downflooding
    (by_ok (number_at key.DraughtMax (pos 1) (pos 100000) h.members) ship.draught_max _ _ h.draught_max
    (by_ok (number_at key.TrimMax (pos 0) (pos 100000) h.members) ship.trim_max _ _ h.trim_max
    (by_ok (number_at key.ListMax (pos 0) (pos 10000) h.members) ship.list_max _ _ h.list_max
    (by_ok (number_at key.ClosingMax (pos 0) (pos 1000000000) h.members) ship.closing_max _ _ h.closing_max
    (by_ok (stations_of h.members) ship.stations _ _ h.stations
    (by_ok (blocks_of (extent_of ship.stations) h.members) ship.blocks _ _ h.blocks
    (by_ok (frames_of ship.stations h.members) ship.frames _ _ h.frames refl))))))))

module _ (text : List ℕ) (ms : Members) (document : document_of text ≡ Some ms) where
  is_ship : (ship : ShipRecord) (named : List NamedFill) → ship_of ms ≡ Ok ship → named_fills_of ms ≡ Ok named → IsShip text ship named
  is_ship ship named e fills =
      let lbp = went_on (number_at key.Lbp (pos 1) (pos 1000000) ms) _ ship e in
      let downflooding = went_on (downflooding_of ms) _ ship lbp.2 in
      let draught_max = went_on (number_at key.DraughtMax (pos 1) (pos 100000) ms) _ ship downflooding.2 in
      let trim_max = went_on (number_at key.TrimMax (pos 0) (pos 100000) ms) _ ship draught_max.2 in
      let list_max = went_on (number_at key.ListMax (pos 0) (pos 10000) ms) _ ship trim_max.2 in
      let closing_max = went_on (number_at key.ClosingMax (pos 0) (pos 1000000000) ms) _ ship list_max.2 in
      let stations = went_on (stations_of ms) _ ship closing_max.2 in
      let blocks = went_on (blocks_of (extent_of stations.0) ms) _ ship stations.2 in
      let frames = went_on (frames_of stations.0 ms) _ ship blocks.2 in
      let read : ShipRecord =
      record {
        lbp = lbp.0;
        downflooding = downflooding.0;
        draught_max = draught_max.0;
        trim_max = trim_max.0;
        list_max = list_max.0;
        closing_max = closing_max.0;
        stations = stations.0;
        blocks = blocks.0;
        frames = frames.0;
      } in
      rw (← same_ok read ship frames.2)
      (record {
        members = ms;
        document = document;
        lbp = lbp.1;
        downflooding = downflooding.1;
        draught_max = draught_max.1;
        trim_max = trim_max.1;
        list_max = list_max.1;
        closing_max = closing_max.1;
        stations = stations.1;
        blocks = blocks.1;
        frames = frames.1;
        fills = fills;
      })

-- what follows from the keys
by_keys : {S N B E : Type 0} (s : Result S E) (n : Result N E) (rest : S → N → Result B E)
    → s >>= (λ ship. n >>= (λ named. rest ship named)) ≡ s >>= paired n >>= (λ p. rest p.0 p.1)
by_keys (Ok ship) (Ok named) rest = refl
by_keys (Ok ship) (Err e) rest = refl
by_keys (Err e) n rest = refl

module _ (texts : Texts) where
  -- the tables, and the fills in their tanks, once `ship.toml` was read
  abbrev rest_of : ShipRecord → List NamedFill → Result ProfileRecord ProfileFault
  rest_of ship named =
      tables_in ship texts.tables >>= (λ ts. fills_in ts named >>= (λ fills. Ok (record { ship = ship; tables = ts; fills = fills })))

  good_ship : (ship : ShipRecord) (named : List NamedFill) → IsShip texts.ship ship named → record_of texts ≡ rest_of ship named
  good_ship ship named h =
      by_ok (document_in texts.ship) h.members _ _ (ap (or_fault BadToml) h.document)
      (by_ok (ship_of h.members) ship _ _ (ship_is texts.ship ship named h) (by_ok (named_fills_of h.members) named _ _ h.fills refl))

  good_tables : (ship : ShipRecord) (named : List NamedFill) (ts : TablesRecord) → IsShip texts.ship ship named
      → AreTablesOf (extent_of ship.stations) (length ship.stations) texts.tables ts
      → record_of texts ≡ fills_in ts named >>= (λ fills. Ok (record { ship = ship; tables = ts; fills = fills }))
  good_tables ship named ts h are =
      good_ship ship named h
      ∙ by_ok (tables_in ship texts.tables) ts _ _ (ap from_tables (set_sound (extent_of ship.stations) (length ship.stations) texts.tables ts are)) refl

  pub profile_sound : (p : ProfileRecord) → IsProfile texts p → record_of texts ≡ Ok p
  profile_sound p h =
      good_tables p.ship h.named p.tables h.ship h.tables
      ∙ by_ok (fills_in p.tables h.named) p.fills _ _ (made_sound (fill_in p.tables) h.named p.fills h.fills) refl

  pub profile_fault : (f : ProfileFault) → IsProfileFault texts f → record_of texts ≡ Err f
  profile_fault f (inl (inl h)) = by_err (document_in texts.ship) f _ (ap (or_fault BadToml) h.0 ∙ ap Err (sym h.1))
  profile_fault f (inl (inr h)) =
      by_ok (document_in texts.ship) h.0 _ _ (ap (or_fault BadToml) h.1)
      (by_keys (ship_of h.0) (named_fills_of h.0) rest_of ∙ by_err (keys_read h.0) f _ (keys_fault h.0 f h.2))
  profile_fault f (inr (inl h)) =
      let refused = set_fault (extent_of h.read.stations) (length h.read.stations) texts.tables h.table_fault h.of_tables in
      good_ship h.read h.named h.ship ∙ by_err (tables_in h.read texts.tables) f _ (ap from_tables refused ∙ ap Err (sym h.fault_is))
  profile_fault f (inr (inr h)) =
      good_tables h.read h.named h.tables h.ship h.are_tables ∙ by_err (fills_in h.tables h.named) f _ (made_fault (fill_in h.tables) h.named f h.of_fills)

  -- texts are one or the other
  abbrev EitherProfile : Type 0
  EitherProfile = ((p : ProfileRecord) × IsProfile texts p) ⊎ ((f : ProfileFault) × IsProfileFault texts f)

  by_fills : (ship : ShipRecord) (named : List NamedFill) → IsShip texts.ship ship named → (ts : TablesRecord)
      → AreTablesOf (extent_of ship.stations) (length ship.stations) texts.tables ts
      → ((fills : List TankFill) × AreMadeOf (fill_in ts) named fills) ⊎ ((f : ProfileFault) × IsFirstRefused (fill_in ts) named f) → EitherProfile
  by_fills ship named h ts are (inl made) =
      inl (record { ship = ship; tables = ts; fills = made.0 }, record { named = named; ship = h; tables = are; fills = made.1 })
  by_fills ship named h ts are (inr bad) =
      inr (bad.0, inr (inr (record { read = ship; named = named; ship = h; tables = ts; are_tables = are; of_fills = bad.1 })))

  by_tables : (ship : ShipRecord) (named : List NamedFill) → IsShip texts.ship ship named
      → ((ts : TablesRecord) × AreTablesOf (extent_of ship.stations) (length ship.stations) texts.tables ts)
      ⊎ ((f : TableFault) × IsFirstFileFault (files_of (extent_of ship.stations) (length ship.stations) texts.tables) f) → EitherProfile
  by_tables ship named h (inl are) = by_fills ship named h are.0 are.1 (made_either (fill_in are.0) named)
  by_tables ship named h (inr bad) =
      inr (as_profile_fault bad.0, inr (inl (record { read = ship; named = named; ship = h; table_fault = bad.0; of_tables = bad.1; fault_is = refl })))

  by_members : (ms : Members) → document_of texts.ship ≡ Some ms → (r : Result (ShipRecord × List NamedFill) ProfileFault) → keys_read ms ≡ r → EitherProfile
  by_members ms document (Err f) e = inr (f, inl (inr (ms, document, first_key ms f e)))
  by_members ms document (Ok both) e =
      let ship = went_on (ship_of ms) _ both e in
      let named = went_on (named_fills_of ms) _ both ship.2 in
      by_tables ship.0 named.0 (is_ship texts.ship ms document ship.0 named.0 ship.1 named.1)
      (set_either (extent_of ship.0.stations) (length ship.0.stations) texts.tables)

  pub profile_either : ((p : ProfileRecord) × IsProfile texts p) ⊎ ((f : ProfileFault) × IsProfileFault texts f)
  profile_either = go (document_of texts.ship) refl
    where
      go : (o : Option Members) → document_of texts.ship ≡ o → EitherProfile
      go None e = inr (BadToml, inl (inl (e, refl)))
      go (Some ms) e = by_members ms e (keys_read ms) refl

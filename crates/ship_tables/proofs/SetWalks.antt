-- The first fault of a ship's tables is that of the first of their files that has one.
use Rattle.std.proofs.Common.{◌≡◌, ◌∙◌, ◌⊎◌, inl, inr, ℕ, zero, suc, List, [], ◌∷◌, ◌++◌, Option, Some, None, Result, Ok, Err, refl, ap, sym, subst}
use Rattle.std.specs.Prelude.{slice_get}
use Rattle.std.specs.Result.{result_err}
use Rattle.units_core.proofs.OutcomeLemmas.{went_on, same_ok}
use Rattle.units_core.specs.Outcome.{◌>>=◌}
use Rattle.ship_tables.specs.declared.extents.Extent.{Extent}
use Rattle.ship_tables.specs.declared.faults.TableFault.{TableFault}
use Rattle.ship_tables.specs.Record.{Texts, TablesRecord, cells_form, hydro_form, levers_form, bonjean_form, tanks_form, least_gm_form, places_in, hydro_in, curves_in, tanks_in, least_gm_in, CurveTable, curve_table, tables_of}
use Rattle.ship_tables.specs.Tables.{Form, Row, Read, file_in}
use Rattle.ship_tables.specs.Faults.{IsFile, IsFileFault, files_of, least_gm_file, AreTablesOf, IsFirstFileFault}
use Rattle.ship_tables.proofs.OutcomeLemmas.{by_ok, is_fault}
use Rattle.ship_tables.proofs.FileWalks.{file_sound, file_fault, file_either}

-- its own fault, or else that of what follows
abbrev or_behind : {A : Type 0} → Result A TableFault → Option TableFault → Option TableFault
or_behind (Ok a) behind = behind
or_behind (Err e) behind = Some e

abbrev first_fault : List (Form × List ℕ) → Option TableFault
first_fault [] = None
first_fault (file ∷ files) = or_behind (file_in file.0 file.1) (first_fault files)

-- a table that is read of its file, and what follows
one_file_on : {A B : Type 0} (w : Result Read TableFault) (table : Read → A) (k : A → Result B TableFault) (behind : Option TableFault)
    → ((a : A) → result_err (k a) ≡ behind) → result_err (w >>= (λ r. Ok (table r)) >>= k) ≡ or_behind w behind
one_file_on (Ok r) table k behind h = h (table r)
one_file_on (Err e) table k behind h = refl

least_gm_on : {B : Type 0} (text : Option (List ℕ)) (t : Option CurveTable → B)
    → result_err (least_gm_in text >>= (λ c. Ok (t c))) ≡ first_fault (least_gm_file text)
least_gm_on None t = refl
least_gm_on (Some text) t = go (file_in least_gm_form text)
  where
    go : (w : Result Read TableFault)
        → result_err (w >>= (λ r. Ok (curve_table 1 r.rows)) >>= (λ c. Ok (Some c)) >>= (λ c. Ok (t c))) ≡ or_behind w None
    go (Ok r) = refl
    go (Err e) = refl

fault_of_tables : (extent : Extent) (stations : ℕ) (texts : Texts) → result_err (tables_of extent stations texts) ≡ first_fault (files_of extent stations texts)
fault_of_tables extent stations texts =
    one_file_on (file_in (cells_form extent) texts.cells) _ _ _ (λ cells.
    one_file_on (file_in hydro_form texts.hydro) _ _ _ (λ hydro.
    one_file_on (file_in levers_form texts.levers) _ _ _ (λ levers.
    one_file_on (file_in (bonjean_form stations) texts.bonjean) _ _ _ (λ bonjean.
    one_file_on (file_in (tanks_form extent) texts.tanks) _ _ _ (λ tanks.
    least_gm_on texts.least_gm _)))))

-- one file more is good
one_good : (file : Form × List ℕ) (before : List (Form × List ℕ)) → (rows : List Row) × IsFile file.0 file.1 rows
    → ((k : ℕ) (other : Form × List ℕ) → slice_get before k ≡ Some other → (rows : List Row) × IsFile other.0 other.1 rows)
    → (k : ℕ) (other : Form × List ℕ) → slice_get (file ∷ before) k ≡ Some other → (rows : List Row) × IsFile other.0 other.1 rows
one_good file before good h zero other e = let same : file ≡ other = cc in rw (← same) good
one_good file before good h (suc k) other e = h k other e

found : (before behind : List (Form × List ℕ)) (form : Form) (text : List ℕ) (f : TableFault)
    → ((k : ℕ) (file : Form × List ℕ) → slice_get before k ≡ Some file → (rows : List Row) × IsFile file.0 file.1 rows)
    → IsFileFault form text f → first_fault (before ++ (form, text) ∷ behind) ≡ Some f
found [] behind form text f good h = ap (λ w. or_behind w (first_fault behind)) (file_fault form text f h)
found (file ∷ before) behind form text f good h =
    let first = good zero file refl in
    ap (λ w. or_behind w (first_fault (before ++ (form, text) ∷ behind))) (file_sound file.0 file.1 first.0 first.1)
    ∙ found before behind form text f (λ k other e. good (suc k) other e) h

is_first : (files : List (Form × List ℕ)) (f : TableFault) → first_fault files ≡ Some f → IsFirstFileFault files f
is_first [] f e = cc
is_first (file ∷ files) f e = go (file_either file.0 file.1) (is_first files f)
  where
    go : ((rows : List Row) × IsFile file.0 file.1 rows) ⊎ ((x : TableFault) × IsFileFault file.0 file.1 x)
        → (first_fault files ≡ Some f → IsFirstFileFault files f) → IsFirstFileFault (file ∷ files) f
    go (inl good) behind =
        let sound = ap (λ w. or_behind w (first_fault files)) (file_sound file.0 file.1 good.0 good.1) in
        let h = behind (sym sound ∙ e) in
        record {
          before = file ∷ h.before;
          form = h.form;
          text = h.text;
          behind = h.behind;
          files_are = ap (λ (l : List (Form × List ℕ)). file ∷ l) h.files_are;
          good_before = one_good file h.before good h.good_before;
          fault_is = h.fault_is;
        }
    go (inr bad) behind =
        let fault = ap (λ w. or_behind w (first_fault files)) (file_fault file.0 file.1 bad.0 bad.1) in
        let some : Some bad.0 ≡ Some f = sym fault ∙ e in
        let same : bad.0 ≡ f = cc in
        record {
          before = [];
          form = file.0;
          text = file.1;
          behind = files;
          files_are = refl;
          good_before = λ k other none. cc;
          fault_is = subst (IsFileFault file.0 file.1) same bad.1;
        }

module _ (extent : Extent) (stations : ℕ) (texts : Texts) where
  pub set_sound : (t : TablesRecord) → AreTablesOf extent stations texts t → tables_of extent stations texts ≡ Ok t
  set_sound t h =
      by_ok (places_in extent texts.cells) t.cells _ _ h.cells
      (by_ok (hydro_in texts.hydro) t.hydro _ _ h.hydro
      (by_ok (curves_in levers_form 13 texts.levers) t.levers _ _ h.levers
      (by_ok (curves_in (bonjean_form stations) stations texts.bonjean) t.bonjean _ _ h.bonjean
      (by_ok (tanks_in extent texts.tanks) t.tanks _ _ h.tanks
      (by_ok (least_gm_in texts.least_gm) t.least_gm _ _ h.least_gm refl)))))

  pub set_fault : (f : TableFault) → IsFirstFileFault (files_of extent stations texts) f → tables_of extent stations texts ≡ Err f
  set_fault f h =
      is_fault (tables_of extent stations texts) f
      (fault_of_tables extent stations texts ∙ ap first_fault h.files_are ∙ found h.before h.behind h.form h.text f h.good_before h.fault_is)

  are_tables_of : (t : TablesRecord) → tables_of extent stations texts ≡ Ok t → AreTablesOf extent stations texts t
  are_tables_of t e =
      let cells = went_on (places_in extent texts.cells) _ t e in
      let hydro = went_on (hydro_in texts.hydro) _ t cells.2 in
      let levers = went_on (curves_in levers_form 13 texts.levers) _ t hydro.2 in
      let bonjean = went_on (curves_in (bonjean_form stations) stations texts.bonjean) _ t levers.2 in
      let tanks = went_on (tanks_in extent texts.tanks) _ t bonjean.2 in
      let least_gm = went_on (least_gm_in texts.least_gm) _ t tanks.2 in
      subst (AreTablesOf extent stations texts) (same_ok _ t least_gm.2)
      (record { cells = cells.1; hydro = hydro.1; levers = levers.1; bonjean = bonjean.1; tanks = tanks.1; least_gm = least_gm.1 })

  pub set_either : ((t : TablesRecord) × AreTablesOf extent stations texts t)
      ⊎ ((f : TableFault) × IsFirstFileFault (files_of extent stations texts) f)
  set_either = go (tables_of extent stations texts) refl
    where
      go : (w : Result TablesRecord TableFault) → tables_of extent stations texts ≡ w
          → ((t : TablesRecord) × AreTablesOf extent stations texts t) ⊎ ((f : TableFault) × IsFirstFileFault (files_of extent stations texts) f)
      go (Ok t) e = inl (t, are_tables_of t e)
      go (Err f) e =
          inr (f, is_first (files_of extent stations texts) f (sym (fault_of_tables extent stations texts) ∙ ap result_err e))

-- The cells of a ship by the columns of their file: records that are rows by themselves are the rows of the file, where no two cells are equal.
use Rattle.std.proofs.Common.{◌≡◌, ◌∙◌, ℕ, zero, suc, ◌+◌, ◌<◌, ◌≤◌, nat_lt, Bool, true, false, List, [], ◌∷◌, ◌++◌, length, map, zip, get_or, append_assoc, append-nil, length-append, Option, None, Some, IfSome, Ok, refl, ap, sym, arith}
use Rattle.std.proofs.lemmas.Bool.Decides.{nat_tests}
use Rattle.std.proofs.Math.Seq.{get_or-append_seam}
use Rattle.std.proofs.Math.ListN.{get_or-append}
use Rattle.std.specs.List.{list_any}
use Rattle.csv.specs.Records.{field_at}
use Rattle.csv_text.specs.Reading.{Fields, records_of}
use Rattle.units_core.specs.declared.bodies.Place.{Place}
use Rattle.units_core.specs.declared.cells.Cell.{Cell}
use Rattle.units_core.specs.Cells.{cell_eq, cell_in}
use Rattle.ship_tables.specs.declared.extents.Extent.{Extent}
use Rattle.ship_tables.specs.declared.faults.File.TheVariants as file
use Rattle.ship_tables.specs.declared.layouts.Field.TheVariants as field
use Rattle.ship_tables.specs.Extents.{holds}
use Rattle.ship_tables.specs.Lookup.{index_in, AreApart}
use Rattle.ship_tables.specs.Outcome.{in_turn}
use Rattle.ship_tables.specs.Plain.{plain_row, plain_rows, IsPlain, ArePlain}
use Rattle.ship_tables.specs.Record.{cells_form, place_at, places_in, length_column, size_column}
use Rattle.ship_tables.specs.Tables.{Row, so_far, heading_read, cells_in, field_in, row_in, row_fault, added, enough, read_under, file_in}
use Rattle.ship_tables.proofs.CellLemmas.{cells_same}
use Rattle.ship_tables.proofs.OutcomeLemmas.{by_ok, in_turn-more}
use Rattle.ship_tables.proofs.ReadLemmas.{cells_in-push, read_of-heading}

module _ (tell : Cell → ℕ) where
  -- a cell whose index lies past those of some cells is none of them
  past : (c : Cell) (xs : List Cell) (k : ℕ) → ((i : ℕ) (d : Cell) → i < length xs → tell (get_or xs i d) ≡ k + i) → k + length xs ≤ tell c
      → list_any (cell_eq c) xs ≡ false
  past c [] k all h = refl
  past c (x ∷ xs) k all h =
      let first : cell_eq c x ≡ false = by_cases (cell_eq c x) refl in
      let rest : list_any (cell_eq c) xs ≡ false =
      past c xs (suc k) (λ i d inside. let at = all (suc i) d (omega arith) in omega (arith, at)) (omega arith) in
      rw (first, rest) refl
    where
      by_cases : (b : Bool) → cell_eq c x ≡ b → b ≡ false
      by_cases true e =
          let at : tell c ≡ k + 0 = ap tell (cells_same c x e) ∙ all zero c (omega arith) in
          absurd (omega (arith, at))
      by_cases false e = refl

  -- no cell before it is equal to it
  fresh : (xs : List Cell) (c : Cell) (cs : List Cell) → ((i : ℕ) (d : Cell) → i < length (xs ++ c ∷ cs) → tell (get_or (xs ++ c ∷ cs) i d) ≡ i)
      → list_any (cell_eq c) xs ≡ false
  fresh xs c cs all =
      let len = length-append xs (c ∷ cs) in
      let here : tell c ≡ length xs = ap tell (sym (get_or-append_seam xs c cs c)) ∙ all (length xs) c (omega (arith, len)) in
      past c xs 0 (λ i d inside.
      let at : tell (get_or xs i d) ≡ i = ap tell (sym (get_or-append xs (c ∷ cs) d i inside)) ∙ all i d (omega (arith, len)) in
      omega (arith, at)) (omega (arith, here))

-- a list of five fields
five : (fields : Fields) (t0 t1 t2 t3 t4 : List ℕ) → length fields ≡ 5
    → field_at fields 0 ≡ Some t0 → field_at fields 1 ≡ Some t1 → field_at fields 2 ≡ Some t2 → field_at fields 3 ≡ Some t3 → field_at fields 4 ≡ Some t4
    → fields ≡ t0 ∷ t1 ∷ t2 ∷ t3 ∷ t4 ∷ []
unfolding field_at
five [] t0 t1 t2 t3 t4 len e0 e1 e2 e3 e4 = absurd (omega (arith, len))
five (a0 ∷ []) t0 t1 t2 t3 t4 len e0 e1 e2 e3 e4 = absurd (omega (arith, len))
five (a0 ∷ a1 ∷ []) t0 t1 t2 t3 t4 len e0 e1 e2 e3 e4 = absurd (omega (arith, len))
five (a0 ∷ a1 ∷ a2 ∷ []) t0 t1 t2 t3 t4 len e0 e1 e2 e3 e4 = absurd (omega (arith, len))
five (a0 ∷ a1 ∷ a2 ∷ a3 ∷ []) t0 t1 t2 t3 t4 len e0 e1 e2 e3 e4 = absurd (omega (arith, len))
five (a0 ∷ a1 ∷ a2 ∷ a3 ∷ a4 ∷ []) t0 t1 t2 t3 t4 len e0 e1 e2 e3 e4 = cc
five (a0 ∷ a1 ∷ a2 ∷ a3 ∷ a4 ∷ a5 ∷ more) t0 t1 t2 t3 t4 len e0 e1 e2 e3 e4 = absurd (omega (arith, len))

-- the columns of such rows
plain-zip : (cs : List Cell) (ps : List Place) → zip (cells_in (plain_rows cs ps)) (map place_at (plain_rows cs ps)) ≡ zip cs ps
plain-zip [] ps = refl
plain-zip (c ∷ cs) [] = refl
plain-zip (c ∷ cs) (p ∷ ps) = ap (λ (l : List (Cell × Place)). (c, p) ∷ l) (plain-zip cs ps)

module _ (extent : Extent) where
  pub plain-push : (fs : List Fields) (cs : List Cell) (ps : List Place) (f : Fields) (c : Cell) (p : Place) → ArePlain extent fs cs ps → IsPlain extent f c p
      → ArePlain extent (fs ++ f ∷ []) (cs ++ c ∷ []) (ps ++ p ∷ [])
  plain-push [] [] [] f c p h is = (is, tt)
  plain-push [] [] (q ∷ ps) f c p h is = absurd h
  plain-push [] (d ∷ cs) ps f c p h is = absurd h
  plain-push (g ∷ fs) [] ps f c p h is = absurd h
  plain-push (g ∷ fs) (d ∷ cs) [] f c p h is = absurd h
  plain-push (g ∷ fs) (d ∷ cs) (q ∷ ps) f c p h is = (h.0, plain-push fs cs ps f c p h.1 is)

  plain-length : (fs : List Fields) (cs : List Cell) (ps : List Place) → ArePlain extent fs cs ps → length fs ≡ length ps
  plain-length [] [] [] h = refl
  plain-length [] [] (q ∷ ps) h = absurd h
  plain-length [] (d ∷ cs) ps h = absurd h
  plain-length (g ∷ fs) [] ps h = absurd h
  plain-length (g ∷ fs) (d ∷ cs) [] h = absurd h
  plain-length (g ∷ fs) (d ∷ cs) (q ∷ ps) h = ap suc (plain-length fs cs ps h.1)

  -- a row that is one by itself can come after rows that have other cells
  comes : (rows : List Row) (line : ℕ) (c : Cell) (p : Place) → length rows < 30000 → list_any (cell_eq c) (cells_in rows) ≡ false → holds extent p ≡ true
      → row_fault (cells_form extent) (so_far line [] rows) (plain_row c p) ≡ None
  comes rows line c p few new within =
      let room : nat_lt (length rows) 30000 ≡ true = grind (arith, nat_tests) in
      rw (room, new, within) refl

  module _ (tell : Cell → ℕ) where
    come : (rows : List Row) (line : ℕ) (fs : List Fields) (cs : List Cell) (ps : List Place) → ArePlain extent fs cs ps
        → ((i : ℕ) (d : Cell) → i < length (cells_in rows ++ cs) → tell (get_or (cells_in rows ++ cs) i d) ≡ i) → length rows + length fs ≤ 30000
        → in_turn (added (cells_form extent)) (so_far line [] rows) fs ≡ Ok (so_far (line + length fs) [] (rows ++ plain_rows cs ps))
    come rows line [] [] [] h all few =
        let same : line + 0 ≡ line = omega arith in
        rw (same, append-nil rows) refl
    come rows line [] [] (q ∷ ps) h all few = absurd h
    come rows line [] (d ∷ cs) ps h all few = absurd h
    come rows line (g ∷ fs) [] ps h all few = absurd h
    come rows line (g ∷ fs) (d ∷ cs) [] h all few = absurd h
    come rows line (f ∷ fs) (c ∷ cs) (p ∷ ps) h all few =
        let row : Row = plain_row c p in
        let new : list_any (cell_eq c) (cells_in rows) ≡ false = fresh tell (cells_in rows) c cs all in
        let can : row_fault (cells_form extent) (so_far line [] rows) row ≡ None = comes rows line c p (omega arith) new h.0.within in
        let one : added (cells_form extent) (so_far line [] rows) f ≡ Ok (so_far (line + 1) [] (rows ++ row ∷ [])) = rw (h.0.row line, can) refl in
        let cells : cells_in (rows ++ row ∷ []) ++ cs ≡ cells_in rows ++ c ∷ cs =
        ap (λ (l : List Cell). l ++ cs) (cells_in-push rows row (Some c) refl) ∙ append_assoc (cells_in rows) (c ∷ []) cs in
        let len = length-append rows (row ∷ []) in
        let rest = come (rows ++ row ∷ []) (line + 1) fs cs ps h.1 (rw cells all) (omega (arith, len)) in
        let after : line + 1 + length fs ≡ line + suc (length fs) = omega arith in
        let ends : (rows ++ row ∷ []) ++ plain_rows cs ps ≡ rows ++ row ∷ plain_rows cs ps = append_assoc rows (row ∷ []) (plain_rows cs ps) in
        in_turn-more (added (cells_form extent)) (so_far line [] rows) (so_far (line + 1) [] (rows ++ row ∷ [])) f fs (f ∷ fs) refl one
        ∙ (rest ∙ (rw (after, ends) refl))

  -- there are rows where there are places
  long : (fs : List Fields) (cs : List Cell) (ps : List Place) → ArePlain extent fs cs ps → 1 ≤ length ps → nat_lt (length (plain_rows cs ps)) 1 ≡ false
  long [] [] [] h some = absurd (omega (arith, some))
  long [] [] (q ∷ ps) h some = absurd h
  long [] (d ∷ cs) ps h some = absurd h
  long (g ∷ fs) [] ps h some = absurd h
  long (g ∷ fs) (d ∷ cs) [] h some = absurd h
  long (g ∷ fs) (d ∷ cs) (q ∷ ps) h some = grind (arith, nat_tests)

  under : (fs : List Fields) (cs : List Cell) (ps : List Place) → ArePlain extent fs cs ps → AreApart cs → 1 ≤ length ps → length ps ≤ 30000
      → read_under (cells_form extent) fs ≡ Ok (so_far (2 + length fs) [] (plain_rows cs ps))
  under fs cs ps h apart some few =
      let len = plain-length fs cs ps h in
      by_ok (in_turn (added (cells_form extent)) heading_read fs) (so_far (2 + length fs) [] (plain_rows cs ps)) (enough (cells_form extent)) _
      (come (index_in apart.0 apart.1) [] 2 fs cs ps h apart.2 (omega (arith, len, few))) (rw (long fs cs ps h some) refl)

  -- what the text of such records writes
  pub plain-places : (text : List ℕ) (heading : Fields) (fs : List Fields) (cs : List Cell) (ps : List Place) → records_of text ≡ heading ∷ fs → length heading ≡ 5
      → ArePlain extent fs cs ps → AreApart cs → 1 ≤ length ps → length ps ≤ 30000 → places_in extent text ≡ Ok (zip cs ps)
  plain-places text heading fs cs ps is five h apart some few =
      by_ok (file_in (cells_form extent) text) (so_far (2 + length fs) [] (plain_rows cs ps)) (λ r. Ok (zip (cells_in r.rows) (map place_at r.rows))) _
      (read_of-heading (cells_form extent) (records_of text) fs heading is five ∙ under fs cs ps h apart some few) (ap Ok (plain-zip cs ps))

  -- a record of five fields that are a cell and the lengths of a place
  pub plain-row : (fields : Fields) (t0 t1 t2 t3 t4 : List ℕ) (c : Cell) (p : Place) → length fields ≡ 5
      → field_at fields 0 ≡ Some t0 → field_at fields 1 ≡ Some t1 → field_at fields 2 ≡ Some t2 → field_at fields 3 ≡ Some t3 → field_at fields 4 ≡ Some t4
      → cell_in t0 ≡ Some c
      → ((line : ℕ) → field_in file.Cells line length_column t1 ≡ Ok (field.Number p.x))
      → ((line : ℕ) → field_in file.Cells line length_column t2 ≡ Ok (field.Number p.y))
      → ((line : ℕ) → field_in file.Cells line length_column t3 ≡ Ok (field.Number p.z))
      → ((line : ℕ) → field_in file.Cells line size_column t4 ≡ Ok (field.Number p.half))
      → (line : ℕ) → row_in (cells_form extent) line fields ≡ Ok (plain_row c p)
  plain-row fields t0 t1 t2 t3 t4 c p len e0 e1 e2 e3 e4 cell x y z half line =
      let same : fields ≡ t0 ∷ t1 ∷ t2 ∷ t3 ∷ t4 ∷ [] = five fields t0 t1 t2 t3 t4 len e0 e1 e2 e3 e4 in
      rw (same, cell, x line, y line, z line, half line) refl

-- what is known of cells that were settled, where that they are some and apart says what they are
pub if_settled : {P Q : Type 0} {T : Type 0} (of : T → Type 0) (v : T) (o : Option T) → IfSome o (λ c. c ≡ v) → IfSome o (λ c. P) → IfSome o (λ c. Q) → (P → Q → of v) → IfSome o of
if_settled of v None same p q then = tt
if_settled of v (Some c) same p q then = rw same (then p q)

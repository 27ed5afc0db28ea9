-- A hydrostatic table that is sound, and is written in a text of records of six fields, is what the text is read as.
use Rattle.std.proofs.Common.{◌≡◌, ◌∙◌, ℕ, zero, suc, ◌+◌, ◌-◌, ◌<◌, ◌≤◌, nat_lt, true, false, ℤ, pos, neg_ℤ, ◌≤ℤ◌, ◌<ℤ◌, ◌-ℤ◌, int_lt, int_le, ◌&&◌, unsigned_abs, List, [], ◌∷◌, ◌++◌, length, map, zip, take, drop, slice_get, append_assoc, append-nil, option_map, Option, Some, None, Result, Ok, refl, ap, sym, inl, inr, arith}
use Rattle.std.specs.List.{fold, range_with_len}
use Rattle.std.proofs.lemmas.Bool.Decides.{nat_tests}
use Rattle.std.proofs.lemmas.Int.{ints}
use Rattle.std.proofs.lemmas.List.{length-map}
use Rattle.std.proofs.lemmas.List.FromFn.{length-map-range_with_len, get_or-map-range_with_len, take-map-range_with_len, fill_by_all}
use Rattle.std.proofs.lemmas.Option.{slice_get-map, slice_get-get_or, slice_get_within, same_Some}
use Rattle.std.proofs.lemmas.Simd.{map-map}
use Rattle.csv_text.specs.Numbers.{number_in}
use Rattle.csv_text.specs.Reading.{Fields, records_of}
use Rattle.units_core.specs.Interpolation.{at}
use Rattle.units_core.specs.Outcome.{◌>>=◌}
use Rattle.ship_tables.specs.declared.faults.File.TheVariants as file
use Rattle.ship_tables.specs.declared.faults.TableFault.{TableFault}
use Rattle.ship_tables.specs.declared.layouts.Column.{Column}
use Rattle.ship_tables.specs.declared.layouts.Column.TheVariants as column
use Rattle.ship_tables.specs.declared.layouts.Field.TheVariants as field
use Rattle.ship_tables.specs.Outcome.{each}
use Rattle.ship_tables.specs.Tables.{Row, Read, heading_read, number_at, with_row, field_in, row_in, rise_fault, row_fault}
use Rattle.ship_tables.specs.Record.{HydroTable, hydro_form, hydro_table, hydro_in, numbers_of, IsHydroTable}
use Rattle.ship_tables.specs.Written.{records_under, field_as, IsNumbers, IsHydroWritten}
use Rattle.ship_tables.specs.Faults.{read_after, AreUnderHeading, AreRowsOf, HaveFields, IsFile}
use Rattle.ship_tables.proofs.FileWalks.{file_sound}

-- a number within its limits, and the fields behind it
number_read : (line : ℕ) (low high : ℤ) (text : List ℕ) (z : ℤ) → number_in text ≡ Some z → low ≤ℤ z → z ≤ℤ high
    → field_in file.Hydro line (column.Number low high) text ≡ Ok (field.Number z)
number_read line low high text z e least most =
    let inside : (int_le low z && int_le z high) ≡ true = grind (arith, ints) in
    rw (e, inside) refl

abbrev fields_in : ℕ → List Column → Fields → Result Row TableFault
fields_in line columns texts = each (λ p. field_in file.Hydro line p.0 p.1) (zip columns texts)

one_read : (line : ℕ) (low high : ℤ) (text : List ℕ) (z : ℤ) (columns : List Column) (texts : Fields) (row : Row) → number_in text ≡ Some z → low ≤ℤ z
    → z ≤ℤ high → fields_in line columns texts ≡ Ok row → fields_in line (column.Number low high ∷ columns) (text ∷ texts) ≡ Ok (field.Number z ∷ row)
one_read line low high text z columns texts row e least most behind =
    ap (λ r. r >>= (λ y. fields_in line columns texts >>= (λ ys. Ok (y ∷ ys)))) (number_read line low high text z e least most)
    ∙ ap (λ r. r >>= (λ ys. Ok (field.Number z ∷ ys))) behind

-- the columns from the k-th on
abbrev columns_behind : ℕ → List Column
columns_behind k = drop k hydro_form.columns

abbrev six : ℤ → ℤ → ℤ → ℤ → ℤ → ℤ → Row
six a b c d e f = field.Number a ∷ field.Number b ∷ field.Number c ∷ field.Number d ∷ field.Number e ∷ field.Number f ∷ []

-- the six numbers of a row are within their limits
record AreWithin (kg draught kmt lcb lcf mct : ℤ) : Type 0 where
  kg_least : pos 1 ≤ℤ kg
  kg_most : kg ≤ℤ pos 1000000000
  draught_least : pos 0 ≤ℤ draught
  draught_most : draught ≤ℤ pos 100000
  kmt_least : pos 0 ≤ℤ kmt
  kmt_most : kmt ≤ℤ pos 1000000
  lcb_least : neg_ℤ (pos 1000000) ≤ℤ lcb
  lcb_most : lcb ≤ℤ pos 1000000
  lcf_least : neg_ℤ (pos 1000000) ≤ℤ lcf
  lcf_most : lcf ≤ℤ pos 1000000
  mct_least : pos 1 ≤ℤ mct
  mct_most : mct ≤ℤ pos 1000000000

-- a record of six fields is read as their numbers
row_read : (line : ℕ) (fields : Fields) (a b c d e f : ℤ) → length fields ≡ 6 → AreWithin a b c d e f
    → field_as number_in 0 fields ≡ Some a → field_as number_in 1 fields ≡ Some b → field_as number_in 2 fields ≡ Some c
    → field_as number_in 3 fields ≡ Some d → field_as number_in 4 fields ≡ Some e → field_as number_in 5 fields ≡ Some f
    → row_in hydro_form line fields ≡ Ok (six a b c d e f)
row_read line [] a b c d e f long w ea eb ec ed ee ef = absurd (omega (arith, long))
row_read line (t0 ∷ []) a b c d e f long w ea eb ec ed ee ef = absurd (omega (arith, long))
row_read line (t0 ∷ t1 ∷ []) a b c d e f long w ea eb ec ed ee ef = absurd (omega (arith, long))
row_read line (t0 ∷ t1 ∷ t2 ∷ []) a b c d e f long w ea eb ec ed ee ef = absurd (omega (arith, long))
row_read line (t0 ∷ t1 ∷ t2 ∷ t3 ∷ []) a b c d e f long w ea eb ec ed ee ef = absurd (omega (arith, long))
row_read line (t0 ∷ t1 ∷ t2 ∷ t3 ∷ t4 ∷ []) a b c d e f long w ea eb ec ed ee ef = absurd (omega (arith, long))
row_read line (t0 ∷ t1 ∷ t2 ∷ t3 ∷ t4 ∷ t5 ∷ t6 ∷ ts) a b c d e f long w ea eb ec ed ee ef = absurd (omega (arith, long))
row_read line (t0 ∷ t1 ∷ t2 ∷ t3 ∷ t4 ∷ t5 ∷ []) a b c d e f long w ea eb ec ed ee ef =
    one_read line (pos 1) (pos 1000000000) t0 a (columns_behind 1) (t1 ∷ t2 ∷ t3 ∷ t4 ∷ t5 ∷ []) (drop 1 (six a b c d e f)) ea w.kg_least w.kg_most
    (one_read line (pos 0) (pos 100000) t1 b (columns_behind 2) (t2 ∷ t3 ∷ t4 ∷ t5 ∷ []) (drop 2 (six a b c d e f)) eb w.draught_least w.draught_most
    (one_read line (pos 0) (pos 1000000) t2 c (columns_behind 3) (t3 ∷ t4 ∷ t5 ∷ []) (drop 3 (six a b c d e f)) ec w.kmt_least w.kmt_most
    (one_read line (neg_ℤ (pos 1000000)) (pos 1000000) t3 d (columns_behind 4) (t4 ∷ t5 ∷ []) (drop 4 (six a b c d e f)) ed w.lcb_least w.lcb_most
    (one_read line (neg_ℤ (pos 1000000)) (pos 1000000) t4 e (columns_behind 5) (t5 ∷ []) (drop 5 (six a b c d e f)) ee w.lcf_least w.lcf_most
    (one_read line (pos 1) (pos 1000000000) t5 f [] [] [] ef w.mct_least w.mct_most refl)))))

-- a file of one table that rises has all its rows in it
rows_read : (r : Read) (rows : List Row) → (fold (with_row hydro_form.rule) r rows).rows ≡ r.rows ++ rows
rows_read r [] = sym (append-nil r.rows)
rows_read r (row ∷ rows) = rows_read (with_row hydro_form.rule r row) rows ∙ append_assoc r.rows (row ∷ []) rows

-- a row that comes after fewer than 200, above the last of them
comes : (r : Read) (row : Row) (last : Option Row) → length r.rows < 200 → slice_get r.rows (length r.rows - 1) ≡ last
    → rise_fault hydro_form.file r.line (Some (pos 100000000)) 0 row last ≡ None → row_fault hydro_form r row ≡ None
comes r row last few is rises =
    let room : nat_lt (length r.rows) 200 ≡ true = grind (arith, nat_tests) in
    rw (room, is, rises) refl

above : (line : ℕ) (next last : Row) → number_at last 0 <ℤ number_at next 0 → (number_at next 0 -ℤ number_at last 0) ≤ℤ pos 100000000
    → rise_fault hydro_form.file line (Some (pos 100000000)) 0 next (Some last) ≡ None
above line next last rises gap =
    let up : int_lt (number_at last 0) (number_at next 0) ≡ true = grind (arith, ints) in
    let near : int_lt (pos 100000000) (number_at next 0 -ℤ number_at last 0) ≡ false = grind (arith, ints) in
    rw (up, near) refl

least_of : (z : ℤ) (m : ℕ) → unsigned_abs z ≤ m → neg_ℤ (pos m) ≤ℤ z
least_of z m h = omega (arith, ints)

most_of : (z : ℤ) (m : ℕ) → unsigned_abs z ≤ m → z ≤ℤ pos m
most_of z m h = omega (arith, ints)

module _ (text : List ℕ) (h : HydroTable) (sound : IsHydroTable h) (written : IsHydroWritten text h) (six_each : HaveFields 6 (records_of text)) where
  abbrev row_at : ℕ → Row
  row_at k = six (at h.kg k) (at h.draught k) (at h.kmt k) (at h.lcb k) (at h.lcf k) (at h.mct k)

  abbrev rows_to : ℕ → List Row
  rows_to n = map row_at (range_with_len 0 n)

  abbrev rows_are : List Row
  rows_are = rows_to (length h.kg)

  as_many_records : length (records_under text) ≡ length h.kg
  as_many_records = sym (length-map (records_under text) (field_as number_in 0)) ∙ ap length written.kg ∙ length-map h.kg Some

  -- the number of a column in a record
  number_there : (j : ℕ) (zs : List ℤ) → IsNumbers j text zs → (k : ℕ) (fields : Fields) → slice_get (records_under text) k ≡ Some fields → k < length zs
      → field_as number_in j fields ≡ Some (at zs k)
  number_there j zs column k fields e less =
      let left = slice_get-map (field_as number_in j) (records_under text) k ∙ ap (option_map (field_as number_in j)) e in
      let right = slice_get-map Some zs k ∙ ap (option_map Some) (slice_get-get_or zs k (pos 0) less) in
      same_Some (field_as number_in j fields) (Some (at zs k)) (sym left ∙ ap (λ (l : List (Option ℤ)). slice_get l k) column ∙ right)

  within_at : (k : ℕ) → k < length h.kg → AreWithin (at h.kg k) (at h.draught k) (at h.kmt k) (at h.lcb k) (at h.lcf k) (at h.mct k)
  within_at k less = record {
    kg_least = sound.kg_positive k less;
    kg_most = most_of (at h.kg k) 1000000000 (sound.kg_within k);
    draught_least = sound.draught_least k (omega (arith, less, sound.draught_rows));
    draught_most = most_of (at h.draught k) 100000 (sound.draught_within k);
    kmt_least = sound.kmt_least k (omega (arith, less, sound.kmt_rows));
    kmt_most = most_of (at h.kmt k) 1000000 (sound.kmt_within k);
    lcb_least = least_of (at h.lcb k) 1000000 (sound.lcb_within k);
    lcb_most = most_of (at h.lcb k) 1000000 (sound.lcb_within k);
    lcf_least = least_of (at h.lcf k) 1000000 (sound.lcf_within k);
    lcf_most = most_of (at h.lcf k) 1000000 (sound.lcf_within k);
    mct_least = sound.mct_positive k (omega (arith, less, sound.mct_rows));
    mct_most = most_of (at h.mct k) 1000000000 (sound.mct_within k);
  }

  later : (all : List Fields) (k : ℕ) → slice_get all (suc k) ≡ slice_get (drop 1 all) k
  later [] k = refl
  later (heading ∷ records) k = refl

  written_at : (k : ℕ) (fields : Fields) → k < length h.kg → slice_get (records_under text) k ≡ Some fields → row_in hydro_form (k + 2) fields ≡ Ok (row_at k)
  written_at k fields less e =
      row_read (k + 2) fields (at h.kg k) (at h.draught k) (at h.kmt k) (at h.lcb k) (at h.lcf k) (at h.mct k)
      (six_each (suc k) fields (later (records_of text) k ∙ e)) (within_at k less)
      (number_there 0 h.kg written.kg k fields e less)
      (number_there 1 h.draught written.draught k fields e (omega (arith, less, sound.draught_rows)))
      (number_there 2 h.kmt written.kmt k fields e (omega (arith, less, sound.kmt_rows)))
      (number_there 3 h.lcb written.lcb k fields e (omega (arith, less, sound.lcb_rows)))
      (number_there 4 h.lcf written.lcf k fields e (omega (arith, less, sound.lcf_rows)))
      (number_there 5 h.mct written.mct k fields e (omega (arith, less, sound.mct_rows)))

  row_there : (n k : ℕ) → k < n → slice_get (rows_to n) k ≡ Some (row_at k)
  row_there n k less =
      slice_get-get_or (rows_to n) k [] (omega (arith, less, length-map-range_with_len row_at 0 n))
      ∙ ap Some (get_or-map-range_with_len row_at 0 n k k [] less (omega arith))

  comes_at : (k : ℕ) → k < length h.kg → row_fault hydro_form (read_after hydro_form (rows_to k)) (row_at k) ≡ None
  comes_at zero less = comes heading_read (row_at 0) None (omega arith) refl refl
  comes_at (suc j) less =
      let on : suc j ≡ j + 1 = omega arith in
      let all = rows_read heading_read (rows_to (suc j)) in
      let long : length (read_after hydro_form (rows_to (suc j))).rows ≡ suc j = ap length all ∙ length-map-range_with_len row_at 0 (suc j) in
      let end : length (read_after hydro_form (rows_to (suc j))).rows - 1 ≡ j = omega (arith, long) in
      let last : slice_get (read_after hydro_form (rows_to (suc j))).rows (length (read_after hydro_form (rows_to (suc j))).rows - 1) ≡ Some (row_at j) =
      ap (slice_get (read_after hydro_form (rows_to (suc j))).rows) end ∙ ap (λ (l : List Row). slice_get l j) all ∙ row_there (suc j) j (omega arith) in
      let up : at h.kg j <ℤ at h.kg (suc j) = rw on (sound.rises.rises j (omega (arith, less))) in
      let gap : (at h.kg (suc j) -ℤ at h.kg j) ≤ℤ pos 100000000 = rw on (sound.rises.gaps j (omega (arith, less))) in
      comes (read_after hydro_form (rows_to (suc j))) (row_at (suc j)) (Some (row_at j)) (omega (arith, less, long, sound.most)) last
      (above (read_after hydro_form (rows_to (suc j))).line (row_at (suc j)) (row_at j) up gap)

  are_rows : AreRowsOf hydro_form (records_under text) rows_are
  are_rows = record {
    as_many = length-map-range_with_len row_at 0 (length h.kg) ∙ sym as_many_records;
    each = λ k fields row e is.
        let less : k < length h.kg = omega (arith, slice_get_within rows_are k row is, length-map-range_with_len row_at 0 (length h.kg)) in
        let same : row_at k ≡ row = same_Some (row_at k) row (sym (row_there (length h.kg) k less) ∙ is) in
        let before : take k rows_are ≡ rows_to k = take-map-range_with_len row_at 0 (length h.kg) k (omega (arith, less)) in (
          written_at k fields less e ∙ ap Ok same,
          ap (λ (l : List Row). row_fault hydro_form (read_after hydro_form l) row) before
              ∙ ap (λ (w : Row). row_fault hydro_form (read_after hydro_form (rows_to k)) w) (sym same) ∙ comes_at k less,
        );
  }

  under : AreUnderHeading hydro_form text (records_under text)
  under = go (records_of text) refl
    where
      go : (all : List Fields) → records_of text ≡ all → AreUnderHeading hydro_form text (records_under text)
      go [] e = inr (e, ap (drop 1) e)
      go (heading ∷ records) e =
          inl (heading, e ∙ ap (λ (l : List Fields). heading ∷ l) (sym (ap (drop 1) e)), six_each 0 heading (ap (λ (l : List Fields). slice_get l 0) e))

  is_file : IsFile hydro_form text rows_are
  is_file =
      let long : length (read_after hydro_form rows_are).rows ≡ length h.kg = ap length (rows_read heading_read rows_are) ∙ length-map-range_with_len row_at 0 (length h.kg) in
      let enough : nat_lt (length (read_after hydro_form rows_are).rows) 2 ≡ false = grind (arith, nat_tests, long, sound.rows) in
      record { records = records_under text; under = under; are_rows = are_rows; enough = enough }

  -- the columns of the rows
  column_is : (j : ℕ) (zs : List ℤ) → length zs ≡ length h.kg → ((k : ℕ) → number_at (row_at k) j ≡ at zs k) → numbers_of j rows_are ≡ zs
  column_is j zs long e =
      map-map (λ (row : Row). number_at row j) row_at (range_with_len 0 (length h.kg))
      ∙ sym (fill_by_all (λ k. number_at (row_at k) j) zs (length h.kg) (pos 0) long (λ k less. sym (e k)))

  table_is : hydro_table rows_are ≡ h
  table_is = λ i. record {
    kg = column_is 0 h.kg refl (λ k. refl) i;
    draught = column_is 1 h.draught sound.draught_rows (λ k. refl) i;
    kmt = column_is 2 h.kmt sound.kmt_rows (λ k. refl) i;
    lcb = column_is 3 h.lcb sound.lcb_rows (λ k. refl) i;
    lcf = column_is 4 h.lcf sound.lcf_rows (λ k. refl) i;
    mct = column_is 5 h.mct sound.mct_rows (λ k. refl) i;
  }

  pub hydro_read : hydro_in text ≡ Ok h
  hydro_read =
      ap (λ w. w >>= (λ r. Ok (hydro_table r.rows))) (file_sound hydro_form text rows_are is_file)
      ∙ ap (λ (l : List Row). Ok (hydro_table l)) (rows_read heading_read rows_are) ∙ ap Ok table_is

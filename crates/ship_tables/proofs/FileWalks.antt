-- The records of a file give their rows, or the first fault.
use Rattle.std.proofs.Common.{◌≡◌, ◌∙◌, ◌⊎◌, inl, inr, ℕ, zero, suc, ◌+◌, List, [], ◌∷◌, ◌++◌, length, take, append-nil, append_assoc, Bool, true, false, Option, Some, None, Result, Ok, Err, refl, ap, sym, subst, arith}
use Rattle.std.specs.Prelude.{slice_get}
use Rattle.std.specs.List.{fold, flat_map}
use Rattle.std.proofs.lemmas.List.Concat.{flat_map-append}
use Rattle.std.proofs.lemmas.Bool.{cases_eq}
use Rattle.csv_text.specs.Reading.{Fields, records_of}
use Rattle.units_core.specs.Outcome.{◌>>=◌}
use Rattle.ship_tables.specs.declared.faults.TableFault.{TableFault}
use Rattle.ship_tables.specs.declared.faults.TableFault.TheVariants.{BadCsv, TooFewRows}
use Rattle.ship_tables.specs.Outcome.{in_turn}
use Rattle.ship_tables.specs.Tables.{Form, Row, Read, heading_read, tables_after, tables_read, with_row, row_in, row_fault, is_short, belongs, added, enough, read_under, file_in}
use Rattle.ship_tables.specs.Faults.{read_after, rows_of, AreUnderHeading, AreRowsOf, IsFile, IsRefusedRecord, IsFileFault}
use Rattle.ship_tables.proofs.ReadLemmas.{read_of-heading, read_of-other, read_of-none}

-- the rows of all tables, where one more has begun
pub rows_of-tables : (ended : List (List Row)) (rows : List Row) → flat_map (λ table. table) (tables_after ended rows) ≡ flat_map (λ table. table) ended ++ rows
rows_of-tables ended [] = sym (append-nil (flat_map (λ table. table) ended))
rows_of-tables ended (row ∷ rows) =
    flat_map-append (λ table. table) ended ((row ∷ rows) ∷ []) ∙ ap (λ (l : List Row). flat_map (λ table. table) ended ++ l) (append-nil (row ∷ rows))

module _ (form : Form) where
  -- what is read once these rows came after what was read before them
  abbrev after : Read → List Row → Read
  after r rows = fold (with_row form.rule) r rows

  one_line_on : (r : Read) (row : Row) → (with_row form.rule r row).line ≡ r.line + 1
  one_line_on r row = go (belongs form.rule r.rows row) refl
    where
      go : (b : Bool) → belongs form.rule r.rows row ≡ b → (with_row form.rule r row).line ≡ r.line + 1
      go true e = rw e refl
      go false e = rw e refl

  -- each record writes its row, which can come after what was read; record by record
  abbrev Come : Read → List Fields → List Row → Type 0
  Come r [] [] = Unit {0}
  Come r (fields ∷ records) (row ∷ rows) =
      (row_in form r.line fields ≡ Ok row) × (row_fault form r row ≡ None) × Come (with_row form.rule r row) records rows
  Come _ _ _ = ⊥

  -- the same by the numbers of the records
  record AreAfter (r : Read) (records : List Fields) (rows : List Row) : Type 0 where
    as_many : length rows ≡ length records
    each : (k : ℕ) (fields : Fields) (row : Row) → slice_get records k ≡ Some fields → slice_get rows k ≡ Some row
        → (row_in form (k + r.line) fields ≡ Ok row) × (row_fault form (after r (take k rows)) row ≡ None)

  come : (r : Read) (records : List Fields) (rows : List Row) → AreAfter r records rows → Come r records rows
  come r [] [] h = tt
  come r [] (row ∷ rows) h = absurd (omega (arith, h.as_many))
  come r (fields ∷ records) [] h = absurd (omega (arith, h.as_many))
  come r (fields ∷ records) (row ∷ rows) h =
      let none : 0 + r.line ≡ r.line = omega arith in
      let first = rw none at (h.each zero fields row refl refl) in (
        first.0,
        first.1,
        come (with_row form.rule r row) records rows (record {
          as_many = omega (arith, h.as_many);
          each = λ k f w at here.
              let next = h.each (suc k) f w at here in
              let line : k + (with_row form.rule r row).line ≡ suc k + r.line = omega (arith, one_line_on r row) in
              (rw line next.0, next.1);
        }),
      )

  are_after : (r : Read) (records : List Fields) (rows : List Row) → Come r records rows → AreAfter r records rows
  are_after r [] [] h = record { as_many = refl; each = λ k f w at here. cc }
  are_after r [] (row ∷ rows) h = absurd h
  are_after r (fields ∷ records) [] h = absurd h
  are_after r (fields ∷ records) (row ∷ rows) h =
      let rest = are_after (with_row form.rule r row) records rows h.2 in
      record { as_many = ap suc rest.as_many; each = numbered rest }
    where
      numbered : AreAfter (with_row form.rule r row) records rows
          → (k : ℕ) (f : Fields) (w : Row) → slice_get (fields ∷ records) k ≡ Some f → slice_get (row ∷ rows) k ≡ Some w
          → (row_in form (k + r.line) f ≡ Ok w) × (row_fault form (after r (take k (row ∷ rows))) w ≡ None)
      numbered rest zero f w at here =
          let same : fields ≡ f = cc in
          let same_row : row ≡ w = cc in
          let none : 0 + r.line ≡ r.line = omega arith in
          rw (← same, ← same_row, none) (h.0, h.1)
      numbered rest (suc k) f w at here =
          let next = rest.each k f w at here in
          let line : suc k + r.line ≡ k + (with_row form.rule r row).line = omega (arith, one_line_on r row) in
          (rw line next.0, next.1)

  come_first : (records : List Fields) (rows : List Row) → AreRowsOf form records rows → Come heading_read records rows
  come_first records rows h = come heading_read records rows (record { as_many = h.as_many; each = h.each })

  are_rows_of : (records : List Fields) (rows : List Row) → Come heading_read records rows → AreRowsOf form records rows
  are_rows_of records rows h =
      let all = are_after heading_read records rows h in
      record { as_many = all.as_many; each = all.each }

  line_after : (r : Read) (rows : List Row) → (after r rows).line ≡ length rows + r.line
  line_after r [] = omega arith
  line_after r (row ∷ rows) = omega (arith, line_after (with_row form.rule r row) rows, one_line_on r row)

  -- records that write their rows, and what is behind them
  walks_past : (r : Read) (records rest : List Fields) (rows : List Row) → Come r records rows
      → in_turn (added form) r (records ++ rest) ≡ in_turn (added form) (after r rows) rest
  walks_past r [] rest [] h = refl
  walks_past r [] rest (row ∷ rows) h = absurd h
  walks_past r (fields ∷ records) rest [] h = absurd h
  walks_past r (fields ∷ records) rest (row ∷ rows) h = rw (h.0, h.1) (walks_past (with_row form.rule r row) records rest rows h.2)

  walks_on : (r : Read) (records : List Fields) (rows : List Row) → Come r records rows → in_turn (added form) r records ≡ Ok (after r rows)
  walks_on r records rows h = ap (in_turn (added form) r) (sym (append-nil records)) ∙ walks_past r records [] rows h

  -- a record that is refused
  abbrev RefusedAt : ℕ → Read → Fields → TableFault → Type 0
  RefusedAt line r fields f =
      (row_in form line fields ≡ Err f)
      ⊎ ((row : Row) × (row_in form line fields ≡ Ok row) × (row_fault form r row ≡ Some f))

  abbrev Refused : Read → Fields → TableFault → Type 0
  Refused r fields f = RefusedAt r.line r fields f

  stops : (r : Read) (fields : Fields) (behind : List Fields) (f : TableFault) → Refused r fields f
      → in_turn (added form) r (fields ∷ behind) ≡ Err f
  stops r fields behind f (inl h) = rw h refl
  stops r fields behind f (inr h) = rw (h.1, h.2) refl

  -- all rows come, or a record is refused
  record Stopped (r : Read) (records : List Fields) : Type 0 where
    fault : TableFault
    before : List Fields
    fields : Fields
    behind : List Fields
    rows : List Row
    records_are : records ≡ before ++ fields ∷ behind
    come_before : Come r before rows
    refused : Refused (after r rows) fields fault

  stopped_here : (r : Read) (fields : Fields) (behind : List Fields) (f : TableFault) → Refused r fields f → Stopped r (fields ∷ behind)
  stopped_here r fields behind f h = record {
    fault = f;
    before = [];
    fields = fields;
    behind = behind;
    rows = [];
    records_are = refl;
    come_before = tt;
    refused = h;
  }

  stopped_behind : (r : Read) (fields : Fields) (row : Row) (records : List Fields) → row_in form r.line fields ≡ Ok row → row_fault form r row ≡ None
      → Stopped (with_row form.rule r row) records → Stopped r (fields ∷ records)
  stopped_behind r fields row records is comes h = record {
    fault = h.fault;
    before = fields ∷ h.before;
    fields = h.fields;
    behind = h.behind;
    rows = row ∷ h.rows;
    records_are = ap (λ (l : List Fields). fields ∷ l) h.records_are;
    come_before = (is, comes, h.come_before);
    refused = h.refused;
  }

  abbrev Either : Read → List Fields → Type 0
  Either r records = ((rows : List Row) × Come r records rows) ⊎ Stopped r records

  either_from : (r : Read) (records : List Fields) → Either r records
  either_from r [] = inl ([], tt)
  either_from r (fields ∷ behind) = go (row_in form r.line fields) refl (λ longer. either_from longer behind)
    where
      by_row : (row : Row) → row_in form r.line fields ≡ Ok row → Either (with_row form.rule r row) behind
          → (o : Option TableFault) → row_fault form r row ≡ o → Either r (fields ∷ behind)
      by_row row is on (Some f) e = inr (stopped_here r fields behind f (inr (row, is, e)))
      by_row row is (inl h) None e = inl (row ∷ h.0, (is, e, h.1))
      by_row row is (inr h) None e = inr (stopped_behind r fields row behind is e h)

      go : (w : Result Row TableFault) → row_in form r.line fields ≡ w → ((longer : Read) → Either longer behind) → Either r (fields ∷ behind)
      go (Err f) is on = inr (stopped_here r fields behind f (inl is))
      go (Ok row) is on = by_row row is (on (with_row form.rule r row)) (row_fault form r row) refl

  -- no row is lost
  rows_of-row : (r : Read) (row : Row) → rows_of (with_row form.rule r row) ≡ rows_of r ++ row ∷ []
  rows_of-row r row = go (belongs form.rule r.rows row) refl
    where
      go : (b : Bool) → belongs form.rule r.rows row ≡ b → rows_of (with_row form.rule r row) ≡ rows_of r ++ row ∷ []
      go true e =
          rw e (rows_of-tables r.ended (r.rows ++ row ∷ []) ∙ sym (append_assoc (flat_map (λ table. table) r.ended) r.rows (row ∷ []))
          ∙ ap (λ (l : List Row). l ++ row ∷ []) (sym (rows_of-tables r.ended r.rows)))
      go false e = rw e (rows_of-tables (tables_read r) (row ∷ []))

  rows_of-after : (r : Read) (rows : List Row) → rows_of (after r rows) ≡ rows_of r ++ rows
  rows_of-after r [] = sym (append-nil (rows_of r))
  rows_of-after r (row ∷ rows) =
      rows_of-after (with_row form.rule r row) rows ∙ ap (λ (l : List Row). l ++ rows) (rows_of-row r row) ∙ append_assoc (rows_of r) (row ∷ []) rows

  pub all_read : (rows : List Row) → rows_of (read_after form rows) ≡ rows
  all_read rows = rows_of-after heading_read rows

  -- the heading
  under_is : (text : List ℕ) (records : List Fields) → AreUnderHeading form text records → file_in form text ≡ read_under form records
  under_is text records (inl h) = read_of-heading form (records_of text) records h.0 h.1 h.2
  under_is text records (inr h) = read_of-none form (records_of text) h.0 ∙ ap (read_under form) (sym h.1)

  -- whether a table has too few rows
  walked : (text : List ℕ) (records : List Fields) (rows : List Row) → AreUnderHeading form text records → AreRowsOf form records rows
      → file_in form text ≡ enough form (read_after form rows)
  walked text records rows under h =
      under_is text records under ∙ ap (λ w. w >>= enough form) (walks_on heading_read records rows (come_first records rows h))

  pub file_sound : (text : List ℕ) (rows : List Row) → IsFile form text rows → file_in form text ≡ Ok (read_after form rows)
  file_sound text rows h = walked text h.records rows h.under h.are_rows ∙ (rw h.enough refl)

  refused_after : (rows : List Row) (fields : Fields) (f : TableFault) → IsRefusedRecord form rows fields f → Refused (read_after form rows) fields f
  refused_after rows fields f h =
      subst (λ (n : ℕ). RefusedAt n (read_after form rows) fields f) (sym (line_after heading_read rows)) h

  pub file_fault : (text : List ℕ) (f : TableFault) → IsFileFault form text f → file_in form text ≡ Err f
  file_fault text f (inl h) = read_of-other form (records_of text) h.records h.heading h.records_are h.other ∙ ap Err (sym h.fault_is)
  file_fault text f (inr (inl h)) =
      let past = walks_past heading_read h.before (h.fields ∷ h.behind) h.rows (come_first h.before h.rows h.are_rows) in
      let stop = stops (read_after form h.rows) h.fields h.behind f (refused_after h.rows h.fields f h.refused) in
      under_is text (h.before ++ h.fields ∷ h.behind) h.under ∙ ap (λ w. w >>= enough form) (past ∙ stop)
  file_fault text f (inr (inr h)) = walked text h.records h.rows h.under h.are_rows ∙ (rw (h.short, h.fault_is) refl)

  -- each text is one or the other
  abbrev EitherFile : List ℕ → Type 0
  EitherFile text = ((rows : List Row) × IsFile form text rows) ⊎ ((f : TableFault) × IsFileFault form text f)

  by_rows : (text : List ℕ) (records : List Fields) (rows : List Row) → AreUnderHeading form text records → AreRowsOf form records rows
      → (b : Bool) → is_short form.rule form.least (read_after form rows) ≡ b → EitherFile text
  by_rows text records rows under h false e = inl (rows, record { records = records; under = under; are_rows = h; enough = e })
  by_rows text records rows under h true e = inr (
    TooFewRows form.file,
    inr (inr (record { records = records; rows = rows; under = under; are_rows = h; short = e; fault_is = refl })),
  )

  by_records : (text : List ℕ) (records : List Fields) → AreUnderHeading form text records → Either heading_read records → EitherFile text
  by_records text records under (inl h) = by_rows text records h.0 under (are_rows_of records h.0 h.1) (is_short form.rule form.least (read_after form h.0)) refl
  by_records text records under (inr h) = inr (
    h.fault,
    inr (inl (record {
      before = h.before;
      fields = h.fields;
      behind = h.behind;
      rows = h.rows;
      under = subst (AreUnderHeading form text) h.records_are under;
      are_rows = are_rows_of h.before h.rows h.come_before;
      refused = refused_at;
    })),
  )
    where
      refused_at : IsRefusedRecord form h.rows h.fields h.fault
      refused_at = subst (λ (n : ℕ). RefusedAt n (read_after form h.rows) h.fields h.fault) (line_after heading_read h.rows) h.refused

  pub file_either : (text : List ℕ) → ((rows : List Row) × IsFile form text rows) ⊎ ((f : TableFault) × IsFileFault form text f)
  file_either text = go (records_of text) refl
    where
      go : (all : List Fields) → records_of text ≡ all → EitherFile text
      go [] e = by_records text [] (inr (e, refl)) (either_from heading_read [])
      go (heading ∷ records) e =
          elim (cases_eq (length heading) (length form.columns)) [
            | inl same ↦ by_records text records (inl (heading, e, same)) (either_from heading_read records)
            | inr other ↦ inr (
              BadCsv form.file 1,
              inl (record { heading = heading; records = records; records_are = e; other = other; fault_is = refl }),
            )
          ]

-- The records of a steps file give their rows, or the first fault.
use Rattle.std.proofs.Common.{◌≡◌, ◌∙◌, ◌⊎◌, inl, inr, ℕ, zero, suc, ◌+◌, ◌-◌, ◌<◌, ◌≤◌, ◌==◌, ◌&&◌, ℤ, pos, negsuc, nat_lt, nat_le, Bool, true, false, cond, List, [], ◌∷◌, ◌++◌, append_assoc, append-nil, map, length, length-append, Option, Some, None, Result, Ok, Err, bytes_eq, codes, refl, ap, sym, subst, arith}
use Rattle.std.specs.List.{filter}
use Rattle.std.proofs.lemmas.Bool.{cases_lt, cases_eq, and_parts, leb-true, eqb-true}
use Rattle.std.proofs.lemmas.Bool.Decides.{nat_tests}
use Rattle.std.proofs.lemmas.List.{length-map, length_push}
use Rattle.std.proofs.lemmas.List.Elements.{filter-append}
use Rattle.arrayvec.specs.ArrayVec.{ArrayVec}
use Rattle.units_core.specs.declared.cells.Cell.{Cell}
use Rattle.units_core.specs.Cells.{cell_in}
use Rattle.csv_text.specs.Numbers.{number_in}
use Rattle.csv_text.specs.Reading.{Fields, records_of}
use Rattle.stow_messages.specs.declared.step_rows.StepRow.{StepRow}
use Rattle.stow_messages.specs.declared.step_rows.StepRow.TheVariants.{Lift}
use Rattle.stow_messages.specs.declared.step_faults.StepsFault.{StepsFault}
use Rattle.stow_messages.specs.declared.step_faults.StepsCode.{StepsCode}
use Rattle.stow_messages.specs.declared.step_faults.StepsCode.TheVariants.{BadCsv, BadField, LiftTwice, LiftMissing, TooMany}
use Rattle.stow_messages.specs.StepFaults.{AreUnderHeading, AreRows, NoLiftTwice, AreSteps, IsRefusedRecord, IsStepsFault}
use Rattle.units_core.specs.Outcome.{or_fault}
use Rattle.stow_messages.specs.Steps.{lift_number, lift_row, text_of, mass_of, tank_of, restow_of, row_of, is_lift, stands, repeats, with_record, fault_at, at_record, rows_from, rows_under, missing_from, steps_of, EachLiftOnce}
use Rattle.stow_messages.specs.StepsSoFar.{IsWithin}
use Rattle.stow_messages.proofs.EntryLemmas.{followed, told}
use Rattle.stow_messages.proofs.StepLemmas.{missing-none, missing-at, missing-tells}

-- What a record writes: a lift is one of the lifts, and a fault has a place.
abbrev IsWritten : ℕ → Result StepRow StepsCode → Type 0
IsWritten lifts (Ok row) = IsWithin lifts row
IsWritten lifts (Err code) = (at : ℕ) → fault_at code at ≡ record { code = code; at = at }

by_test : (lifts : ℕ) (b : Bool) (x y : Result StepRow StepsCode) → IsWritten lifts x → IsWritten lifts y → IsWritten lifts (cond b x y)
by_test lifts true x y p q = p
by_test lifts false x y p q = q

lift_written : (lifts : ℕ) (number : Option ℤ) → IsWritten lifts (lift_row lifts number)
lift_written lifts None = λ at. refl
lift_written lifts (Some (negsuc n)) = λ at. refl
lift_written lifts (Some (pos n)) = go (nat_le 1 n && nat_le n lifts) refl
  where
    go : (b : Bool) → (nat_le 1 n && nat_le n lifts) ≡ b → IsWritten lifts (lift_row lifts (Some (pos n)))
    go true e = let bounds = and_parts _ _ e in rw e (leb-true _ _ bounds.0, leb-true _ _ bounds.1)
    go false e = rw e (λ at. refl)

tank_written : (lifts : ℕ) (name : Option (ArrayVec ℕ)) (kg : Option ℕ) (third : List ℕ)
    → IsWritten lifts (or_fault BadField (tank_of name kg third))
tank_written lifts (Some name) (Some kg) [] = tt
tank_written lifts name kg third = λ at. refl

restow_written : (lifts : ℕ) (from to : Option Cell) (id : Option (ArrayVec ℕ)) → IsWritten lifts (or_fault BadField (restow_of from to id))
restow_written lifts (Some from) (Some to) (Some id) = tt
restow_written lifts from to id = λ at. refl

row_written : (lifts : ℕ) (fields : Fields) → IsWritten lifts (row_of lifts fields)
row_written lifts (kind ∷ first ∷ second ∷ third ∷ []) =
    by_test lifts (bytes_eq kind (codes "lift")) _ _ (lift_written lifts (lift_number first second third))
    (by_test lifts (bytes_eq kind (codes "tank")) _ _ (tank_written lifts (text_of 1 16 first) (mass_of (number_in second)) third)
    (by_test lifts (bytes_eq kind (codes "restow")) _ _ (restow_written lifts (cell_in first) (cell_in second) (text_of 0 17 third)) (λ at. refl)))
row_written lifts fields = λ at. refl

-- how often a lift stands
abbrev times : ℕ → List StepRow → ℕ
times n rows = length (filter (is_lift n) rows)

times_append : (n : ℕ) (rows more : List StepRow) → times n (rows ++ more) ≡ times n rows + times n more
times_append n rows more =
    ap length (filter-append (is_lift n) rows more) ∙ length-append (filter (is_lift n) rows) (filter (is_lift n) more)

never : (n : ℕ) (rows : List StepRow) → stands n rows ≡ false → times n rows ≡ 0
never n [] h = refl
never n (row ∷ rows) h = go (is_lift n row) refl (never n rows)
  where
    go : (b : Bool) → is_lift n row ≡ b → (stands n rows ≡ false → times n rows ≡ 0) → times n (row ∷ rows) ≡ 0
    go true e on = let no : ◌≡◌ {A = Bool} true false = rw e at h in cc no
    go false e on = rw e (on (rw e at h))

once_or_more : (n : ℕ) (rows : List StepRow) → stands n rows ≡ true → 1 ≤ times n rows
once_or_more n [] h = cc h
once_or_more n (row ∷ rows) h = go (is_lift n row) refl (once_or_more n rows)
  where
    go : (b : Bool) → is_lift n row ≡ b → (stands n rows ≡ true → 1 ≤ times n rows) → 1 ≤ times n (row ∷ rows)
    go true e on = rw e (omega arith)
    go false e on = rw e (on (rw e at h))

stands_if_once : (n : ℕ) (rows : List StepRow) → times n rows ≡ 1 → stands n rows ≡ true
stands_if_once n rows h = go (stands n rows) refl
  where
    go : (b : Bool) → stands n rows ≡ b → stands n rows ≡ true
    go true e = e
    go false e = absurd (omega (arith, h, never n rows e))

-- a row that no row before it repeats
not_repeated : (rows more : List StepRow) (row : StepRow) → NoLiftTwice (rows ++ row ∷ more) → repeats rows row ≡ false
not_repeated rows more (Lift n) once = go (stands n rows) refl
  where
    go : (b : Bool) → stands n rows ≡ b → stands n rows ≡ false
    go false e = e
    go true e =
        let self : (n == n) ≡ true = grind (arith, nat_tests) in
        let more_than_one : times n (Lift n ∷ more) ≡ suc (times n more) = rw self refl in
        let both = times_append n rows (Lift n ∷ more) in
        absurd (omega (arith, once n, both, more_than_one, once_or_more n rows e))
not_repeated rows more row once = refl

is_fresh : (n : ℕ) (rows : List StepRow) (row : StepRow) → repeats rows row ≡ false → is_lift n row ≡ true → stands n rows ≡ false
is_fresh n rows (Lift m) h e = let same : n ≡ m = eqb-true n m e in rw same h
is_fresh n rows row h e = cc e

still_once : (rows : List StepRow) (row : StepRow) → NoLiftTwice rows → repeats rows row ≡ false → NoLiftTwice (rows ++ row ∷ [])
still_once rows row once fresh n = go (is_lift n row) refl
  where
    go : (b : Bool) → is_lift n row ≡ b → times n (rows ++ row ∷ []) ≤ 1
    go true e =
        let before = never n rows (is_fresh n rows row fresh e) in
        let one : times n (row ∷ []) ≡ 1 = rw e refl in
        omega (arith, before, times_append n rows (row ∷ []), one)
    go false e =
        let none : times n (row ∷ []) ≡ 0 = rw e refl in
        omega (arith, once n, times_append n rows (row ∷ []), none)

repeated : (rows : List StepRow) (row : StepRow) → repeats rows row ≡ true → (n : ℕ) × (row ≡ Lift n) × (stands n rows ≡ true)
repeated rows (Lift n) h = (n, refl, h)
repeated rows row h = cc h

-- records that write their rows
rows_on : (lifts : ℕ) (start rows : List StepRow) (records : List Fields) → map (row_of lifts) records ≡ map Ok rows
    → NoLiftTwice (start ++ rows)
    → length (start ++ rows) ≤ 200000 → rows_from lifts start records ≡ Ok (start ++ rows)
rows_on lifts start [] [] written once few = ap Ok (sym (append-nil start))
rows_on lifts start [] (fields ∷ records) written once few = cc written
rows_on lifts start (row ∷ rows) [] written once few = cc written
rows_on lifts start (row ∷ rows) (fields ∷ records) written once few =
    let here : row_of lifts fields ≡ Ok row = cc in
    let rest : map (row_of lifts) records ≡ map Ok rows = cc in
    let test : nat_lt (length start) 200000 ≡ true = grind (arith, nat_tests, length-append start (row ∷ rows)) in
    let fresh : repeats start row ≡ false = not_repeated start rows row once in
    let grouped : (start ++ row ∷ []) ++ rows ≡ start ++ row ∷ rows = append_assoc start (row ∷ []) rows in
    rw (test, here, fresh) (rows_on lifts (start ++ row ∷ []) rows records rest (subst NoLiftTwice (sym grouped) once)
    (subst (λ (l : List StepRow). length l ≤ 200000) (sym grouped) few) ∙ ap Ok grouped)

rows_past : (lifts : ℕ) (start rows : List StepRow) (before rest : List Fields) → rows_from lifts start before ≡ Ok rows
    → rows_from lifts start (before ++ rest) ≡ rows_from lifts rows rest
rows_past lifts start rows [] rest h = let same : start ≡ rows = cc in rw same refl
rows_past lifts start rows (fields ∷ before) rest h =
    followed (at_record (length start + 2) (with_record lifts start fields)) (λ longer. rows_from lifts longer before) rows
    (rows_from lifts start ((fields ∷ before) ++ rest) ≡ rows_from lifts rows rest) h
    (λ longer is on. rw is (rows_past lifts longer rows before rest on))

-- a record that is refused
refused_code : (lifts : ℕ) (rows : List StepRow) (fields : Fields) (code : StepsCode) → IsRefusedRecord lifts rows fields code
    → (with_record lifts rows fields ≡ Err code) × ((at : ℕ) → fault_at code at ≡ record { code = code; at = at })
refused_code lifts rows fields code (inl h) =
    let test : nat_lt (length rows) 200000 ≡ false = grind (arith, nat_tests, h.0) in
    rw (h.1, test) (refl, λ at. refl)
refused_code lifts rows fields code (inr (inl h)) =
    let test : nat_lt (length rows) 200000 ≡ true = grind (arith, nat_tests, h.0) in
    let placed : (at : ℕ) → fault_at code at ≡ record { code = code; at = at } = rw h.1 at (row_written lifts fields) in
    (rw (test, h.1) refl, placed)
refused_code lifts rows fields code (inr (inr h)) =
    let test : nat_lt (length rows) 200000 ≡ true = grind (arith, nat_tests, h.1) in
    rw (h.4, test, h.2, h.3) (refl, λ at. refl)

row_stops : (lifts : ℕ) (rows : List StepRow) (fields : Fields) (behind : List Fields) (f : StepsFault)
    → IsRefusedRecord lifts rows fields f.code → f.at ≡ length rows + 2
    → rows_from lifts rows (fields ∷ behind) ≡ Err f
row_stops lifts rows fields behind f h at =
    let code = refused_code lifts rows fields f.code h in
    let same : ◌≡◌ {A = StepsFault} (record { code = f.code; at = length rows + 2 }) f = λ i. record { code = f.code; at = sym at i } in
    rw code.0 (ap Err (code.1 (length rows + 2) ∙ same))

as_many : (lifts : ℕ) (records : List Fields) (rows : List StepRow) → map (row_of lifts) records ≡ map Ok rows
    → length records ≡ length rows
as_many lifts records rows written = sym (length-map records (row_of lifts)) ∙ ap length written ∙ length-map rows Ok

-- behind some rows, the rows of the records, or the first record that is refused
record AreOn (lifts : ℕ) (start : List StepRow) (records : List Fields) (rows : List StepRow) : Type 0 where
  written : map (row_of lifts) records ≡ map Ok rows
  once : NoLiftTwice (start ++ rows)
  few : length (start ++ rows) ≤ 200000

record AreStopped (lifts : ℕ) (start : List StepRow) (records : List Fields) : Type 0 where
  code : StepsCode
  before : List Fields
  fields : Fields
  behind : List Fields
  rows : List StepRow
  records_are : records ≡ before ++ fields ∷ behind
  on : AreOn lifts start before rows
  refused : IsRefusedRecord lifts (start ++ rows) fields code

abbrev EitherOn : ℕ → List StepRow → List Fields → Type 0
EitherOn lifts start records = ((rows : List StepRow) × AreOn lifts start records rows) ⊎ AreStopped lifts start records

module _ (lifts : ℕ) (start : List StepRow) where
  none_yet : NoLiftTwice start → length start ≤ 200000 → AreOn lifts start [] []
  none_yet once few = record { written = refl; once = subst NoLiftTwice (sym (append-nil start)) once; few = rw append-nil few }

  stopped_here : (fields : Fields) (behind : List Fields) (code : StepsCode) → NoLiftTwice start → length start ≤ 200000
      → IsRefusedRecord lifts start fields code
      → AreStopped lifts start (fields ∷ behind)
  stopped_here fields behind code once few refused = record {
    code = code;
    before = [];
    fields = fields;
    behind = behind;
    rows = [];
    records_are = refl;
    on = none_yet once few;
    refused = subst (λ (l : List StepRow). IsRefusedRecord lifts l fields code) (sym (append-nil start)) refused;
  }

  one_more : (fields : Fields) (row : StepRow) (records : List Fields) (rows : List StepRow) → row_of lifts fields ≡ Ok row
      → AreOn lifts (start ++ row ∷ []) records rows
      → AreOn lifts start (fields ∷ records) (row ∷ rows)
  one_more fields row records rows is h = record {
    written = λ i. is i ∷ h.written i;
    once = subst NoLiftTwice (append_assoc start (row ∷ []) rows) h.once;
    few = subst (λ (l : List StepRow). length l ≤ 200000) (append_assoc start (row ∷ []) rows) h.few;
  }

  stopped_behind : (fields : Fields) (row : StepRow) (records : List Fields) → row_of lifts fields ≡ Ok row
      → AreStopped lifts (start ++ row ∷ []) records
      → AreStopped lifts start (fields ∷ records)
  stopped_behind fields row records is h = record {
    code = h.code;
    before = fields ∷ h.before;
    fields = h.fields;
    behind = h.behind;
    rows = row ∷ h.rows;
    records_are = ap (λ (l : List Fields). fields ∷ l) h.records_are;
    on = one_more fields row h.before h.rows is h.on;
    refused = subst (λ (l : List StepRow). IsRefusedRecord lifts l h.fields h.code) (append_assoc start (row ∷ []) h.rows) h.refused;
  }

-- a record behind fewer than 200,000 rows
module _ (lifts : ℕ) (start : List StepRow) (fields : Fields) (behind : List Fields) (once : NoLiftTwice start) (low : length start < 200000) where
  by_row : (row : StepRow) → row_of lifts fields ≡ Ok row
      → (NoLiftTwice (start ++ row ∷ []) → length (start ++ row ∷ []) ≤ 200000 → EitherOn lifts (start ++ row ∷ []) behind)
      → (b : Bool) → repeats start row ≡ b → EitherOn lifts start (fields ∷ behind)
  by_row row is on true e =
      let at = repeated start row e in
      inr (stopped_here lifts start fields behind LiftTwice once (omega arith) (inr (inr (at.0, low, is ∙ ap Ok at.1, at.2, refl))))
  by_row row is on false e =
      elim (on (still_once start row once e) (omega (arith, length_push start row))) [
        | inl h ↦ inl (row ∷ h.0, one_more lifts start fields row behind h.0 is h.1)
        | inr h ↦ inr (stopped_behind lifts start fields row behind is h)
      ]

  by_record : (r : Result StepRow StepsCode) → row_of lifts fields ≡ r
      → ((longer : List StepRow) → NoLiftTwice longer → length longer ≤ 200000 → EitherOn lifts longer behind)
      → EitherOn lifts start (fields ∷ behind)
  by_record (Err code) is on = inr (stopped_here lifts start fields behind code once (omega arith) (inr (inl (low, is))))
  by_record (Ok row) is on = by_row row is (on (start ++ row ∷ [])) (repeats start row) refl

either_on : (lifts : ℕ) (start : List StepRow) (records : List Fields) → NoLiftTwice start → length start ≤ 200000
    → EitherOn lifts start records
either_on lifts start [] once few = inl ([], none_yet lifts start once few)
either_on lifts start (fields ∷ behind) once few = go (cases_lt (length start) 200000) (λ longer. either_on lifts longer behind)
  where
    go : (length start < 200000) ⊎ (200000 ≤ length start)
        → ((longer : List StepRow) → NoLiftTwice longer → length longer ≤ 200000 → EitherOn lifts longer behind)
        → EitherOn lifts start (fields ∷ behind)
    go (inl low) on = by_record lifts start fields behind once low (row_of lifts fields) refl on
    go (inr full) on = inr (stopped_here lifts start fields behind TooMany once few (inl (omega (arith, few, full), refl)))

-- the lifts that are missing
missing-some : (rows : List StepRow) (n count m : ℕ) → missing_from rows n count ≡ Some m
    → (n ≤ m) × (m < n + count) × (stands m rows ≡ false) × ((j : ℕ) → n ≤ j → j < m → stands j rows ≡ true)
missing-some rows n zero m h = cc h
missing-some rows n (suc count) m h = go (stands n rows) refl (missing-some rows (n + 1) count m)
  where
    go : (b : Bool) → stands n rows ≡ b
        → (missing_from rows (n + 1) count ≡ Some m → (n + 1 ≤ m) × (m < n + 1 + count) × (stands m rows ≡ false) × ((j : ℕ) → n + 1 ≤ j → j < m → stands j rows ≡ true))
        → (n ≤ m) × (m < n + suc count) × (stands m rows ≡ false) × ((j : ℕ) → n ≤ j → j < m → stands j rows ≡ true)
    go false e on =
        let found : ◌≡◌ {A = Option ℕ} (Some n) (Some m) = rw e at h in
        let same : n ≡ m = cc in
        (omega arith, omega arith, rw (← same) e, λ j low high. absurd (omega arith))
    go true e on =
        let behind = on (rw e at h) in
        (omega (arith, behind.0), omega (arith, behind.1), behind.2, λ j low high. each j low high behind.3 (cases_lt n j))
      where
        each : (j : ℕ) → n ≤ j → j < m → ((i : ℕ) → n + 1 ≤ i → i < m → stands i rows ≡ true) → (n < j) ⊎ (j ≤ n) → stands j rows ≡ true
        each j low high behind (inl above) = behind j (omega arith) high
        each j low high behind (inr below) = let same : j ≡ n = omega arith in rw same e

-- no row is another lift
no_other : (lifts n : ℕ) (row : StepRow) → IsWithin lifts row → (nat_le 1 n && nat_le n lifts) ≡ false → is_lift n row ≡ false
no_other lifts n (Lift m) h e = grind (arith, nat_tests, h.0, h.1)
no_other lifts n row h e = refl

none_beyond : (lifts n : ℕ) (records : List Fields) (rows : List StepRow) → map (row_of lifts) records ≡ map Ok rows
    → (nat_le 1 n && nat_le n lifts) ≡ false → times n rows ≡ 0
none_beyond lifts n records [] written e = refl
none_beyond lifts n [] (row ∷ rows) written e = cc written
none_beyond lifts n (fields ∷ records) (row ∷ rows) written e =
    let here : row_of lifts fields ≡ Ok row = cc in
    let rest : map (row_of lifts) records ≡ map Ok rows = cc in
    let inside : IsWithin lifts row = rw here at (row_written lifts fields) in
    rw (no_other lifts n row inside e) (none_beyond lifts n records rows rest e)

each_once : (lifts : ℕ) (records : List Fields) (rows : List StepRow) → map (row_of lifts) records ≡ map Ok rows → NoLiftTwice rows
    → missing_from rows 1 lifts ≡ None → EachLiftOnce lifts rows
each_once lifts records rows written once none n = go (nat_le 1 n && nat_le n lifts) refl
  where
    go : (b : Bool) → (nat_le 1 n && nat_le n lifts) ≡ b → times n rows ≡ cond (nat_le 1 n && nat_le n lifts) 1 0
    go true e =
        let bounds = and_parts _ _ e in
        let low = leb-true 1 n bounds.0 in
        let high = leb-true n lifts bounds.1 in
        let one = once_or_more n rows (missing-tells rows 1 lifts none n low (omega (arith, high))) in
        rw e (omega (arith, once n, one))
    go false e = rw e (none_beyond lifts n records rows written e)

not_twice : (lifts : ℕ) (rows : List StepRow) → EachLiftOnce lifts rows → NoLiftTwice rows
not_twice lifts rows once n = go (nat_le 1 n && nat_le n lifts) (once n)
  where
    go : (b : Bool) → times n rows ≡ cond b 1 0 → times n rows ≤ 1
    go true h = omega (arith, h)
    go false h = omega (arith, h)

none_missing : (lifts : ℕ) (rows : List StepRow) → EachLiftOnce lifts rows → missing_from rows 1 lifts ≡ None
none_missing lifts rows once = missing-none rows 1 lifts (λ j low high.
    let test : (nat_le 1 j && nat_le j lifts) ≡ true = grind (arith, nat_tests) in
    stands_if_once j rows (rw test at (once j)))

-- the heading
under_is : (lifts : ℕ) (text : List ℕ) (records : List Fields) → AreUnderHeading text records
    → rows_under lifts (records_of text) ≡ rows_from lifts [] records
under_is lifts text records (inl h) =
    let test : (length h.0 == 4) ≡ true = grind (arith, nat_tests, h.2) in
    ap (rows_under lifts) h.1 ∙ (rw test refl)
under_is lifts text records (inr h) = ap (rows_under lifts) h.0 ∙ (rw h.1 refl)

rows_are : (lifts : ℕ) (text : List ℕ) (records : List Fields) (rows : List StepRow) → AreUnderHeading text records
    → AreRows lifts records rows → NoLiftTwice rows
    → rows_under lifts (records_of text) ≡ Ok rows
rows_are lifts text records rows under are once = under_is lifts text records under ∙ rows_on lifts [] rows records are.written once are.few

-- a text that is a steps file
pub steps_sound : (lifts : ℕ) (text : List ℕ) (rows : List StepRow) → AreSteps lifts text rows → steps_of lifts text ≡ Ok rows
steps_sound lifts text rows h =
    rw (rows_are lifts text h.records rows h.under h.are_rows (not_twice lifts rows h.once), none_missing lifts rows h.once) refl

pub as_many_rows : (lifts : ℕ) (text : List ℕ) (rows : List StepRow) → AreSteps lifts text rows → length rows ≡ length (records_of text) - 1
as_many_rows lifts text rows h = go h.under (as_many lifts h.records rows h.are_rows.written)
  where
    go : AreUnderHeading text h.records → length h.records ≡ length rows → length rows ≡ length (records_of text) - 1
    go (inl u) many = rw u.1 (omega (arith, many))
    go (inr u) many = let none : length h.records ≡ 0 = rw u.1 refl in rw u.0 (omega (arith, many, none))

-- a text that is none
pub steps_fault : (lifts : ℕ) (text : List ℕ) (f : StepsFault) → IsStepsFault lifts text f → steps_of lifts text ≡ Err f
steps_fault lifts text f (inl h) =
    let test : (length h.heading == 4) ≡ false = grind (arith, nat_tests, h.not_four) in
    let under : rows_under lifts (records_of text) ≡ Err f = ap (rows_under lifts) h.records_are ∙ (rw (test, h.fault_is) refl) in
    rw under refl
steps_fault lifts text f (inr (inl h)) =
    let many = as_many lifts h.before h.rows h.are_rows.written in
    let under : rows_under lifts (records_of text) ≡ Err f =
    under_is lifts text (h.before ++ h.fields ∷ h.behind) h.under
    ∙ rows_past lifts [] h.rows h.before (h.fields ∷ h.behind) (rows_on lifts [] h.rows h.before h.are_rows.written h.none_twice h.are_rows.few)
    ∙ row_stops lifts h.rows h.fields h.behind f h.refused (h.place_is ∙ ap (λ (n : ℕ). n + 2) many) in
    rw under refl
steps_fault lifts text f (inr (inr h)) =
    let missing : missing_from h.rows 1 lifts ≡ Some f.at = missing-at h.rows 1 lifts f.at h.positive (omega (arith, h.within)) h.least h.missing in
    let same : ◌≡◌ {A = StepsFault} (record { code = LiftMissing; at = f.at }) f = λ i. record { code = sym h.code_is i; at = f.at } in
    rw (rows_are lifts text h.records h.rows h.under h.are_rows h.none_twice, missing) (ap Err same)

-- each text is one or the other
abbrev EitherSteps : ℕ → List ℕ → Type 0
EitherSteps lifts text = ((rows : List StepRow) × AreSteps lifts text rows) ⊎ ((f : StepsFault) × IsStepsFault lifts text f)

by_missing : (lifts : ℕ) (text : List ℕ) (records : List Fields) (rows : List StepRow) → AreUnderHeading text records
    → AreOn lifts [] records rows
    → (o : Option ℕ) → missing_from rows 1 lifts ≡ o → EitherSteps lifts text
by_missing lifts text records rows under on None e = inl (
  rows,
  record {
    records = records;
    under = under;
    are_rows = record { written = on.written; few = on.few };
    once = each_once lifts records rows on.written on.once e;
  },
)
by_missing lifts text records rows under on (Some m) e =
    let at = missing-some rows 1 lifts m e in
    inr (
      record { code = LiftMissing; at = m },
      inr (inr (record {
        records = records;
        rows = rows;
        under = under;
        are_rows = record { written = on.written; few = on.few };
        none_twice = on.once;
        code_is = refl;
        positive = at.0;
        within = omega (arith, at.1);
        missing = at.2;
        least = at.3;
      })),
    )

by_records : (lifts : ℕ) (text : List ℕ) (records : List Fields) → AreUnderHeading text records → EitherOn lifts [] records
    → EitherSteps lifts text
by_records lifts text records under (inl h) = by_missing lifts text records h.0 under h.1 (missing_from h.0 1 lifts) refl
by_records lifts text records under (inr h) =
    inr (
      record { code = h.code; at = length h.before + 2 },
      inr (inl (record {
        before = h.before;
        fields = h.fields;
        behind = h.behind;
        rows = h.rows;
        under = subst (AreUnderHeading text) h.records_are under;
        are_rows = record { written = h.on.written; few = h.on.few };
        none_twice = h.on.once;
        refused = h.refused;
        place_is = refl;
      })),
    )

pub steps_either : (lifts : ℕ) (text : List ℕ)
    → ((rows : List StepRow) × AreSteps lifts text rows) ⊎ ((f : StepsFault) × IsStepsFault lifts text f)
steps_either lifts text = go (records_of text) refl
  where
    go : (all : List Fields) → records_of text ≡ all → EitherSteps lifts text
    go [] e = by_records lifts text [] (inr (e, refl)) (either_on lifts [] [] (λ n. omega arith) (omega arith))
    go (heading ∷ records) e =
        elim (cases_eq (length heading) 4) [
          | inl four ↦ by_records lifts text records (inl (heading, e, four)) (either_on lifts [] records (λ n. omega arith) (omega arith))
          | inr other ↦ inr (
            record { code = BadCsv; at = 1 },
            inl (record {
              heading = heading;
              records = records;
              records_are = e;
              not_four = other;
              fault_is = refl;
            }),
          )
        ]

pub are_steps : (lifts : ℕ) (text : List ℕ) (rows : List StepRow) → steps_of lifts text ≡ Ok rows → AreSteps lifts text rows
are_steps lifts text = told (steps_of lifts text) (AreSteps lifts text) (IsStepsFault lifts text) (steps_sound lifts text) (steps_fault lifts text) (steps_either lifts text)

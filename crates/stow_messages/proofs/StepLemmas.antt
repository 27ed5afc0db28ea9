-- The rows of a steps file: their flags, and the lifts that are missing.
use Rattle.std.proofs.Common.{◌≡◌, ◌≢◌, ◌∙◌, ℕ, zero, suc, ◌+◌, ◌<◌, ◌≤◌, ◌==◌, ◌-◌, nat_lt, Bool, true, false, ◌||◌, List, [], ◌∷◌, ◌++◌, length, get_or, set, Option, Some, None, Ok, Err, refl, ap, sym, arith}
use Rattle.std.proofs.lemmas.Bool.Decides.{nat_tests}
use Rattle.std.proofs.lemmas.List.{length-set, get_or-set_other}
use Rattle.std.proofs.lemmas.List.Folds.{list_any-append}
use Rattle.std.proofs.lemmas.Grind.{get_or-set_at}
use Rattle.csv.specs.Records.{field_at}
use Rattle.csv_text.specs.Reading.{Fields}
use Rattle.stow_messages.specs.declared.step_rows.StepRow.{StepRow}
use Rattle.stow_messages.specs.declared.step_rows.StepRow.TheVariants.{Lift}
use Rattle.stow_messages.specs.declared.step_faults.StepsFault.{StepsFault}
use Rattle.stow_messages.specs.declared.step_faults.StepsCode.TheVariants as code
use Rattle.stow_messages.specs.StepsSoFar.{AreFlags, IsWithin}
use Rattle.stow_messages.specs.Steps.{is_lift, stands, missing_from, fault_at, at_record, with_record, rows_from, rows_under}

-- a record of four fields
pub four_fields : (fields : Fields) (kind first second third : List ℕ) → length fields ≡ 4 → field_at fields 0 ≡ Some kind
    → field_at fields 1 ≡ Some first → field_at fields 2 ≡ Some second → field_at fields 3 ≡ Some third → fields ≡ kind ∷ first ∷ second ∷ third ∷ []
unfolding field_at
four_fields [] kind first second third n p q r s = absurd (omega arith)
four_fields (a ∷ []) kind first second third n p q r s = absurd (omega arith)
four_fields (a ∷ b ∷ []) kind first second third n p q r s = absurd (omega arith)
four_fields (a ∷ b ∷ c ∷ []) kind first second third n p q r s = absurd (omega arith)
four_fields (a ∷ b ∷ c ∷ d ∷ []) kind first second third n p q r s = cc
four_fields (a ∷ b ∷ c ∷ d ∷ e ∷ more) kind first second third n p q r s = absurd (omega arith)

-- the least lift that is missing, from lift n on
pub missing-none : (rows : List StepRow) (n count : ℕ) → ((j : ℕ) → n ≤ j → j < n + count → stands j rows ≡ true) → missing_from rows n count ≡ None
missing-none rows n zero all = refl
missing-none rows n (suc count) all =
    let here : stands n rows ≡ true = all n (omega arith) (omega arith) in
    rw here (missing-none rows (n + 1) count (λ j low high. all j (omega arith) (omega arith)))

pub missing-at : (rows : List StepRow) (n count m : ℕ) → n ≤ m → m < n + count → ((j : ℕ) → n ≤ j → j < m → stands j rows ≡ true) → stands m rows ≡ false
    → missing_from rows n count ≡ Some m
missing-at rows n zero m low high all none = absurd (omega arith)
missing-at rows n (suc count) m low high all none =
    go (nat_lt n m) refl (λ below. missing-at rows (n + 1) count m below (omega arith) (λ j l h. all j (omega arith) h) none)
  where
    go : (b : Bool) → nat_lt n m ≡ b → (n + 1 ≤ m → missing_from rows (n + 1) count ≡ Some m) → missing_from rows n (suc count) ≡ Some m
    go true e behind =
        let below : n < m = grind (arith, nat_tests) in
        let here : stands n rows ≡ true = all n (omega arith) below in
        rw here (behind (omega arith))
    go false e behind =
        let same : n ≡ m = grind (arith, nat_tests) in
        let here : stands n rows ≡ false = rw same none in
        rw here (ap Some same)

pub missing-tells : (rows : List StepRow) (n count : ℕ) → missing_from rows n count ≡ None → (j : ℕ) → n ≤ j → j < n + count → stands j rows ≡ true
missing-tells rows n zero e j low high = absurd (omega arith)
missing-tells rows n (suc count) e j low high =
    go (stands n rows) refl (λ none below. missing-tells rows (n + 1) count none j below (omega arith)) (nat_lt n j) refl
  where
    go : (b : Bool) → stands n rows ≡ b → (missing_from rows (n + 1) count ≡ None → n + 1 ≤ j → stands j rows ≡ true) → (l : Bool) → nat_lt n j ≡ l → stands j rows ≡ true
    go false here behind l e' = let none : ◌≡◌ {A = Option ℕ} (Some n) None = rw here at e in cc none
    go true here behind true below = behind (rw here at e) (grind (arith, nat_tests))
    go true here behind false other = let same : j ≡ n = grind (arith, nat_tests) in rw same here

sub-add-one : (n : ℕ) → 1 ≤ n → n - 1 + 1 ≡ n
sub-add-one n h = omega arith

or_false : (b : Bool) → (b || false) ≡ b
or_false true = refl
or_false false = refl

or_true : (b : Bool) → (b || true) ≡ true
or_true true = refl
or_true false = refl

-- one more row
stands-more : (n : ℕ) (rows : List StepRow) (row : StepRow) → stands n (rows ++ row ∷ []) ≡ (stands n rows || is_lift n row)
stands-more n rows row = list_any-append (is_lift n) rows (row ∷ []) ∙ ap (λ b. stands n rows || b) (or_false (is_lift n row))

module _ (lifts : ℕ) (rows : List StepRow) (flags : List Bool) (are : AreFlags lifts rows flags) where
  stays : (row : StepRow) (n : ℕ) → is_lift n row ≡ false → stands n (rows ++ row ∷ []) ≡ stands n rows
  stays row n e = stands-more n rows row ∙ ap (λ b. stands n rows || b) e ∙ or_false (stands n rows)

  comes : (row : StepRow) (n : ℕ) → is_lift n row ≡ true → stands n (rows ++ row ∷ []) ≡ true
  comes row n e = stands-more n rows row ∙ ap (λ b. stands n rows || b) e ∙ or_true (stands n rows)

  pub flags-other : (next : StepRow) → ((n : ℕ) → is_lift n next ≡ false) → AreFlags lifts (rows ++ next ∷ []) flags
  flags-other next other = record {
    size = are.size;
    each = λ i. are.each i ∙ sym (stays next (i + 1) (other (i + 1)));
  }

  flag-set : (n : ℕ) → 1 ≤ n → n ≤ lifts → (i : ℕ) → get_or (set flags (n - 1) true) i false ≡ stands (i + 1) (rows ++ Lift n ∷ [])
  flag-set n low high i = go (i + 1 == n) refl
    where
      go : (b : Bool) → (i + 1 == n) ≡ b → get_or (set flags (n - 1) true) i false ≡ stands (i + 1) (rows ++ Lift n ∷ [])
      go true e =
          let same : i ≡ n - 1 = grind (arith, nat_tests) in
          get_or-set_at flags (n - 1) i true false same (omega (arith, are.size)) ∙ sym (comes (Lift n) (i + 1) e)
      go false e =
          let other : i ≢ n - 1 = grind (arith, nat_tests) in
          get_or-set_other flags (n - 1) i true false other ∙ are.each i ∙ sym (stays (Lift n) (i + 1) e)

  pub flags-lift : (n : ℕ) → 1 ≤ n → n ≤ lifts → AreFlags lifts (rows ++ Lift n ∷ []) (set flags (n - 1) true)
  flags-lift n low high = record { size = length-set flags (n - 1) true ∙ are.size; each = flag-set n low high }

  -- the lifts whose flags were passed
  pub flag-before : (i : ℕ) → ((k : ℕ) → k < i → get_or flags k false ≡ true) → (j : ℕ) → 1 ≤ j → j < i + 1 → stands j rows ≡ true
  flag-before i all j low high = rw (sub-add-one j low) at (sym (are.each (j - 1)) ∙ all (j - 1) (omega arith))

-- a row that was joined to the rows, by its kind
pub flags-joined : (lifts n : ℕ) (rows items : List StepRow) (flags seen : List Bool) (row : StepRow) → AreFlags lifts rows flags
    → IsWithin lifts row → row ≡ Lift n → items ≡ rows ++ row ∷ [] → seen ≡ set flags (n - 1) true → AreFlags lifts items seen
flags-joined lifts n rows items flags seen row are in' is p q =
    let bounds = rw is at in' in rw (p, q, is) (flags-lift lifts rows flags are n bounds.0 bounds.1)

no_lift : (row : StepRow) → ((n : ℕ) → row ≢ Lift n) → (n : ℕ) → is_lift n row ≡ false
no_lift (Lift m) other n = absurd (other m refl)
no_lift row other n = refl

pub flags-kept : (lifts : ℕ) (rows items : List StepRow) (flags seen : List Bool) (row : StepRow) → AreFlags lifts rows flags → ((n : ℕ) → row ≢ Lift n) → items ≡ rows ++ row ∷ []
    → seen ≡ flags → AreFlags lifts items seen
flags-kept lifts rows items flags seen row are other p q = rw (p, q) (flags-other lifts rows flags are row (no_lift row other))

-- the records, one after another
module _ (lifts line : ℕ) (rows : List StepRow) (fields : Fields) (more rest : List Fields) (is : rest ≡ fields ∷ more) (at : line ≡ length rows + 2) where
  pub rows-more : (longer : List StepRow) → at_record line (with_record lifts rows fields) ≡ Ok longer → rows_from lifts rows rest ≡ rows_from lifts longer more
  rows-more longer h = let same = rw at at h in rw (is, same) refl

  pub rows-stop : (e : StepsFault) → at_record line (with_record lifts rows fields) ≡ Err e → rows_from lifts rows rest ≡ Err e
  rows-stop e h = let same = rw at at h in rw (is, same) refl

pub rows-end : (lifts : ℕ) (rows : List StepRow) (rest : List Fields) → rest ≡ [] → rows_from lifts rows rest ≡ Ok rows
rows-end lifts rows rest none = rw none refl

-- the heading
pub under-none : (lifts : ℕ) (rows : List StepRow) (rest : List Fields) → rest ≡ [] → rows ≡ [] → rows_under lifts rest ≡ Ok rows
under-none lifts rows rest none start = rw (none, start) refl

module _ (lifts : ℕ) (rest more : List Fields) (heading : Fields) (is : rest ≡ heading ∷ more) where
  pub under-other : (e : StepsFault) → length heading ≢ 4 → e ≡ fault_at code.BadCsv 1 → rows_under lifts rest ≡ Err e
  under-other e other at = let test : (length heading == 4) ≡ false = grind (arith, nat_tests) in rw (is, test, at) refl

  pub under-heading : (rows : List StepRow) → length heading ≡ 4 → rows ≡ [] → rows_under lifts rest ≡ rows_from lifts rows more
  under-heading rows four start = let test : (length heading == 4) ≡ true = grind (arith, nat_tests) in rw (is, test, start) refl

-- The fields of a record give a row, or the fault of the first that is refused.
use Rattle.std.proofs.Common.{◌≡◌, ◌∙◌, ◌⊎◌, inl, inr, ℕ, ◌==◌, true, false, List, [], ◌∷◌, ◌++◌, length, map, zip, Result, Ok, Err, refl, ap, arith}
use Rattle.std.proofs.lemmas.Bool.{cases_eq}
use Rattle.std.proofs.lemmas.Bool.Decides.{nat_tests}
use Rattle.csv_text.specs.Reading.{Fields}
use Rattle.units_core.specs.Outcome.{◌>>=◌}
use Rattle.ship_tables.specs.declared.faults.TableFault.{TableFault}
use Rattle.ship_tables.specs.declared.faults.TableFault.TheVariants.{BadCsv}
use Rattle.ship_tables.specs.Outcome.{each}
use Rattle.ship_tables.specs.Tables.{Form, Row, row_in}
use Rattle.ship_tables.specs.Faults.{read_in, IsRowOf, IsRowFault}

module _ {A B : Type 0} (f : A → Result B TableFault) where
  one_more : (x : A) (xs : List A) (y : B) (r : Result (List B) TableFault) → f x ≡ Ok y → each f xs ≡ r
      → each f (x ∷ xs) ≡ r >>= (λ ys. Ok (y ∷ ys))
  one_more x xs y r is e = ap (λ v. v >>= (λ z. each f xs >>= (λ zs. Ok (z ∷ zs)))) is ∙ ap (λ v. v >>= (λ zs. Ok (y ∷ zs))) e

  -- each gives its value
  each_on : (xs : List A) (ys : List B) → map f xs ≡ map Ok ys → each f xs ≡ Ok ys
  each_on [] [] h = refl
  each_on [] (y ∷ ys) h = cc h
  each_on (x ∷ xs) [] h = cc h
  each_on (x ∷ xs) (y ∷ ys) h =
      let here : f x ≡ Ok y = cc in
      let rest : map f xs ≡ map Ok ys = cc in
      one_more x xs y (Ok ys) here (each_on xs ys rest)

  -- one is refused
  each_stops : (before : List A) (x : A) (behind : List A) (ys : List B) (e : TableFault) → map f before ≡ map Ok ys → f x ≡ Err e
      → each f (before ++ x ∷ behind) ≡ Err e
  each_stops [] x behind ys e h refused = ap (λ v. v >>= (λ z. each f behind >>= (λ zs. Ok (z ∷ zs)))) refused
  each_stops (first ∷ before) x behind [] e h refused = cc h
  each_stops (first ∷ before) x behind (y ∷ ys) e h refused =
      let here : f first ≡ Ok y = cc in
      let rest : map f before ≡ map Ok ys = cc in
      one_more first (before ++ x ∷ behind) y (Err e) here (each_stops before x behind ys e rest refused)

  record Stopped (xs : List A) : Type 0 where
    fault : TableFault
    before : List A
    x : A
    behind : List A
    ys : List B
    xs_are : xs ≡ before ++ x ∷ behind
    given_before : map f before ≡ map Ok ys
    refused : f x ≡ Err fault

  either_of : (xs : List A) → ((ys : List B) × (map f xs ≡ map Ok ys)) ⊎ Stopped xs
  either_of [] = inl ([], refl)
  either_of (x ∷ xs) = go (f x) refl (either_of xs)
    where
      go : (r : Result B TableFault) → f x ≡ r → ((ys : List B) × (map f xs ≡ map Ok ys)) ⊎ Stopped xs
          → ((ys : List B) × (map f (x ∷ xs) ≡ map Ok ys)) ⊎ Stopped (x ∷ xs)
      go (Err e) is rest =
          inr (record { fault = e; before = []; x = x; behind = xs; ys = []; xs_are = refl; given_before = refl; refused = is })
      go (Ok y) is (inl h) = inl (y ∷ h.0, λ i. is i ∷ h.1 i)
      go (Ok y) is (inr h) =
          inr (record {
            fault = h.fault;
            before = x ∷ h.before;
            x = h.x;
            behind = h.behind;
            ys = y ∷ h.ys;
            xs_are = ap (λ (l : List A). x ∷ l) h.xs_are;
            given_before = λ i. is i ∷ h.given_before i;
            refused = h.refused;
          })

module _ (form : Form) (line : ℕ) (fields : Fields) where
  full : length fields ≡ length form.columns → row_in form line fields ≡ each (read_in form line) (zip form.columns fields)
  full h = let same : (length fields == length form.columns) ≡ true = grind (arith, nat_tests, h) in rw same refl

  pub row_sound : (row : Row) → IsRowOf form line fields row → row_in form line fields ≡ Ok row
  row_sound row h = full h.as_many ∙ each_on (read_in form line) (zip form.columns fields) row h.read

  pub row_refused : (f : TableFault) → IsRowFault form line fields f → row_in form line fields ≡ Err f
  row_refused f (inl h) =
      let other : (length fields == length form.columns) ≡ false = grind (arith, nat_tests, h.0) in
      rw (other, h.1) refl
  row_refused f (inr h) =
      full h.as_many ∙ ap (each (read_in form line)) h.fields_are
      ∙ each_stops (read_in form line) h.before (h.column, h.field) h.behind h.row f h.read_before h.refused

  pub row_either : ((row : Row) × IsRowOf form line fields row) ⊎ ((f : TableFault) × IsRowFault form line fields f)
  row_either =
      elim (cases_eq (length fields) (length form.columns)) [
        | inl same ↦ by_fields same (either_of (read_in form line) (zip form.columns fields))
        | inr other ↦ inr (BadCsv form.file line, inl (other, refl))
      ]
    where
      by_fields : length fields ≡ length form.columns
          → ((row : Row) × (map (read_in form line) (zip form.columns fields) ≡ map Ok row)) ⊎ Stopped (read_in form line) (zip form.columns fields)
          → ((row : Row) × IsRowOf form line fields row) ⊎ ((f : TableFault) × IsRowFault form line fields f)
      by_fields same (inl h) = inl (h.0, record { as_many = same; read = h.1 })
      by_fields same (inr h) =
          inr (
            h.fault,
            inr (record {
              as_many = same;
              before = h.before;
              column = h.x.0;
              field = h.x.1;
              behind = h.behind;
              row = h.ys;
              fields_are = h.xs_are;
              read_before = h.given_before;
              refused = h.refused;
            }),
          )

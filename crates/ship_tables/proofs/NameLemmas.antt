-- A table by its name: the place of the name among those that are held, and the table there.
use Rattle.std.proofs.Common.{◌≡◌, ◌∙◌, ℕ, zero, suc, Bool, true, false, cond, List, [], ◌∷◌, ◌++◌, length, map, slice_get, Option, None, Some, option_map, refl, ap, sym, arith, inl, inr}
use Rattle.std.proofs.lemmas.Bool.{cases_Bool}
use Rattle.std.proofs.lemmas.List.{append-nil}
use Rattle.std.proofs.lemmas.List.Folds.{list_any-append}
use Rattle.std.specs.List.{position, find, list_any}
use Rattle.std.specs.Str.{bytes_eq}
use Rattle.ship_tables.specs.Record.{TankTable, Tank, tanks_by, tank_at, tank_table, filling_in}
use Rattle.ship_tables.specs.Tables.{Row, table_name, tables_after, ended_rows}
use Rattle.ship_tables.proofs.PlaceLemmas.{position-cons}

-- the place of what a function makes of a list's items
pub position-map : {X Y : Type 0} (test : Y → Bool) (f : X → Y) (xs : List X) → position test (map f xs) ≡ position (λ x. test (f x)) xs
position-map test f [] = refl
position-map test f (x ∷ xs) = position-cons test (f x) (map f xs) ∙ (rw (position-map test f xs) (sym (position-cons (λ y. test (f y)) x xs)))

-- what stands at the first place that passes, among the first of two lists
found-before : {X : Type 0} (test : X → Bool) (xs ys : List X) (o : Option ℕ) (k : ℕ) → position test (xs ++ ys) ≡ o → o ≡ Some k → find test xs ≡ slice_get xs k
found-before test [] ys o k e f = refl
found-before test (x ∷ xs) ys o k e f = go (test x) (position test (xs ++ ys)) refl refl (sym (position-cons test x (xs ++ ys)) ∙ (e ∙ f)) (λ j q. found-before test xs ys (Some j) j q refl)
  where
    go : (b : Bool) (p : Option ℕ) → test x ≡ b → position test (xs ++ ys) ≡ p → cond (test x) (Some 0) (option_map suc (position test (xs ++ ys))) ≡ Some k
        → ((j : ℕ) → position test (xs ++ ys) ≡ Some j → find test xs ≡ slice_get xs j) → find test (x ∷ xs) ≡ slice_get (x ∷ xs) k
    go true p t q h more = let first : k ≡ 0 = cc (rw t at h) in rw (t, first) refl
    go false None t q h more = cc (rw (t, q) at h)
    go false (Some j) t q h more = let next : k ≡ suc j = cc (rw (t, q) at h) in rw (t, next) (more j q)

nothing-before : {X : Type 0} (test : X → Bool) (xs ys : List X) → position test (xs ++ ys) ≡ None → find test xs ≡ None
nothing-before test [] ys e = refl
nothing-before test (x ∷ xs) ys e = go (test x) (position test (xs ++ ys)) refl refl (sym (position-cons test x (xs ++ ys)) ∙ e) (nothing-before test xs ys)
  where
    go : (b : Bool) (p : Option ℕ) → test x ≡ b → position test (xs ++ ys) ≡ p → cond (test x) (Some 0) (option_map suc (position test (xs ++ ys))) ≡ None
        → (position test (xs ++ ys) ≡ None → find test xs ≡ None) → find test (x ∷ xs) ≡ None
    go true p t q h more = cc (rw t at h)
    go false None t q h more = rw t (more q)
    go false (Some j) t q h more = cc (rw (t, q) at h)

-- the table that is being read, once it has a row
abbrev pub begun : List Row → List (List Row)
begun [] = []
begun (row ∷ rows) = (row ∷ rows) ∷ []

pub tables_after-begun : (ended : List (List Row)) (rows : List Row) → tables_after ended rows ≡ ended ++ begun rows
tables_after-begun ended [] = sym (append-nil ended)
tables_after-begun ended (row ∷ rows) = refl

module _ (names : List (List ℕ)) (name : List ℕ) (ended : List (List Row)) (rows : List Row) (e : names ≡ map table_name (tables_after ended rows)) where
  by_name : position (bytes_eq name) names ≡ position (λ t. bytes_eq name (table_name t)) (ended ++ begun rows)
  by_name = ap (position (bytes_eq name)) e ∙ (position-map (bytes_eq name) table_name (tables_after ended rows) ∙ ap (position (λ t. bytes_eq name (table_name t))) (tables_after-begun ended rows))

  pub ended_rows-found : (k : ℕ) → position (bytes_eq name) names ≡ Some k → ended_rows name ended ≡ option_map length (slice_get ended k)
  ended_rows-found k h = ap (option_map length) (found-before (λ t. bytes_eq name (table_name t)) ended (begun rows) _ k refl (sym by_name ∙ h))

  pub ended_rows-none : position (bytes_eq name) names ≡ None → ended_rows name ended ≡ None
  ended_rows-none h = ap (option_map length) (nothing-before (λ t. bytes_eq name (table_name t)) ended (begun rows) (sym by_name ∙ h))

-- a name that no table has that has ended, nor the one that is being read
none-any : {X : Type 0} (test : X → Bool) (xs : List X) → find test xs ≡ None → list_any test xs ≡ false
none-any test [] e = refl
none-any test (x ∷ xs) e =
    elim (cases_Bool (test x)) [
      | inl here ↦ cc (rw here at e)
      | inr other ↦ rw other (none-any test xs (rw other at e))
    ]

pub list_any-map : {X Y : Type 0} (f : X → Y) (test : Y → Bool) (xs : List X) → list_any test (map f xs) ≡ list_any (λ x. test (f x)) xs
list_any-map f test [] = refl
list_any-map f test (x ∷ xs) = rw (list_any-map f test xs) refl

no_rows : (o : Option (List Row)) → option_map length o ≡ None → o ≡ None
no_rows None e = refl
no_rows (Some t) e = cc

pub not_named : (names : List (List ℕ)) (name : List ℕ) (ended : List (List Row)) (rows : List Row) → names ≡ map table_name (tables_after ended rows)
    → ended_rows name ended ≡ None → list_any (λ t. bytes_eq name (table_name t)) (begun rows) ≡ false → list_any (bytes_eq name) names ≡ false
not_named names name ended rows e none other =
    let before = none-any (λ t. bytes_eq name (table_name t)) ended (no_rows (find (λ t. bytes_eq name (table_name t)) ended) none) in
    rw (e, tables_after-begun ended rows, list_any-map table_name (bytes_eq name) (ended ++ begun rows), list_any-append (λ t. bytes_eq name (table_name t)) ended (begun rows), before) other

-- tanks by their names and tables
pub tanks_by-length : (names : List (List ℕ)) (tables : List TankTable) → length names ≡ length tables → length (tanks_by names tables) ≡ length tables
tanks_by-length [] [] e = refl
tanks_by-length [] (t ∷ tables) e = absurd (omega arith)
tanks_by-length (n ∷ names) [] e = absurd (omega arith)
tanks_by-length (n ∷ names) (t ∷ tables) e = ap suc (tanks_by-length names tables (omega arith))

pub tanks_by-position : (test : List ℕ → Bool) (names : List (List ℕ)) (tables : List TankTable) → length names ≡ length tables
    → position (λ tank. test tank.name) (tanks_by names tables) ≡ position test names
tanks_by-position test [] [] e = refl
tanks_by-position test [] (t ∷ tables) e = absurd (omega arith)
tanks_by-position test (n ∷ names) [] e = absurd (omega arith)
tanks_by-position test (n ∷ names) (t ∷ tables) e =
    position-cons (λ (tank : Tank). test tank.name) (record { name = n; rows = t }) (tanks_by names tables)
    ∙ (rw (tanks_by-position test names tables (omega arith)) (sym (position-cons test n names)))

pub tanks_by-filling : (kg k : ℕ) (names : List (List ℕ)) (tables : List TankTable) → length names ≡ length tables
    → filling_in kg (option_map (λ tank. tank.rows) (slice_get (tanks_by names tables) k)) ≡ filling_in kg (slice_get tables k)
tanks_by-filling kg k [] [] e = refl
tanks_by-filling kg k [] (t ∷ tables) e = absurd (omega arith)
tanks_by-filling kg k (n ∷ names) [] e = absurd (omega arith)
tanks_by-filling kg zero (n ∷ names) (t ∷ tables) e = refl
tanks_by-filling kg (suc k) (n ∷ names) (t ∷ tables) e = tanks_by-filling kg k names tables (omega arith)

pub tanks_by-tables : (tables : List (List Row)) → tanks_by (map table_name tables) (map tank_table tables) ≡ map tank_at tables
tanks_by-tables [] = refl
tanks_by-tables (t ∷ tables) = ap (λ ts. tank_at t ∷ ts) (tanks_by-tables tables)

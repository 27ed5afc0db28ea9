-- What the rows of a file keep: each field is within its column's limits, no table has too few rows or too many, each row keeps the rule
-- after those before it, and bodies stand where they can.
use Rattle.std.proofs.Common.{◌≡◌, ◌∙◌, ℕ, zero, suc, ◌+◌, ◌-◌, ◌<◌, ◌≤◌, ◌||◌, if◌then◌else◌, nat_lt, Bool, true, false, ℤ, pos, ◌≤ℤ◌, ◌<ℤ◌, ◌-ℤ◌, int_lt, List, [], ◌∷◌, ◌++◌, length, map, slice_get, length-append, Option, None, Some, Ok, refl, sym, arith, inl, inr}
use Rattle.std.specs.Bool.{⊤}
use Rattle.std.proofs.lemmas.Bool.{cases_Bool}
use Rattle.std.proofs.lemmas.Bool.Decides.{nat_tests}
use Rattle.std.proofs.lemmas.Cmp.{nat_list_eq_equiv}
use Rattle.std.proofs.lemmas.Int.{ints}
use Rattle.std.proofs.lemmas.List.{append-nil, map-append, length-map}
use Rattle.std.proofs.Math.Seq.{get_or-append_seam}
use Rattle.std.proofs.Math.ListN.{get_or-append}
use Rattle.std.specs.List.{list_any, AllByRecursion, IsDistinct}
use Rattle.std.specs.Str.{bytes_eq}
use Rattle.csv_text.specs.Reading.{Fields}
use Rattle.units_core.specs.declared.cells.Cell.{Cell}
use Rattle.units_core.specs.Cells.{cell_eq}
use Rattle.units_core.specs.Interpolation.{at}
use Rattle.ship_tables.specs.declared.faults.File.{File}
use Rattle.ship_tables.specs.declared.faults.TableFault.{TableFault}
use Rattle.ship_tables.specs.declared.faults.TableFault.TheVariants.{OutOfLimits, NotRising, OutsideStations}
use Rattle.ship_tables.specs.declared.layouts.Column.{Column}
use Rattle.ship_tables.specs.declared.layouts.Column.TheVariants as column
use Rattle.ship_tables.specs.declared.layouts.Field.{Field}
use Rattle.ship_tables.specs.declared.layouts.Field.TheVariants as field
use Rattle.ship_tables.specs.declared.layouts.Rule.{Rule}
use Rattle.ship_tables.specs.declared.layouts.Rule.TheVariants as rule
use Rattle.ship_tables.specs.declared.layouts.Stands.{Stands}
use Rattle.ship_tables.specs.Extents.{encloses}
use Rattle.ship_tables.specs.Tables.{Form, Read, so_far, heading_read, Row, number_at, first_cell, first_name, table_name, cells_in, belongs, is_beyond, step_fault, rise_fault, double_fault, rule_fault, most_tables, place_fault, row_fault, tables_after, tables_read, with_row, is_short, file_in}
use Rattle.ship_tables.proofs.FileLemmas.{IsField, AreFields, file-keeps}
use Rattle.ship_tables.proofs.NameLemmas.{not_named}
use Rattle.ship_tables.proofs.ReadLemmas.{cells_in-push, comes-room, comes-follows, comes-stands, comes-new, comes-table, names-belongs, other_name}

-- the field is one of its column
abbrev pub InColumn : Column → Field → Type 0
InColumn column.Cell (field.Cell c) = ⊤
InColumn column.Name (field.Name n) = (1 ≤ length n.items) × (length n.items ≤ 16)
InColumn (column.Number low high) (field.Number z) = (low ≤ℤ z) × (z ≤ℤ high)
InColumn _ _ = ⊥

-- the fields are those of their columns, one for each
abbrev pub IsRow : List Column → Row → Type 0
IsRow [] [] = ⊤
IsRow (c ∷ cs) (f ∷ fs) = InColumn c f × IsRow cs fs
IsRow _ _ = ⊥

in_column : (c : Column) (text : List ℕ) (f : Field) → IsField c text f → InColumn c f
in_column column.Cell text (field.Cell c) h = tt
in_column column.Cell text (field.Name n) h = absurd h
in_column column.Cell text (field.Number z) h = absurd h
in_column column.Name text (field.Cell c) h = absurd h
in_column column.Name text (field.Name n) h = (h.1, h.2)
in_column column.Name text (field.Number z) h = absurd h
in_column (column.Number low high) text (field.Cell c) h = absurd h
in_column (column.Number low high) text (field.Name n) h = absurd h
in_column (column.Number low high) text (field.Number z) h = (h.1, h.2)

pub row-sound : (cs : List Column) (ts : Fields) (fs : Row) → AreFields cs ts fs → IsRow cs fs
row-sound [] ts [] h = tt
row-sound [] ts (f ∷ fs) h = absurd h
row-sound (c ∷ cs) [] fs h = absurd h
row-sound (c ∷ cs) (t ∷ ts) [] h = absurd h
row-sound (c ∷ cs) (t ∷ ts) (f ∷ fs) h = (in_column c t f h.0, row-sound cs ts fs h.1)

-- a number is no further above another than the gap
abbrev pub IsNear : Option ℤ → ℤ → ℤ → Type 0
IsNear None from to = ⊤
IsNear (Some gap) from to = (to -ℤ from) ≤ℤ gap

-- the numbers rise, by no more than the gap from one to the next
abbrev pub RisesBy : Option ℤ → List ℤ → Type 0
RisesBy gap zs = (i : ℕ) → i + 1 < length zs → (at zs i <ℤ at zs (i + 1)) × IsNear gap (at zs i) (at zs (i + 1))

rises-push : (gap : Option ℤ) (zs : List ℤ) (z : ℤ) → RisesBy gap zs → (0 < length zs → (at zs (length zs - 1) <ℤ z) × IsNear gap (at zs (length zs - 1)) z) → RisesBy gap (zs ++ z ∷ [])
rises-push gap zs z h last i inside =
    let len = length-append zs (z ∷ []) in
    let here : i < length zs = omega (arith, len) in
    let this = get_or-append zs (z ∷ []) (pos 0) i here in
    elim (cases_Bool (nat_lt (i + 1) (length zs))) [
      | inl before ↦
          let more : i + 1 < length zs = grind (arith, nat_tests) in
          rw (this, get_or-append zs (z ∷ []) (pos 0) (i + 1) more) (h i more)
      | inr other ↦
          let no : ¬ (i + 1 < length zs) = grind (arith, nat_tests) in
          let end : i + 1 ≡ length zs = omega (arith, no) in
          let at_last : i ≡ length zs - 1 = omega arith in
          rw (this, end, get_or-append_seam zs z [] (pos 0), at_last) (last (omega arith))
    ]

near : (gap : Option ℤ) (a b : ℤ) → is_beyond gap a b ≡ false → IsNear gap a b
near None a b e = tt
near (Some gap) a b e = grind (arith, ints)

step-test : (file : File) (line : ℕ) (gap : Option ℤ) (a b : ℤ) → step_fault file line gap a b ≡ None → (a <ℤ b) × IsNear gap a b
step-test file line gap a b e = go (int_lt a b) (is_beyond gap a b) refl refl e
  where
    go : (x y : Bool) → int_lt a b ≡ x → is_beyond gap a b ≡ y
        → (if x then (if y then Some (OutOfLimits file line) else None) else Some (NotRising file line)) ≡ None → (a <ℤ b) × IsNear gap a b
    go true false p q e = (grind (arith, ints), near gap a b q)
    go true true p q e = cc
    go false y p q e = cc

-- a row that is there
there : (c : ℕ) (rows : List Row) (k : ℕ) → k < length rows → (row : Row) × (slice_get rows k ≡ Some row) × (at (map (λ r. number_at r c) rows) k ≡ number_at row c)
there c [] k h = absurd (omega arith)
there c (r ∷ rows) zero h = (r, refl, refl)
there c (r ∷ rows) (suc k) h = there c rows k (omega arith)

cell_eq_sym : (a b : Cell) → cell_eq a b ≡ false → cell_eq b a ≡ false
cell_eq_sym a b e = grind (arith, nat_tests)

pub all-push : {X : Type 0} (P : X → Type 0) (xs : List X) (x : X) → AllByRecursion P xs → P x → AllByRecursion P (xs ++ x ∷ [])
all-push P [] x h p = (p, tt)
all-push P (y ∷ ys) x h p = (h.0, all-push P ys x h.1 p)

or_parts : (x y : Bool) → (x || y) ≡ false → (x ≡ false) × (y ≡ false)
or_parts true y e = (e, cc)
or_parts false y e = (refl, e)

other_sym : (a b : List ℕ) → bytes_eq a b ≡ false → bytes_eq b a ≡ false
other_sym a b e = sym (nat_list_eq_equiv.symm a b) ∙ e

module _ {X : Type 0} (eq : X → X → Bool) (eq_sym : (a b : X) → eq a b ≡ false → eq b a ≡ false) where
  distinct-push : (xs : List X) (x : X) → IsDistinct eq xs → list_any (eq x) xs ≡ false → IsDistinct eq (xs ++ x ∷ [])
  unfolding IsDistinct
  distinct-push [] x h e = (tt, tt)
  distinct-push (y ∷ ys) x h e =
      let parts = or_parts (eq x y) (list_any (eq x) ys) e in
      (all-push (λ z. eq y z ≡ false) ys x h.0 (eq_sym x y parts.0), distinct-push ys x h.1 parts.1)

-- the rows of a table keep the rule
abbrev pub KeepsRule : Rule → List Row → Type 0
KeepsRule rule.Distinct rows = IsDistinct cell_eq (cells_in rows)
KeepsRule (rule.Rising gap) rows = RisesBy gap (map (λ r. number_at r 0) rows)
KeepsRule (rule.Together gap tables) rows = RisesBy (Some gap) (map (λ r. number_at r 1) rows)

distinct-more : (line : ℕ) (rows : List Row) (row : Row) (o : Option Cell) → first_cell row ≡ o → IsDistinct cell_eq (cells_in rows)
    → double_fault line (cells_in rows) o ≡ None → IsDistinct cell_eq (cells_in (rows ++ row ∷ []))
distinct-more line rows row None e h f = rw (cells_in-push rows row None e, append-nil (cells_in rows)) h
distinct-more line rows row (Some c) e h f =
    rw (cells_in-push rows row (Some c) e)
    (elim (cases_Bool (list_any (cell_eq c) (cells_in rows))) [
      | inl double ↦ cc (rw double at f)
      | inr other ↦ distinct-push cell_eq cell_eq_sym (cells_in rows) c h other
    ])

rise-more : (file : File) (line : ℕ) (gap : Option ℤ) (c : ℕ) (rows : List Row) (row : Row) → RisesBy gap (map (λ r. number_at r c) rows)
    → rise_fault file line gap c row (slice_get rows (length rows - 1)) ≡ None → RisesBy gap (map (λ r. number_at r c) (rows ++ row ∷ []))
rise-more file line gap c rows row h f =
    let numbers = map (λ (r : Row). number_at r c) rows in
    let len : length numbers ≡ length rows = length-map rows (λ r. number_at r c) in
    rw (map-append (λ (r : Row). number_at r c) rows (row ∷ []))
    (rises-push gap numbers (number_at row c) h (λ some.
    let last = there c rows (length rows - 1) (omega (arith, len)) in
    let test = rw last.1 at f in
    rw (len, last.2) (step-test file line gap (number_at last.0 c) (number_at row c) test)))

rule-more : (r : Rule) (file : File) (line : ℕ) (rows : List Row) (row : Row) → KeepsRule r rows → rule_fault r file line rows row ≡ None → KeepsRule r (rows ++ row ∷ [])
rule-more rule.Distinct file line rows row h f = distinct-more line rows row (first_cell row) refl h f
rule-more (rule.Rising gap) file line rows row h f = rise-more file line gap 0 rows row h f
rule-more (rule.Together gap tables) file line rows row h f = rise-more file line (Some gap) 1 rows row h f

none-ruled : (r : Rule) → KeepsRule r []
unfolding IsDistinct
none-ruled rule.Distinct = tt
none-ruled (rule.Rising gap) = λ i inside. absurd (omega arith)
none-ruled (rule.Together gap tables) = λ i inside. absurd (omega arith)

one-ruled : (r : Rule) (rows : List Row) (row : Row) → belongs r rows row ≡ false → KeepsRule r (row ∷ [])
one-ruled rule.Distinct rows row b = cc
one-ruled (rule.Rising gap) rows row b = λ i inside. absurd (omega arith)
one-ruled (rule.Together gap tables) rows row b = λ i inside. absurd (omega arith)

-- the row's body stands within the extent
abbrev pub StandsIn : Option Stands → Row → Type 0
StandsIn None row = ⊤
StandsIn (Some s) row = encloses s.extent (number_at row s.x) (number_at row s.half) ≡ true

-- a test that was passed
no_fault_passed : (b : Bool) (x : TableFault) → ◌≡◌ {A = Option TableFault} (if b then None else Some x) None → b ≡ true
no_fault_passed true x e = refl
no_fault_passed false x e = cc

stands-in : (stands : Option Stands) (file : File) (line : ℕ) (row : Row) → place_fault stands file line row ≡ None → StandsIn stands row
stands-in None file line row e = tt
stands-in (Some s) file line row e = no_fault_passed (encloses s.extent (number_at row s.x) (number_at row s.half)) (OutsideStations file line) e

-- what the rows of a table keep
pub record IsRows (form : Form) (rows : List Row) : Type 0 where
  pub each : AllByRecursion (IsRow form.columns) rows
  pub stands : AllByRecursion (StandsIn form.stands) rows
  pub most : length rows ≤ form.most
  pub rule : KeepsRule form.rule rows

-- the tables of a file of several are no more than there may be, and of different names
abbrev pub KeepsTables : Rule → List (List Row) → Type 0
KeepsTables (rule.Together gap tables) read = (length read ≤ tables) × IsDistinct bytes_eq (map table_name read)
KeepsTables _ read = ⊤

no-tables : (r : Rule) → KeepsTables r []
unfolding IsDistinct
no-tables rule.Distinct = tt
no-tables (rule.Rising gap) = tt
no-tables (rule.Together gap tables) = (omega arith, tt)

tables-kept : (r : Rule) (ended : List (List Row)) (rows : List Row) (row : Row) → belongs r rows row ≡ true → KeepsTables r (tables_after ended rows)
    → KeepsTables r (tables_after ended (rows ++ row ∷ []))
tables-kept rule.Distinct ended rows row b h = tt
tables-kept (rule.Rising gap) ended rows row b h = tt
tables-kept (rule.Together gap tables) ended [] row b h = cc
tables-kept (rule.Together gap tables) ended (first ∷ rows) row b h =
    let short = length-append ended ((first ∷ rows) ∷ []) in
    let long = length-append ended ((first ∷ (rows ++ row ∷ [])) ∷ []) in
    let count = h.0 in
    (omega (arith, short, long, count), rw (names-belongs ended first rows row) h.1)

tables-begun : (r : Rule) (ended : List (List Row)) (rows : List Row) (row : Row) → belongs r rows row ≡ false → length (tables_after ended rows) < most_tables r
    → list_any (bytes_eq (first_name row)) (map table_name (tables_after ended rows)) ≡ false → KeepsTables r (tables_after ended rows)
    → KeepsTables r (tables_after (tables_after ended rows) (row ∷ []))
tables-begun rule.Distinct ended rows row b few new h = tt
tables-begun (rule.Rising gap) ended rows row b few new h = tt
tables-begun (rule.Together gap tables) ended rows row b few new h =
    let len = length-append (tables_after ended rows) ((row ∷ []) ∷ []) in (
      omega (arith, len, few),
      rw (map-append table_name (tables_after ended rows) ((row ∷ []) ∷ [])) (distinct-push bytes_eq other_sym (map table_name (tables_after ended rows)) (first_name row) h.1 new),
    )

-- what is kept while a file is read
pub record IsKept (form : Form) (r : Read) : Type 0 where
  pub rows : IsRows form r.rows
  pub ended : AllByRecursion (IsRows form) r.ended
  pub tables : KeepsTables form.rule (tables_read r)

all-tables : (form : Form) (ended : List (List Row)) (rows : List Row) → AllByRecursion (IsRows form) ended → IsRows form rows → AllByRecursion (IsRows form) (tables_after ended rows)
all-tables form ended [] h k = h
all-tables form ended (row ∷ rows) h k = all-push (IsRows form) ended (row ∷ rows) h k

heading-kept : (form : Form) → IsKept form heading_read
heading-kept form = record {
  rows = record { each = tt; stands = tt; most = omega arith; rule = none-ruled form.rule };
  ended = tt;
  tables = no-tables form.rule;
}

module _ (form : Form) (some : 1 ≤ form.most) (r : Read) (row : Row) (k : IsKept form r) (is : IsRow form.columns row) (comes : row_fault form r row ≡ None) where
  kept-table : belongs form.rule r.rows row ≡ true → IsKept form (so_far (r.line + 1) r.ended (r.rows ++ row ∷ []))
  kept-table b =
      let len = length-append r.rows (row ∷ []) in
      let room = comes-room form r row comes b in
      record {
        rows = record {
          each = all-push (IsRow form.columns) r.rows row k.rows.each is;
          stands = all-push (StandsIn form.stands) r.rows row k.rows.stands (stands-in form.stands form.file r.line row (comes-stands form r row comes));
          most = omega (arith, len, room);
          rule = rule-more form.rule form.file r.line r.rows row k.rows.rule (comes-follows form r row comes b);
        };
        ended = k.ended;
        tables = tables-kept form.rule r.ended r.rows row b k.tables;
      }

  kept-next : belongs form.rule r.rows row ≡ false → IsKept form (so_far (r.line + 1) (tables_read r) (row ∷ []))
  kept-next b = record {
    rows = record {
      each = (is, tt);
      stands = (stands-in form.stands form.file r.line row (comes-stands form r row comes), tt);
      most = omega (arith, some);
      rule = one-ruled form.rule r.rows row b;
    };
    ended = all-tables form r.ended r.rows k.ended k.rows;
    tables = tables-begun form.rule r.ended r.rows row b (comes-table form r row comes b)
        (not_named (map table_name (tables_read r)) (first_name row) r.ended r.rows refl (comes-new form r row comes b) (other_name form.rule r.rows row b)) k.tables;
  }

  kept-row : IsKept form (with_row form.rule r row)
  kept-row =
      elim (cases_Bool (belongs form.rule r.rows row)) [
        | inl b ↦ rw b (kept-table b)
        | inr b ↦ rw b (kept-next b)
      ]

-- no table has too few rows
abbrev pub KeepsLeast : Rule → ℕ → Read → Type 0
KeepsLeast (rule.Together gap tables) least r = AllByRecursion (λ t. least ≤ length t) (tables_read r)
KeepsLeast _ least r = least ≤ length r.rows

long : (n least : ℕ) → nat_lt n least ≡ false → least ≤ n
long n least e = grind (arith, nat_tests)

all-long : (least : ℕ) (tables : List (List Row)) → list_any (λ t. nat_lt (length t) least) tables ≡ false → AllByRecursion (λ t. least ≤ length t) tables
all-long least [] e = tt
all-long least (t ∷ tables) e =
    let parts = or_parts (nat_lt (length t) least) (list_any (λ u. nat_lt (length u) least) tables) e in
    (long (length t) least parts.0, all-long least tables parts.1)

least-kept : (r : Rule) (least : ℕ) (read : Read) → is_short r least read ≡ false → KeepsLeast r least read
least-kept rule.Distinct least read e = long (length read.rows) least e
least-kept (rule.Rising gap) least read e = long (length read.rows) least e
least-kept (rule.Together gap tables) least read e = all-long least (tables_read read) e

-- what a file keeps
pub record IsFile (form : Form) (r : Read) : Type 0 where
  pub kept : IsKept form r
  pub least : KeepsLeast form.rule form.least r

-- what a text writes is a file
pub file_in-sound : (form : Form) → 1 ≤ form.most → (text : List ℕ) (r : Read) → file_in form text ≡ Ok r → IsFile form r
file_in-sound form some text r e =
    let all = file-keeps form (λ records read. IsKept form read) (heading-kept form)
    (λ records before texts row k is comes. kept-row form some before row k (row-sound form.columns texts row is) comes) text r e in
    record { kept = all.0; least = least-kept form.rule form.least r all.1 }

-- the tables of a file of several
pub several-sound : (form : Form) (r : Read) → IsFile form r → AllByRecursion (IsRows form) (tables_read r)
several-sound form r f = all-tables form r.ended r.rows f.kept.ended f.kept.rows

-- The index of a cell in a list, where a function gives the index of each cell of the list.
use Rattle.std.proofs.Common.{◌≡◌, ◌∙◌, ℕ, zero, suc, ◌<◌, Bool, true, false, List, [], ◌∷◌, length, get_or, None, Some, option_map, refl, ap, sym, arith}
use Rattle.std.proofs.lemmas.Bool.Decides.{Decides-and}
use Rattle.std.specs.Cmp.{unsigned_Decides}
use Rattle.std.specs.List.{position}
use Rattle.units_core.specs.declared.cells.Cell.{Cell}
use Rattle.units_core.specs.Cells.{cell_eq}
use Rattle.ship_tables.proofs.PlaceLemmas.{position-cons}

-- the element at an index is the same, whatever stands for one that is missing
pub get_or-any : {K : Type 0} (ks : List K) (i : ℕ) (d e : K) → i < length ks → get_or ks i d ≡ get_or ks i e
get_or-any [] i d e inside = absurd (omega arith)
get_or-any (k ∷ ks) zero d e inside = refl
get_or-any (k ∷ ks) (suc i) d e inside = get_or-any ks i d e (omega arith)

-- the first that passes, and none
position-is : {K : Type 0} (test : K → Bool) (ks : List K) (i : ℕ) → i < length ks
    → ((j : ℕ) (d : K) → j < i → test (get_or ks j d) ≡ false) → ((d : K) → test (get_or ks i d) ≡ true) → position test ks ≡ Some i
position-is test [] i inside before here = absurd (omega arith)
position-is test (k ∷ ks) zero inside before here =
    let now : test k ≡ true = here k in
    position-cons test k ks ∙ (rw now refl)
position-is test (k ∷ ks) (suc i) inside before here =
    let first : test k ≡ false = before 0 k (omega arith) in
    let later = position-is test ks i (omega arith) (λ j d h. before (suc j) d (omega arith)) (λ d. here d) in
    position-cons test k ks ∙ (rw first (ap (option_map suc) later))

position-none : {K : Type 0} (test : K → Bool) (ks : List K) → ((j : ℕ) (d : K) → j < length ks → test (get_or ks j d) ≡ false) → position test ks ≡ None
position-none test [] none = refl
position-none test (k ∷ ks) none =
    let first : test k ≡ false = none 0 k (omega arith) in
    let later = position-none test ks (λ j d h. none (suc j) d (omega arith)) in
    position-cons test k ks ∙ (rw first (ap (option_map suc) later))

pub cells_same : (a b : Cell) → cell_eq a b ≡ true → a ≡ b
cells_same a b h =
    let parts = (Decides-and _ _ (unsigned_Decides a.bay b.bay) (Decides-and _ _ (unsigned_Decides a.row b.row) (unsigned_Decides a.tier b.tier))).0 h in
    λ i. record { bay = parts.0 i; row = parts.1.0 i; tier = parts.1.1 i }

same_cells : (a b : Cell) → a ≡ b → cell_eq a b ≡ true
same_cells a b e =
    (Decides-and _ _ (unsigned_Decides a.bay b.bay) (Decides-and _ _ (unsigned_Decides a.row b.row) (unsigned_Decides a.tier b.tier))).1
    (ap (λ (c : Cell). c.bay) e, (ap (λ (c : Cell). c.row) e, ap (λ (c : Cell). c.tier) e))

-- a test that two cells are equal, which failed
pub unlike : (r : Bool) (a b : Cell) → r ≡ false → r ≡ cell_eq a b → a ≡ b → ⊥
unlike r a b f e s =
    let no : false ≡ true = sym f ∙ e ∙ same_cells a b s in
    absurd (cc)

module _ (tell : Cell → ℕ) (cells : List Cell) (all : (i : ℕ) (d : Cell) → i < length cells → tell (get_or cells i d) ≡ i) (cell : Cell) where
  -- no other index has the cell than the one that the function gives
  elsewhere : (j : ℕ) (d : Cell) → j < length cells → (tell cell ≡ j → ⊥) → cell_eq cell (get_or cells j d) ≡ false
  elsewhere j d inside apart = by_cases (cell_eq cell (get_or cells j d)) refl where
    by_cases : (b : Bool) → cell_eq cell (get_or cells j d) ≡ b → b ≡ false
    by_cases true e = absurd (apart (ap tell (cells_same cell (get_or cells j d) e) ∙ all j d inside))
    by_cases false e = refl

  pub told_found : tell cell < length cells → ((d : Cell) → get_or cells (tell cell) d ≡ cell) → position (cell_eq cell) cells ≡ Some (tell cell)
  told_found inside is =
      position-is (cell_eq cell) cells (tell cell) inside (λ j d h. elsewhere j d (omega arith) (λ e. absurd (omega arith)))
      (λ d. same_cells cell (get_or cells (tell cell) d) (sym (is d)))

  pub told_none : ((d : Cell) → tell cell < length cells → get_or cells (tell cell) d ≡ cell → ⊥) → position (cell_eq cell) cells ≡ None
  told_none other =
      position-none (cell_eq cell) cells (λ j d inside. by_cases j d inside (cell_eq cell (get_or cells j d)) refl) where
        by_cases : (j : ℕ) (d : Cell) → j < length cells → (b : Bool) → cell_eq cell (get_or cells j d) ≡ b → b ≡ false
        by_cases j d inside true e =
            let is = cells_same cell (get_or cells j d) e in
            let at : tell cell ≡ j = ap tell is ∙ all j d inside in
            absurd (other d (omega arith) (ap (λ k. get_or cells k d) at ∙ sym is))
        by_cases j d inside false e = refl

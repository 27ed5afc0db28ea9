-- The bays in which a cell can have a rival.
use Rattle.std.proofs.Common.{◌≡◌, ℕ, suc, zero, ◌+◌, ◌<◌, ◌≤◌, ◌&&◌, ◌⊎◌, inl, inr, Bool, true, false, Option, None, Some, nat_le, refl, sym, ap, ◌∙◌, arith}
use Rattle.std.specs.Prelude.{find}
use Rattle.std.specs.List.{range_with_len}
use Rattle.std.specs.Option.{is_some, option_map}
use Rattle.units_core.specs.declared.cells.Cell.{Cell}
use Rattle.lift_sequence.specs.declared.containers.Container.{Container}
use Rattle.units_core.specs.Cells.{meet}
use Rattle.lift_sequence.specs.Legal.{is_rival, overlap, in_bay}

-- the spans of two bays that are more than two apart don't meet
apart : (a b : ℕ) → (a + 2 < b) → meet a b ≡ false
apart a b h = grind (arith)

apart_too : (a b : ℕ) → (b + 2 < a) → meet a b ≡ false
apart_too a b h = grind (arith)

-- the first that does, in a range of numbers
pub find_none : (p : ℕ → Bool) (a n : ℕ) → ((b : ℕ) → a ≤ b → b < a + n → p b ≡ false) → find p (range_with_len a n) ≡ None
find_none p a zero h = refl
find_none p a (suc n) h = rw (h a (omega arith) (omega arith)) (find_none p (a + 1) n (λ b low high. h b (omega arith) (omega arith)))

pub find_at : (p : ℕ → Bool) (a n k : ℕ) → k < n → ((b : ℕ) → a ≤ b → b < a + k → p b ≡ false) → p (a + k) ≡ true → find p (range_with_len a n) ≡ Some (a + k)
find_at p a zero k inside h here = absurd (omega arith)
find_at p a (suc n) zero inside h here =
    let e : a + 0 ≡ a = omega arith in
    let now : p a ≡ true = ap p (sym e) ∙ here in
    rw (now, e) refl
find_at p a (suc n) (suc k) inside h here =
    let e : a + suc k ≡ (a + 1) + k = omega arith in
    let later = find_at p (a + 1) n k (omega arith) (λ b low high. h b (omega arith) (omega arith)) (ap p (sym e) ∙ here) in
    rw (h a (omega arith) (omega arith)) (later ∙ ap (λ m. Some m) (sym e))

-- a bay out of reach is no rival
far : (cells : Cell → Option Container) (cell : Cell) (b : ℕ) → meet b cell.bay ≡ false → is_rival cells cell b ≡ false
far cells cell b h = by_cases (is_some (cells (in_bay cell b))) where
  by_cases : (o : Bool) → (o && meet b cell.bay) ≡ false
  by_cases true = h
  by_cases false = refl

pub below : (cells : Cell → Option Container) (cell : Cell) (b : ℕ) → b + 2 < cell.bay → is_rival cells cell b ≡ false
below cells cell b h = far cells cell b (apart b cell.bay h)

pub above : (cells : Cell → Option Container) (cell : Cell) (b : ℕ) → cell.bay + 2 < b → is_rival cells cell b ≡ false
above cells cell b h = far cells cell b (apart_too b cell.bay h)

zero_plus : (n : ℕ) → 0 + n ≡ n
zero_plus n = omega arith

-- the search is over with the first rival, or with the last bay in reach
pub found : (cells : Cell → Option Container) (cell : Cell) (n : ℕ) → n < 1000 → ((b : ℕ) → b < n → is_rival cells cell b ≡ false) → is_rival cells cell n ≡ true
    → overlap cells cell ≡ Some (in_bay cell n)
unfolding overlap
found cells cell n inside before here =
    ap (option_map (in_bay cell)) (find_at (is_rival cells cell) 0 1000 n inside (λ b low high. before b (omega arith)) (ap (is_rival cells cell) (zero_plus n) ∙ here)) ∙ ap (λ m. Some (in_bay cell m)) (zero_plus n)

pub none_found : (cells : Cell → Option Container) (cell : Cell) (n : ℕ) → (1000 ≤ n) ⊎ (cell.bay + 3 ≤ n) → ((b : ℕ) → b < n → is_rival cells cell b ≡ false)
    → overlap cells cell ≡ None
unfolding overlap
none_found cells cell n all before =
    ap (option_map (in_bay cell)) (find_none (is_rival cells cell) 0 1000 (λ b low high. by_order b (omega arith) (nat_le n b) refl)) where
      beyond : (b : ℕ) → n ≤ b → b < 1000 → (1000 ≤ n) ⊎ (cell.bay + 3 ≤ n) → cell.bay + 2 < b
      beyond b h k (inl e) = absurd (omega arith)
      beyond b h k (inr e) = omega arith

      by_order : (b : ℕ) → b < 1000 → (t : Bool) → nat_le n b ≡ t → is_rival cells cell b ≡ false
      by_order b high true e = above cells cell b (beyond b (grind (arith, e)) high all)
      by_order b high false e = before b (grind (arith, e))

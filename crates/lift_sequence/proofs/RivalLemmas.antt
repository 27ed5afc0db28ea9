-- The search for a rival names the one of least bay.
use Rattle.std.proofs.Common.{◌≡◌, ◌↔◌, ℕ, suc, zero, ◌+◌, ◌*◌, ◌<◌, ◌≤◌, ◌&&◌, Bool, true, false, Option, None, Some, nat_le, List, [], ◌∷◌, map, cond, refl, sym, ap, ◌∙◌, subst, arith}
use Rattle.std.specs.Char.{is_ascii_digit}
use Rattle.std.specs.Prelude.{find, if◌then◌else◌, slice_get}
use Rattle.std.specs.List.{range_with_len}
use Rattle.std.specs.Map.{keys_of, lookup}
use Rattle.std.specs.Option.{is_some, option_and_then, option_map}
use Rattle.std.proofs.lemmas.Option.{none-some, option_and_then_some, same_Some}
use Rattle.units_core.specs.declared.bodies.Place.{Place}
use Rattle.units_core.specs.declared.cells.Cell.{Cell}
use Rattle.units_core.specs.Cells.{cell_eq, cell_in, cell_of, digit, meet, three_in, two_in}
use Rattle.ship_profile.specs.Record.{ProfileRecord, Texts}
use Rattle.ship_profile.specs.Written.{IsWritten}
use Rattle.lift_sequence.specs.declared.containers.Container.{Container}
use Rattle.lift_sequence.specs.Aboard.{Aboard}
use Rattle.lift_sequence.specs.Legal.{in_bay, is_rival, overlap}
use Rattle.lift_sequence.specs.Places.{HasPlaces}
use Rattle.lift_sequence.specs.Rivals.{HaveShortBays, HasNoRival, IsLeastRival, IsRival}
use Rattle.lift_sequence.proofs.Listings.{cells_same}
use Rattle.lift_sequence.proofs.Overlaps.{find_none, found}

both : (a b : Bool) → (a && b) ≡ true → (a ≡ true) × (b ≡ true)
both true b h = (refl, h)
both false b h = absurd (cc)

joined : (a b : Bool) → a ≡ true → b ≡ true → (a && b) ≡ true
joined a b h k = rw (h, k) refl

not_true : (b : Bool) → (b ≡ true → ⊥) → b ≡ false
not_true true h = absurd (h refl)
not_true false h = refl

true_false : (b : Bool) → b ≡ true → b ≡ false → ⊥
true_false b h k = cc

-- what a search in a range of numbers has found
record FirstIn (p : ℕ → Bool) (a n k : ℕ) : Type 0 where
  low : a ≤ k
  high : k < a + n
  here : p k ≡ true
  before : (b : ℕ) → a ≤ b → b < k → p b ≡ false

module _ (p : ℕ → Bool) where
  -- a number is the first of a range, or behind it
  first_or : (a b : ℕ) → a ≤ b → p a ≡ false → (a + 1 ≤ b → p b ≡ false) → p b ≡ false
  first_or a b low here more = by_order (nat_le b a) refl where
    by_order : (t : Bool) → nat_le b a ≡ t → p b ≡ false
    by_order true t =
        let high : b ≤ a = grind (arith, t) in
        let same : b ≡ a = omega arith in
        ap p same ∙ here
    by_order false t = more (grind (arith, t))

  found_in : (a n k : ℕ) → find p (range_with_len a n) ≡ Some k → FirstIn p a n k
  found_in a zero k h = absurd (none-some k h)
  found_in a (suc n) k h = by_first (p a) refl (found_in (a + 1) n k) where
    by_first : (t : Bool) → p a ≡ t → (find p (range_with_len (a + 1) n) ≡ Some k → FirstIn p (a + 1) n k) → FirstIn p a (suc n) k
    by_first true e more =
        let is : Some a ≡ Some k = ap (λ t. cond t (Some a) (find p (range_with_len (a + 1) n))) (sym e) ∙ h in
        let same : a ≡ k = same_Some a k is in
        record { low = omega arith; high = omega arith; here = ap p (sym same) ∙ e; before = λ b low high. absurd (omega arith) }
    by_first false e more =
        let r = more (ap (λ t. cond t (Some a) (find p (range_with_len (a + 1) n))) (sym e) ∙ h) in
        record {
          low = omega (arith, r.low);
          high = omega (arith, r.high);
          here = r.here;
          before = λ b low high. first_or a b low e (λ above. r.before b above high);
        }

  none_in : (a n : ℕ) → find p (range_with_len a n) ≡ None → (b : ℕ) → a ≤ b → b < a + n → p b ≡ false
  none_in a zero h b low high = absurd (omega arith)
  none_in a (suc n) h b low high = by_first (p a) refl (none_in (a + 1) n) where
    by_first : (t : Bool) → p a ≡ t → (find p (range_with_len (a + 1) n) ≡ None → (c : ℕ) → a + 1 ≤ c → c < (a + 1) + n → p c ≡ false) → p b ≡ false
    by_first true e more = absurd (none-some a (sym (ap (λ t. cond t (Some a) (find p (range_with_len (a + 1) n))) (sym e) ∙ h)))
    by_first false e more =
        first_or a b low e (λ above. more (ap (λ t. cond t (Some a) (find p (range_with_len (a + 1) n))) (sym e) ∙ h) b above (omega arith))

-- what a search among the bays below a number has named, and that it has named nothing
record Named (p : ℕ → Bool) (cell_at : ℕ → Cell) (n : ℕ) (cell : Cell) : Type 0 where
  bay : ℕ
  is : cell_at bay ≡ cell
  first : FirstIn p 0 n bay

named_by : (p : ℕ → Bool) (cell_at : ℕ → Cell) (n : ℕ) (cell : Cell) → option_map cell_at (find p (range_with_len 0 n)) ≡ Some cell → Named p cell_at n cell
named_by p cell_at n cell h = by_search (find p (range_with_len 0 n)) refl h where
  by_search : (o : Option ℕ) → find p (range_with_len 0 n) ≡ o → option_map cell_at o ≡ Some cell → Named p cell_at n cell
  by_search None e k = absurd (none-some cell k)
  by_search (Some b) e k = record { bay = b; is = same_Some (cell_at b) cell k; first = found_in p 0 n b e }

unnamed_by : (p : ℕ → Bool) (cell_at : ℕ → Cell) (n : ℕ) → option_map cell_at (find p (range_with_len 0 n)) ≡ None → (b : ℕ) → b < n → p b ≡ false
unnamed_by p cell_at n h b high = by_search (find p (range_with_len 0 n)) refl h where
  by_search : (o : Option ℕ) → find p (range_with_len 0 n) ≡ o → option_map cell_at o ≡ None → p b ≡ false
  by_search None e k = none_in p 0 n e b (omega arith) (omega arith)
  by_search (Some c) e k = absurd (none-some (cell_at c) (sym k))

module _ (cells : Cell → Option Container) (cell : Cell) where
  -- a rival by its bay, and the bay of a rival
  rival_at : (b : ℕ) → is_rival cells cell b ≡ true → IsRival cells cell (in_bay cell b)
  rival_at b h =
      let parts = both (is_some (cells (in_bay cell b))) (meet b cell.bay) h in
      record { taken = parts.0; conflicts = record { row = refl; tier = refl; bays = parts.1 } }

  in_its_bay : (rival : Cell) → IsRival cells cell rival → rival ≡ in_bay cell rival.bay
  in_its_bay rival r = λ i. record { bay = rival.bay; row = r.conflicts.row i; tier = r.conflicts.tier i }

  is_at : (rival : Cell) → IsRival cells cell rival → is_rival cells cell rival.bay ≡ true
  is_at rival r =
      joined (is_some (cells (in_bay cell rival.bay))) (meet rival.bay cell.bay) (ap (λ c. is_some (cells c)) (sym (in_its_bay rival r)) ∙ r.taken) r.conflicts.bays

  none_named : HaveShortBays cells → overlap cells cell ≡ None → HasNoRival cells cell
  unfolding overlap
  none_named short h rival r =
      true_false (is_rival cells cell rival.bay) (is_at rival r) (unnamed_by (is_rival cells cell) (in_bay cell) 1000 h rival.bay (short rival r.taken))

  names_none : HasNoRival cells cell → overlap cells cell ≡ None
  unfolding overlap
  names_none none =
      ap (option_map (in_bay cell)) (find_none (is_rival cells cell) 0 1000 (λ b low high. not_true (is_rival cells cell b) (λ h. none (in_bay cell b) (rival_at b h))))

  named_least : (n : ℕ) (rival : Cell) → Named (is_rival cells cell) (in_bay cell) n rival → IsLeastRival cells cell rival
  named_least n rival r = subst (IsLeastRival cells cell) r.is (record { is = rival_at r.bay r.first.here; least = λ other o. by_order other o (nat_le r.bay other.bay) refl }) where
    by_order : (other : Cell) → IsRival cells cell other → (t : Bool) → nat_le r.bay other.bay ≡ t → r.bay ≤ other.bay
    by_order other o true t = grind (arith, t)
    by_order other o false t =
        absurd (true_false (is_rival cells cell other.bay) (is_at other o) (r.first.before other.bay (omega arith) (grind (arith, t))))

  least_named : (rival : Cell) → overlap cells cell ≡ Some rival → IsLeastRival cells cell rival
  unfolding overlap
  least_named rival h = named_least 1000 rival (named_by (is_rival cells cell) (in_bay cell) 1000 rival h)

  names_least : HaveShortBays cells → (rival : Cell) → IsLeastRival cells cell rival → overlap cells cell ≡ Some rival
  names_least short rival r =
      found cells cell rival.bay (short rival r.is.taken) (λ b low. not_true (is_rival cells cell b) (λ h. not_less b low (r.least (in_bay cell b) (rival_at b h)))) (is_at rival r.is)
      ∙ ap (λ c. Some c) (sym (in_its_bay rival r.is)) where
        not_less : (b : ℕ) → b < rival.bay → rival.bay ≤ b → ⊥
        not_less b h k = absurd (omega arith)

  pub none_exactly : HaveShortBays cells → (overlap cells cell ≡ None) ↔ HasNoRival cells cell
  none_exactly short = (none_named short, names_none)

  pub some_exactly : (rival : Cell) → HaveShortBays cells → (overlap cells cell ≡ Some rival) ↔ IsLeastRival cells cell rival
  some_exactly rival short = (least_named rival, names_least short rival)

-- the number that three bytes write has three digits
digit_short : (a : ℕ) → is_ascii_digit a ≡ true → digit a ≤ 9
digit_short a h = grind (arith, h)

digits_short : (a b c : ℕ) (n : ℕ) → three_in a b c ≡ Some n → n < 1000
digits_short a b c n h = by_digits (is_ascii_digit a) (is_ascii_digit b) (is_ascii_digit c) (digit_short a) (digit_short b) (digit_short c) h where
  by_digits : (p q r : Bool) → (p ≡ true → digit a ≤ 9) → (q ≡ true → digit b ≤ 9) → (r ≡ true → digit c ≤ 9)
      → (if p && (q && r) then Some (100 * digit a + (10 * digit b + digit c)) else None) ≡ Some n → n < 1000
  by_digits true true true d e f k =
      let is : 100 * digit a + (10 * digit b + digit c) ≡ n = same_Some (100 * digit a + (10 * digit b + digit c)) n k in
      omega (arith, is, d refl, e refl, f refl)
  by_digits true true false d e f k = absurd (none-some n k)
  by_digits true false r d e f k = absurd (none-some n k)
  by_digits false q r d e f k = absurd (none-some n k)

bay_short : (bay row tier : Option ℕ) (cell : Cell) → ((n : ℕ) → bay ≡ Some n → n < 1000) → cell_of bay row tier ≡ Some cell → cell.bay < 1000
bay_short (Some bay) (Some row) (Some tier) cell short h =
    let is : bay ≡ cell.bay = ap (λ (c : Cell). c.bay) (same_Some (record { bay = bay; row = row; tier = tier }) cell h) in
    omega (arith, is, short bay refl)
bay_short bay row tier cell short h = absurd (none-some cell h)

cell_short : (text : List ℕ) (cell : Cell) → cell_in text ≡ Some cell → cell.bay < 1000
cell_short (b1 ∷ b2 ∷ b3 ∷ r1 ∷ r2 ∷ t1 ∷ t2 ∷ []) cell h = bay_short (three_in b1 b2 b3) (two_in r1 r2) (two_in t1 t2) cell (digits_short b1 b2 b3) h
cell_short (b2 ∷ b3 ∷ r1 ∷ r2 ∷ t1 ∷ t2 ∷ []) cell h = bay_short (three_in 48 b2 b3) (two_in r1 r2) (two_in t1 t2) cell (digits_short 48 b2 b3) h
cell_short text cell h = absurd (none-some cell h)

-- so has the bay of each cell that is written in a text
module _ {F : Type 0} (read : F → Option Cell) (short : (f : F) (cell : Cell) → read f ≡ Some cell → cell.bay < 1000) where
  looked_up : (cell : Cell) (es : List (Cell × Place)) (fs : List F) → map read fs ≡ map (λ c. Some c) (keys_of es) → is_some (lookup (cell_eq cell) es) ≡ true → cell.bay < 1000
  looked_up cell [] fs written h = absurd (cc)
  looked_up cell (e ∷ es) [] written h = absurd (cc)
  looked_up cell (e ∷ es) (f ∷ fs) written h = by_first (cell_eq cell e.0) refl (looked_up cell es fs rest) h where
    first : read f ≡ Some e.0
    first = cc

    rest : map read fs ≡ map (λ c. Some c) (keys_of es)
    rest = cc

    by_first : (t : Bool) → cell_eq cell e.0 ≡ t → (is_some (lookup (cell_eq cell) es) ≡ true → cell.bay < 1000)
        → is_some (cond t (Some e.1) (lookup (cell_eq cell) es)) ≡ true → cell.bay < 1000
    by_first true t more k = subst (λ (c : Cell). c.bay < 1000) (sym (cells_same cell e.0 t)) (short f e.0 first)
    by_first false t more k = more k

pub places_have_short_bays : (texts : Texts) (ship : ProfileRecord) (at : Aboard) → IsWritten texts ship → HasPlaces ship at → HaveShortBays at.cells
places_have_short_bays texts ship at written places cell taken =
    looked_up (λ (fields : List (List ℕ)). option_and_then cell_in (slice_get fields 0))
    (λ fields c h. option_and_then_some cell_in (slice_get fields 0) c h (λ text e k. cell_short text c k)) cell ship.tables.cells _ written.tables.cells.cell
    (places.cells cell taken)

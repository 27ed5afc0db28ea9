-- A step that is moved: what stands before and behind the stretch that it is moved over.
use Rattle.std.proofs.Common.{◌≡◌, ◌⊎◌, ℕ, zero, suc, ◌+◌, ◌-◌, ◌*◌, ◌/◌, ◌<◌, ◌≤◌, List, [], ◌∷◌, length, map, take, drop, get_or, Option, None, Some, refl, sym, ap, ◌∙◌, arith, lt_of_not-le, ⊎_elim}
use Rattle.std.specs.Prelude.{slice_get}
use Rattle.std.specs.List.{insert, remove}
use Rattle.std.proofs.lemmas.List.{drop-map, get_or-drop, get_or-take, get_or_past, take-map}
use mathlib.Core.Logic.{dite}
use native.Mathlib.Decide.{dec_le}
use Rattle.std.proofs.lemmas.List.Edits.{length-insert, length-remove}
use Rattle.std.proofs.lemmas.Option.{none-some, slice_get-get_or}
use Rattle.lift_sequence.specs.declared.operations.Op.{Op}
use Rattle.lift_sequence.specs.Independent.{moved, put_in}
use Rattle.prefix_scan.specs.Rows.{IsWritten}
use Rattle.moment_sums.specs.Kept.{Kept, none_kept}
use Rattle.step_edits.proofs.EditLemmas.{can_be_done}
use Rattle.step_edits.specs.Edits.{edit_fault, edited, moved_to}
use Rattle.step_edits.specs.declared.edits.Edit.TheVariants.{Move}
use Rattle.units_core.specs.declared.frames.Frame.{Frame}
use Rattle.units_core.specs.declared.steps.Step.{Step}
use Rattle.running_sums.specs.Fours.{LackPlaces, change_of, fours}
use Rattle.running_sums.proofs.FourLemmas.{fours_same, length-fours}
use Rattle.running_sums.proofs.PlaceLemmas.{IsOther, others, places_set}

module _ {X : Type 0} where
  take_insert : (xs : List X) (j n : ℕ) (x : X) → n ≤ j → j ≤ length xs → take n (insert xs j x) ≡ take n xs
  take_insert xs j zero x h k = refl
  take_insert [] j (suc n) x h k = absurd (omega (arith, h, k))
  take_insert (y ∷ ys) zero (suc n) x h k = absurd (omega (arith, h))
  take_insert (y ∷ ys) (suc j) (suc n) x h k = ap (λ l. y ∷ l) (take_insert ys j n x (omega (arith, h)) (omega (arith, k)))

  take_remove : (xs : List X) (i n : ℕ) → n ≤ i → take n (remove xs i) ≡ take n xs
  take_remove xs i zero h = refl
  take_remove [] zero (suc n) h = absurd (omega (arith, h))
  take_remove [] (suc i) (suc n) h = refl
  take_remove (y ∷ ys) zero (suc n) h = absurd (omega (arith, h))
  take_remove (y ∷ ys) (suc i) (suc n) h = ap (λ l. y ∷ l) (take_remove ys i n (omega (arith, h)))

  drop_insert : (xs : List X) (j n : ℕ) (x : X) → j ≤ n → j ≤ length xs → drop (suc n) (insert xs j x) ≡ drop n xs
  drop_insert xs zero n x h k = refl
  drop_insert [] (suc j) n x h k = absurd (omega (arith, k))
  drop_insert (y ∷ ys) (suc j) zero x h k = absurd (omega (arith, h))
  drop_insert (y ∷ ys) (suc j) (suc n) x h k = drop_insert ys j n x (omega (arith, h)) (omega (arith, k))

  drop_remove : (xs : List X) (i n : ℕ) → i ≤ n → i < length xs → drop n (remove xs i) ≡ drop (suc n) xs
  drop_remove [] i n h k = absurd (omega (arith, k))
  drop_remove (y ∷ ys) zero n h k = refl
  drop_remove (y ∷ ys) (suc i) zero h k = absurd (omega (arith, h))
  drop_remove (y ∷ ys) (suc i) (suc n) h k = drop_remove ys i n (omega (arith, h)) (omega (arith, k))

  take_put : (ys : List X) (j n : ℕ) (o : Option X) → n ≤ j → j ≤ length ys → take n (put_in ys j o) ≡ take n ys
  take_put ys j n None h k = refl
  take_put ys j n (Some x) h k = take_insert ys j n x h k

  pub before_moved : (xs : List X) (i j n : ℕ) → n ≤ i → n ≤ j → i < length xs → j < length xs → take n (moved xs i j) ≡ take n xs
  before_moved xs i j n h k low high =
      take_put (remove xs i) j n (slice_get xs i) k (omega (arith, length-remove xs i low, high)) ∙ take_remove xs i n h

  pub behind_moved : (xs : List X) (i j n : ℕ) (d : X) → i ≤ n → j ≤ n → i < length xs → j < length xs → drop (suc n) (moved xs i j) ≡ drop (suc n) xs
  behind_moved xs i j n d h k low high =
      ap (λ o. drop (suc n) (put_in (remove xs i) j o)) (slice_get-get_or xs i d low)
      ∙ drop_insert (remove xs i) j n (get_or xs i d) k (omega (arith, length-remove xs i low, high)) ∙ drop_remove xs i n h low

  pub behind_at : (xs : List X) (i j m : ℕ) → i < m → j < m → i < length xs → j < length xs → drop m (moved xs i j) ≡ drop m xs
  behind_at [] i j m h k low high = absurd (omega (arith, low))
  behind_at (x ∷ xs) i j zero h k low high = absurd (omega (arith, h))
  behind_at (x ∷ xs) i j (suc n) h k low high = behind_moved (x ∷ xs) i j n x (omega (arith, h)) (omega (arith, k)) low high

  pub length_moved : (xs : List X) (i j : ℕ) → i < length xs → j < length xs → length (moved xs i j) ≡ length xs
  length_moved [] i j low high = absurd (omega (arith, low))
  length_moved (x ∷ xs) i j low high =
      let zs : List X = x ∷ xs in
      let less = length-remove zs i low in
      ap (λ o. length (put_in (remove zs i) j o)) (slice_get-get_or zs i x low)
      ∙ length-insert (remove zs i) j (get_or zs i x) (omega (arith, less, high)) ∙ less

-- what the steps change, outside of the stretch
module _ (frames : List Frame) (old new : List Step) (i j m : ℕ) (shifts : new ≡ moved old i j) (low : i < length old) (high : j < length old) where
  pub changes_before : m ≤ i → m ≤ j → (k : ℕ) → k < m → get_or (map (change_of frames) old) k none_kept ≡ get_or (map (change_of frames) new) k none_kept
  changes_before h l k within =
      let same : take m (map (change_of frames) old) ≡ take m (map (change_of frames) new)
      = take-map (change_of frames) m old ∙ ap (map (change_of frames)) (sym (before_moved old i j m h l low high) ∙ ap (take m) (sym shifts)) ∙ sym (take-map (change_of frames) m new) in
      sym (get_or-take m (map (change_of frames) old) k none_kept within) ∙ ap (λ (l : List Kept). get_or l k none_kept) same ∙ get_or-take m (map (change_of frames) new) k none_kept within

  pub changes_behind : i < m → j < m → (k : ℕ) → m ≤ k → get_or (map (change_of frames) old) k none_kept ≡ get_or (map (change_of frames) new) k none_kept
  changes_behind h l k past =
      let same : drop m (map (change_of frames) old) ≡ drop m (map (change_of frames) new)
      = drop-map (change_of frames) m old ∙ ap (map (change_of frames)) (sym (behind_at old i j m h l low high) ∙ ap (drop m) (sym shifts)) ∙ sym (drop-map (change_of frames) m new) in
      let is : m + (k - m) ≡ k = omega (arith, past) in
      ap (λ n. get_or (map (change_of frames) old) n none_kept) (sym is) ∙ sym (get_or-drop m (map (change_of frames) old) (k - m) none_kept)
      ∙ ap (λ (l : List Kept). get_or l (k - m) none_kept) same ∙ get_or-drop m (map (change_of frames) new) (k - m) none_kept ∙ ap (λ n. get_or (map (change_of frames) new) n none_kept) is

-- the sums of some fours are renewed, outside of which no change is another but at some places
pub lack_beside : (xs ys after : List Kept) (four len first end : ℕ) (places : List ℕ) → length xs ≡ length ys → IsWritten none_kept four len (drop four (fours ys)) (fours xs) after
    → ((k : ℕ) → k < first → IsOther k places → get_or xs k none_kept ≡ get_or ys k none_kept)
    → ((k : ℕ) → end ≤ k → IsOther k places → get_or xs k none_kept ≡ get_or ys k none_kept)
    → four * 4 ≤ first → (end ≤ (four + len) * 4) ⊎ (length xs / 4 ≤ four + len) → LackPlaces places (fours ys) after
lack_beside xs ys after four len first end places long wrote before behind from to = record {
  long = wrote.long ∙ length-fours xs ∙ ap (λ n. n / 4) long ∙ sym (length-fours ys);
  same = λ k away. dite (dec_le (suc k) four)
      (λ low. wrote.before k (omega (arith, low)) ∙ fours_same xs ys k long (λ n at. before n (omega (arith, at, low, from)) (others places k n at away)))
      (λ not. let high = lt_of_not-le not in
      dite (dec_le (four + len) k)
      (λ past. wrote.behind k past
      ∙ ⊎_elim
      (λ (all : end ≤ (four + len) * 4). fours_same xs ys k long (λ n at. behind n (omega (arith, at, past, all)) (others places k n at away)))
      (λ (none : length xs / 4 ≤ four + len). get_or_past (fours xs) k none_kept (omega (arith, length-fours xs, none, past)) ∙ sym (get_or_past (fours ys) k none_kept (omega (arith, length-fours ys, long, none, past))))
      to)
      (λ not_past. let inside = lt_of_not-le not_past in
      let is : k ≡ four + (k - four) = omega (arith, high) in
      ap (λ n. get_or after n none_kept) is ∙ wrote.inside (k - four) (omega (arith, high, inside)) ∙ get_or-drop four (fours ys) (k - four) none_kept ∙ ap (λ n. get_or (fours ys) n none_kept) (sym is)));
}

-- the same where there is no such place
pub fours_renewed : (xs ys after : List Kept) (four len first end : ℕ) → length xs ≡ length ys → IsWritten none_kept four len (drop four (fours ys)) (fours xs) after
    → ((k : ℕ) → k < first → get_or xs k none_kept ≡ get_or ys k none_kept) → ((k : ℕ) → end ≤ k → get_or xs k none_kept ≡ get_or ys k none_kept)
    → four * 4 ≤ first → (end ≤ (four + len) * 4) ⊎ (length xs / 4 ≤ four + len) → after ≡ fours ys
fours_renewed xs ys after four len first end long wrote before behind from to =
    places_set ys after (lack_beside xs ys after four len first end [] long wrote (λ k low other. before k low) (λ k past other. behind k past) from to)

-- a step that is taken out and put in again, and the edit that orders it
by_step : (ops : List Op) (i j : ℕ) (d : Op) (o : Option Op) → slice_get ops i ≡ o → i < length ops → put_in (remove ops i) j o ≡ moved_to ops o i j
by_step ops i j d None e low = absurd (none-some (get_or ops i d) (sym e ∙ slice_get-get_or ops i d low))
by_step ops i j d (Some op) e low = refl

pub is_moved : (ops : List Op) (from to : ℕ) → edit_fault ops (Move from to) ≡ None → moved ops (from - 1) (to - 1) ≡ edited ops (Move from to)
is_moved [] from to h = let can = can_be_done [] (Move from to) h in absurd (omega (arith, can.0.0, can.0.1))
is_moved (op ∷ ops) zero to h = let can = can_be_done (op ∷ ops) (Move zero to) h in absurd (omega (arith, can.0.0))
is_moved (op ∷ ops) (suc i) zero h = let can = can_be_done (op ∷ ops) (Move (suc i) zero) h in absurd (omega (arith, can.1.0))
is_moved (op ∷ ops) (suc i) (suc j) h =
    let can = can_be_done (op ∷ ops) (Move (suc i) (suc j)) h in
    (λ k. moved (op ∷ ops) (one i k) (one j k)) ∙ by_step (op ∷ ops) i j op (slice_get (op ∷ ops) i) refl (omega (arith, can.0.1)) where
      one : (n : ℕ) → suc n - 1 ≡ n
      one n = omega arith

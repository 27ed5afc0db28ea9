-- Runs of fours that are set together.
use Rattle.std.proofs.Common.{◌≡◌, ◌∙◌, ℕ, zero, suc, ◌+◌, ◌-◌, ◌*◌, ◌/◌, ◌^◌, ◌<◌, ◌≤◌, List, ◌++◌, Option, ◌∷◌, length, take, drop, set, get_or, sum_by, true, refl, sym, ap, subst, arith, lt_of_not-le, mul-le-mul_right, get_or-set_same, get_or-set_other}
use Rattle.std.specs.Prelude.{if◌then◌else◌}
use Rattle.std.proofs.lemmas.Bool.{true≢false}
use Rattle.std.proofs.lemmas.List.{drop_more, get_or-drop, get_or_past, length-set}
use mathlib.Core.Logic.{dite}
use native.Mathlib.Decide.{dec_le}
use Rattle.lift_sequence.specs.declared.operations.Op.{Op}
use Rattle.units_core.specs.declared.cells.Cell.{Cell}
use Rattle.lift_sequence.specs.Follow.{loaded_at, moves, moves_in, next_cell}
use Rattle.prefix_scan.specs.Rows.{IsWritten}
use Rattle.prefix_scan.proofs.StretchLemmas.{length-with, with_before, with_behind, with_inside, written}
use Rattle.moment_sums.specs.Kept.{Kept, both_kept, none_kept, size_of}
use Rattle.running_sums.specs.Fours.{AreMixed, AreMixedBut, AreOfFour, AreSmall, AreStill, LacksRun, WereNear, fours}
use Rattle.running_sums.proofs.FourLemmas.{not_written, of_four, of_four_append, of_four_at, of_four_drop, of_four_from, of_four_sum, of_four_take, quarter}
use Rattle.running_sums.proofs.RenewLemmas.{begins, goes_on, skips}

-- sums in a room, and the list into which they were written
module _ (xs old vs : List Kept) (four : ℕ) (each : (k : ℕ) → k < length vs → get_or vs k none_kept ≡ get_or (fours xs) (four + k) none_kept) (within : four + length vs ≤ length old) where
  pub room_written : IsWritten none_kept four (length vs) (drop four (fours xs)) old (take four old ++ vs ++ drop (four + length vs) old)
  room_written = record {
    long = length-with both_kept none_kept old vs four within;
    inside = λ k h. with_inside both_kept none_kept old vs four within k h ∙ each k h ∙ sym (get_or-drop four (fours xs) k none_kept);
    before = with_before both_kept none_kept old vs four within;
    behind = with_behind both_kept none_kept old vs four within;
  }

  pub room_small : AreSmall xs → AreOfFour old → AreOfFour (take four old ++ vs ++ drop (four + length vs) old)
  room_small few old_few =
      let room_few : AreOfFour vs = of_four_from vs (λ k low. let size = of_four_at (fours xs) (four + k) (of_four xs few) in omega (arith, size, ap size_of (each k low))) in
      of_four_append (take four old ++ vs) (drop (four + length vs) old) (of_four_append (take four old) vs (of_four_take four old old_few) room_few) (of_four_drop (four + length vs) old old_few)

  pub room_sum : AreSmall xs → AreOfFour old → sum_by size_of (take four old ++ vs ++ drop (four + length vs) old) ≤ 8 * length old
  room_sum few old_few =
      let sum = of_four_sum (take four old ++ vs ++ drop (four + length vs) old) (room_small few old_few) in
      omega (arith, sum, length-with both_kept none_kept old vs four within)

-- the joins of a run of sums: of the changes in them, and in the tree
spread : (m n : ℕ) → m * (n + 3) ≡ m * n + 3 * m
spread m n = grind arith

pub run_cost : (n m ops values levels tree whole single added : ℕ) → m ≡ n → (0 < n → 4 ≤ ops) → values ≡ ops / 4 → ops ≤ 2 ^ levels → ((k : ℕ) → values ≤ 2 ^ k → whole ≤ tree + m * k)
    → added ≤ single + 3 * n → whole + added ≤ tree + single + n * (levels + 1)
run_cost zero m ops values levels tree whole single added same some are fits few more =
    let none = ap (λ k. k * levels) same in
    let le = few levels (omega (arith, are, fits)) in
    omega (arith, le, none, more)
run_cost (suc n) m ops values levels tree whole single added same some are fits few more =
    let q = quarter ops levels (some (omega arith)) fits in
    let l : ℕ = levels - 2 in
    let is : levels + 1 ≡ l + 3 = omega (arith, q.0) in
    let le = few l (omega (arith, are, q.1)) in
    let one : m * l ≡ suc n * l = ap (λ k. k * l) same in
    let all : suc n * (levels + 1) ≡ suc n * l + 3 * suc n = ap (λ k. suc n * k) is ∙ spread (suc n) l in
    omega (arith, le, one, all, more)

-- a step that moves the container, and the joins of its four
both : (a b n : ℕ) → (a + b) * n ≡ a * n + b * n
both a b n = grind arith

pub one_move : (cell : Option Cell) (ops : List Op) (place : ℕ) (op : Op) → place < length ops → get_or ops place op ≡ op → moves cell op ≡ true
    → moves_in cell (drop place ops) ≡ 1 + moves_in (next_cell cell op) (drop (place + 1) ops)
one_move cell ops place op inside at moved =
    ap (moves_in cell) (drop_more ops place op inside ∙ ap (λ o. o ∷ drop (place + 1) ops) at) ∙ ap (λ b. (if b then 1 else 0) + moves_in (next_cell cell op) (drop (place + 1) ops)) moved

pub run_costs : (old new run next moves left n most : ℕ) → moves ≡ 1 + left → old + (run + moves) * n ≤ most → new + next * n ≤ old + (run + 1) * n → new + (next + left) * n ≤ most
run_costs old new run next moves left n most one so_far more =
    let all : (run + moves) * n ≡ (run + 1) * n + left * n = ap (λ m. m * n) (let e : run + moves ≡ run + 1 + left = omega (arith, one) in e) ∙ both (run + 1) left n in
    omega (arith, so_far, more, all, both next left n)

pub all_costs : (old new run left n most : ℕ) → old + (run + left) * n ≤ most → new ≤ old + run * n → new ≤ most
all_costs old new run left n most so_far more = omega (arith, so_far, more, both run left n)

-- no joins for a run beyond the whole fours
pub shorter_run : (one all n old new : ℕ) → one ≤ all → new ≤ old + one * n → new ≤ old + all * n
shorter_run one all n old new le h = omega (arith, h, mul-le-mul_right n le)

-- a run of one, and a run that is one longer
module _ (all sums wanted : List Kept) where
  -- a value that is set in a list, or lies behind it
  set_there : (i : ℕ) → length wanted ≡ length all → get_or (set wanted i (get_or all i none_kept)) i none_kept ≡ get_or all i none_kept
  set_there i long =
      dite (dec_le (suc i) (length wanted))
      (λ low. get_or-set_same wanted i (get_or all i none_kept) none_kept (omega (arith, low)))
      (λ not. let high = lt_of_not-le not in
      get_or_past (set wanted i (get_or all i none_kept)) i none_kept (omega (arith, high, length-set wanted i (get_or all i none_kept)))
      ∙ sym (get_or_past all i none_kept (omega (arith, high, long))))

  pub lacks_more : (four end : ℕ) → four ≤ end → length sums ≡ length all → LacksRun four end all sums wanted → LacksRun four (end + 1) all sums (set wanted end (get_or all end none_kept))
  lacks_more four end order long lacks =
      let v : Kept = get_or all end none_kept in
      record {
        long = length-set wanted end v ∙ lacks.long;
        inside = λ k h. dite (dec_le (suc k) (end - four))
            (λ low. get_or-set_other wanted end (four + k) v none_kept (λ e. absurd (omega (arith, e, low))) ∙ lacks.inside k (omega (arith, low)))
            (λ not. let high = lt_of_not-le not in
            let here : four + k ≡ end = omega (arith, h, high, order) in
            ap (λ n. get_or (set wanted end v) n none_kept) here ∙ set_there end (lacks.long ∙ long) ∙ ap (λ n. get_or all n none_kept) (sym here) ∙ sym (get_or-drop four all k none_kept));
        before = λ k h. get_or-set_other wanted end k v none_kept (λ e. absurd (omega (arith, e, h, order))) ∙ lacks.before k h;
        behind = λ k h. get_or-set_other wanted end k v none_kept (λ e. absurd (omega (arith, e, h, order))) ∙ lacks.behind k (omega (arith, h, order));
      }

  -- the run is set
  pub run_is_set : (four end : ℕ) (after : List Kept) → LacksRun four end all sums wanted → IsWritten none_kept four (end - four) (drop four all) sums after → after ≡ wanted
  run_is_set four end after lacks is = written both_kept none_kept sums (drop four all) after wanted four (end - four) is lacks

-- a run that ends where the whole fours do
pub lacks_none : (all old new : List Kept) (four end last : ℕ) → length old ≡ length all → last ≤ end → ((k : ℕ) → k < end → last ≤ k → length old ≤ k)
    → IsWritten none_kept four (last - four) (drop four all) old new → IsWritten none_kept four (end - four) (drop four all) old new
lacks_none all old new four end last long le past w = record {
  long = w.long;
  inside = λ k h. dite (dec_le (suc k) (last - four))
      (λ low. w.inside k (omega (arith, low)))
      (λ not. let high = lt_of_not-le not in
      let beyond = past (four + k) (omega (arith, h)) (omega (arith, high)) in
      get_or_past new (four + k) none_kept (omega (arith, beyond, w.long)) ∙ sym (get_or_past all (four + k) none_kept (omega (arith, beyond, long))) ∙ sym (get_or-drop four all k none_kept));
  before = w.before;
  behind = λ k h. w.behind k (omega (arith, h, le));
}

pub lacks_one : (all sums : List Kept) (four : ℕ) → length sums ≡ length all → LacksRun four (four + 1) all sums (set sums four (get_or all four none_kept))
lacks_one all sums four long = lacks_more all sums sums four four (omega arith) long (not_written four (four - four) (omega arith) (drop four all) sums)

-- a four that is added to a run: behind it, or to a new one, where the run was set
pub run_grows : (all sums wanted now : List Kept) (four end here from : ℕ) → length sums ≡ length all → four ≤ end → here ≡ end → now ≡ sums → from ≡ four → LacksRun four end all sums wanted
    → LacksRun from (here + 1) all now (set wanted here (get_or all here none_kept))
run_grows all sums wanted now four end here from long order is same begins lacks =
    subst (λ (n : ℕ). LacksRun n (here + 1) all now (set wanted here (get_or all here none_kept))) (sym begins)
    (subst (λ (l : List Kept). LacksRun four (here + 1) all l (set wanted here (get_or all here none_kept))) (sym same)
    (subst (λ (n : ℕ). LacksRun four (n + 1) all sums (set wanted n (get_or all n none_kept))) (sym is) (lacks_more all sums wanted four end order long lacks)))

pub run_anew : (all sums wanted after now : List Kept) (four end here from : ℕ) → length sums ≡ length all → now ≡ after → from ≡ here → LacksRun four end all sums wanted
    → IsWritten none_kept four (end - four) (drop four all) sums after → LacksRun from (here + 1) all now (set wanted here (get_or all here none_kept))
run_anew all sums wanted after now four end here from long same begins lacks is =
    let all_set : now ≡ wanted = same ∙ run_is_set all sums wanted four end after lacks is in
    subst (λ (n : ℕ). LacksRun n (here + 1) all now (set wanted here (get_or all here none_kept))) (sym begins)
    (subst (λ (l : List Kept). LacksRun here (here + 1) all l (set wanted here (get_or all here none_kept))) (sym all_set) (lacks_one all wanted here (lacks.long ∙ long)))

-- the walk over the steps that move a container
module _ (ys : List Kept) (place : ℕ) where
  -- the first run
  pub run_begins : (ops : List Op) (cell : Option Cell) (sums : List Kept) → length sums ≡ length (fours ys) → WereNear place ops ys sums → cell ≡ loaded_at ops place
      → AreMixedBut cell (place + 1) (place / 4) (place / 4 + 1) ops ys sums
  run_begins ops cell sums long were in_cell =
      let wanted : List Kept = set sums (place / 4) (get_or (fours ys) (place / 4) none_kept) in
      let end : place / 4 * 4 + 4 ≡ (place / 4 + 1) * 4 = omega arith in
      record {
        wanted = wanted;
        lacks = lacks_one (fours ys) sums (place / 4) long;
        mixed = subst (λ (n : ℕ). AreMixed cell (place + 1) n ops ys wanted) end (begins ys place ops cell sums wanted were in_cell refl);
      }

  -- a step that moves the container
  pub run_goes_on : (cell : Option Cell) (ops : List Op) (op : Op) (four end new_four new_end : ℕ) (now after : List Kept) → length ops ≡ length ys → place < length ys → get_or ops place op ≡ op
      → moves cell op ≡ true → AreMixedBut cell place four end ops ys now
      → (place < end * 4 → (new_four ≡ four) × (new_end ≡ end) × (after ≡ now))
      → ((wanted : List Kept) → end * 4 ≤ place → LacksRun four end (fours ys) now wanted
      → (new_end ≡ place / 4 + 1) × LacksRun new_four new_end (fours ys) after (set wanted (place / 4) (get_or (fours ys) (place / 4) none_kept)))
      → AreMixedBut (next_cell cell op) (place + 1) new_four new_end ops ys after
  run_goes_on cell ops op four end new_four new_end now after same within at moved but inside added =
      let wanted : List Kept = but.wanted in
      dite (dec_le (suc place) (end * 4))
      (λ less.
      let low : place < end * 4 = omega (arith, less) in
      let is = inside low in
      let ends : new_end * 4 ≡ end * 4 = ap (λ n. n * 4) is.1 in
      record {
        wanted = wanted;
        lacks = subst (λ (l : List Kept). LacksRun new_four new_end (fours ys) l wanted) (sym is.2)
            (subst (λ (n : ℕ). LacksRun new_four n (fours ys) now wanted) (sym is.1) (subst (λ (n : ℕ). LacksRun n end (fours ys) now wanted) (sym is.0) but.lacks));
        mixed = goes_on ys place cell ops op (end * 4) (new_end * 4) wanted wanted same within at but.mixed (λ e. absurd (true≢false (sym moved ∙ e))) (λ e l. (ends, refl)) (λ e h. absurd (omega (arith, h, low)));
      })
      (λ not.
      let high : end * 4 ≤ place = let lt = lt_of_not-le not in omega (arith, lt) in
      let is = added wanted high but.lacks in
      let v : Kept = get_or (fours ys) (place / 4) none_kept in
      let ends : new_end * 4 ≡ place / 4 * 4 + 4 = omega (arith, is.0) in
      record {
        wanted = set wanted (place / 4) v;
        lacks = is.1;
        mixed = goes_on ys place cell ops op (end * 4) (new_end * 4) wanted (set wanted (place / 4) v) same within at but.mixed (λ e. absurd (true≢false (sym moved ∙ e))) (λ e l. absurd (omega (arith, l, high))) (λ e h. (ends, refl));
      })

-- steps that leave it in its cell
pub run_skips : (ops : List Op) (cell : Option Cell) (ys now : List Kept) (four end from to : ℕ) → length ops ≡ length ys → from ≤ to → to ≤ length ops → AreStill cell ops from to
    → AreMixedBut cell from four end ops ys now → AreMixedBut cell to four end ops ys now
run_skips ops cell ys now four end from to same order inside still but = record {
  wanted = but.wanted;
  lacks = but.lacks;
  mixed = skips ops cell ys but.wanted (end * 4) from to same order inside still but.mixed;
}

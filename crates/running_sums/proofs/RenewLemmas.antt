-- Setting what steps change, one after another.
use Rattle.std.proofs.Common.{◌≡◌, ℕ, zero, suc, ◌+◌, ◌-◌, ◌*◌, ◌/◌, ◌<◌, ◌≤◌, List, [], ◌∷◌, ◌++◌, length, map, take, drop, set, get_or, Option, None, Some, Bool, true, false, refl, sym, ap, ◌∙◌, subst, arith, lt_of_not-le}
use Rattle.std.specs.Prelude.{slice_get, option_map, if◌then◌else◌}
use Rattle.std.proofs.lemmas.Bool.{true≢false}
use Rattle.std.proofs.lemmas.Option.{get_or_from_slice_get, slice_get-get_or}
use Rattle.std.proofs.lemmas.List.{length-map, length-set, take-append-drop, drop_more, take_all, drop_all, append-nil, drop-set-lt, length-drop, take-map}
use mathlib.Core.Logic.{dite}
use native.Mathlib.Decide.{dec_le}
use Rattle.units_core.specs.declared.cells.Cell.{Cell}
use Rattle.stow_messages.specs.declared.lifts.Lift.TheVariants.{Load, Discharge}
use Rattle.lift_sequence.specs.declared.operations.Op.{Op}
use Rattle.lift_sequence.specs.declared.operations.Op.TheVariants as operation
use Rattle.units_core.specs.declared.steps.Step.{Step}
use Rattle.units_core.specs.Steps.{step_weighed}
use Rattle.lift_sequence.specs.Follow.{AreReweighed, loaded_at, loaded_cell, moves, moves_in, next_cell, reweighed, steps_weighed, weighed_at, with_step}
use Rattle.units_core.specs.declared.frames.Frame.{Frame}
use Rattle.moment_sums.specs.Kept.{Kept, none_kept}
use Rattle.running_sums.specs.Fours.{change_of}
use Rattle.running_sums.specs.Fours.{AreMixed, AreNear, AreOfFour, AreSmall, AreStill, IsNear, WereNear, fours}
use Rattle.running_sums.proofs.ChangeLemmas.{small}
use Rattle.running_sums.proofs.FourLemmas.{mixed_set, mixed_still, of_four, of_four_at, of_four_set}

-- a step that doesn't move the container leaves it in its cell
pub stays : (cell : Option Cell) (op : Op) → moves cell op ≡ false → next_cell cell op ≡ cell
stays None op e = refl
stays (Some c) (operation.Lift (Load item)) e = refl
stays (Some c) (operation.Lift (Discharge cell id)) e = ap (λ b. if b then None else Some c) e
stays (Some c) (operation.Fill name kg) e = refl
stays (Some c) (operation.Restow from to id) e = ap (λ b. if b then Some to else Some c) e

-- the change of the step at a place, set there, or found there
module _ (ys : List Kept) (place : ℕ) where
  -- the sums after the first one was set
  pub begins : (ops : List Op) (cell : Option Cell) (sums after : List Kept) → WereNear place ops ys sums → cell ≡ loaded_at ops place
      → after ≡ set sums (place / 4) (get_or (fours ys) (place / 4) none_kept) → AreMixed cell (place + 1) (place / 4 * 4 + 4) ops ys after
  begins ops cell sums after were in_cell sets =
      let olds : List Kept = were.olds in
      let before : olds ≡ take place ys ++ drop place olds = sym (take-append-drop place olds) ∙ ap (λ l. l ++ drop place olds) were.near.before in
      record {
        olds = olds;
        long = were.long;
        set_to = place / 4 * 4 + 4;
        ahead = omega arith;
        low = λ l. omega (arith, l);
        high = λ h. refl;
        are = sets ∙ ap (λ l. set l (place / 4) (get_or (fours ys) (place / 4) none_kept)) (were.are ∙ ap fours before) ∙ mixed_set place ys olds (get_or (fours ys) (place / 4) none_kept) were.long refl;
        near = subst (λ w. AreNear w (drop (place + 1) ops) (drop (place + 1) olds) (drop (place + 1) ys)) (sym in_cell) were.near.behind;
      }

  pub goes_on : (cell : Option Cell) (ops : List Op) (op : Op) (done next : ℕ) (now after : List Kept) → length ops ≡ length ys → place < length ys → get_or ops place op ≡ op
      → AreMixed cell place done ops ys now → (moves cell op ≡ false → (next ≡ done) × (after ≡ now)) → (moves cell op ≡ true → place < done → (next ≡ done) × (after ≡ now))
      → (moves cell op ≡ true → done ≤ place → (next ≡ place / 4 * 4 + 4) × (after ≡ set now (place / 4) (get_or (fours ys) (place / 4) none_kept)))
      → AreMixed (next_cell cell op) (place + 1) next ops ys after
  goes_on cell ops op done next now after same_ops within at mixed still inside sets = by_cases (moves cell op) refl where
    olds : List Kept
    olds = mixed.olds

    x : Kept
    x = get_or olds place none_kept

    y : Kept
    y = get_or ys place none_kept

    front_old : drop place olds ≡ x ∷ drop (place + 1) olds
    front_old = drop_more olds place none_kept (omega (arith, mixed.long, within))

    front_new : drop place ys ≡ y ∷ drop (place + 1) ys
    front_new = drop_more ys place none_kept within

    front_ops : drop place ops ≡ op ∷ drop (place + 1) ops
    front_ops = drop_more ops place op (omega (arith, same_ops, within)) ∙ ap (λ o. o ∷ drop (place + 1) ops) at

    parts : (moves cell op ≡ false → x ≡ y) × AreNear (next_cell cell op) (drop (place + 1) ops) (drop (place + 1) olds) (drop (place + 1) ys)
    parts = subst (λ zs. AreNear cell zs (x ∷ drop (place + 1) olds) (y ∷ drop (place + 1) ys)) front_ops
        (subst (λ zs. AreNear cell (drop place ops) zs (y ∷ drop (place + 1) ys)) front_old
        (subst (λ zs. AreNear cell (drop place ops) (drop place olds) zs) front_new mixed.near))

    -- the four that the step is in were set before
    past : place < done → (next ≡ done) × (after ≡ now) → AreMixed (next_cell cell op) (place + 1) next ops ys after
    past low same =
        let n = same.0 in
        let there : mixed.set_to ≡ next = mixed.high (omega (arith, low)) ∙ sym n in
        record {
          olds = olds;
          long = mixed.long;
          set_to = next;
          ahead = omega (arith, n, low);
          low = λ l. omega (arith, l, n, low);
          high = λ h. refl;
          are = same.1 ∙ mixed.are ∙ ap (λ m. fours (take m ys ++ drop m olds)) there;
          near = parts.1;
        }

    -- it is the first behind those that were set
    here : done ≤ place → mixed.set_to ≡ place
    here high = mixed.low high

    by_cases : (b : Bool) → moves cell op ≡ b → AreMixed (next_cell cell op) (place + 1) next ops ys after
    by_cases true e =
        dite (dec_le (suc place) done)
        (λ less. let low : place < done = omega (arith, less) in past low (inside e low))
        (λ not.
        let more = lt_of_not-le not in
        let high : done ≤ place = omega (arith, more) in
        let n = (sets e high).0 in
        let a = (sets e high).1 in
        record {
          olds = olds;
          long = mixed.long;
          set_to = next;
          ahead = omega (arith, n);
          low = λ l. omega (arith, l, n);
          high = λ h. refl;
          are = a ∙ ap (λ l. set l (place / 4) (get_or (fours ys) (place / 4) none_kept)) (mixed.are ∙ ap (λ m. fours (take m ys ++ drop m olds)) (here high))
              ∙ mixed_set place ys olds (get_or (fours ys) (place / 4) none_kept) mixed.long refl ∙ ap (λ m. fours (take m ys ++ drop m olds)) (sym n);
          near = parts.1;
        })
    by_cases false e =
        dite (dec_le (suc place) done)
        (λ less. past (omega (arith, less)) (still e))
        (λ not.
        let more = lt_of_not-le not in
        let high : done ≤ place = omega (arith, more) in
        let n = (still e).0 in
        record {
          olds = olds;
          long = mixed.long;
          set_to = place + 1;
          ahead = omega arith;
          low = λ l. refl;
          high = λ h. omega (arith, h, n, high);
          are = (still e).1 ∙ mixed.are ∙ ap (λ m. fours (take m ys ++ drop m olds)) (here high) ∙ ap fours (mixed_still place ys olds mixed.long (parts.0 e));
          near = parts.1;
        })

-- Steps that leave a container in its cell: what was set stays so behind them, and they are no moves.
module _ (ops : List Op) (cell : Option Cell) where
  -- the step at a place, where there is one
  there : (from : ℕ) (d : Op) → from < length ops → (op : Op) × (slice_get ops from ≡ Some op) × (drop from ops ≡ op ∷ drop (from + 1) ops) × (get_or ops from op ≡ op)
  there from d within =
      let op : Op = get_or ops from d in
      let is : slice_get ops from ≡ Some op = slice_get-get_or ops from d within in
      let at : get_or ops from op ≡ op = get_or_from_slice_get ops from op op is in
      (op, is, drop_more ops from op within ∙ ap (λ o. o ∷ drop (from + 1) ops) at, at)

  rest : (from n : ℕ) → AreStill cell ops from (from + suc n) → AreStill cell ops (from + 1) (from + 1 + n)
  rest from n still = λ k op low high is. still k op (omega (arith, low)) (omega (arith, high)) is

  skips_by : (ys now : List Kept) (done n from : ℕ) → Op → length ops ≡ length ys → from + n ≤ length ops → AreStill cell ops from (from + n) → AreMixed cell from done ops ys now
      → AreMixed cell (from + n) done ops ys now
  skips_by ys now done zero from d same inside still mixed = subst (λ (m : ℕ). AreMixed cell m done ops ys now) (omega arith) mixed
  skips_by ys now done (suc n) from d same inside still mixed =
      let within : from < length ops = omega (arith, inside) in
      let step = there from d within in
      let no : moves cell step.0 ≡ false = still from step.0 (omega arith) (omega arith) step.1 in
      let next = goes_on ys from cell ops step.0 done done now now same (omega (arith, within, same)) step.3 mixed (λ e. (refl, refl)) (λ e. absurd (true≢false (sym e ∙ no))) (λ e. absurd (true≢false (sym e ∙ no))) in
      let on : AreMixed cell (from + 1) done ops ys now = subst (λ w. AreMixed w (from + 1) done ops ys now) (stays cell step.0 no) next in
      let all = skips_by ys now done n (from + 1) d same (omega (arith, inside)) (rest from n still) on in
      subst (λ (m : ℕ). AreMixed cell m done ops ys now) (omega arith) all

  none_by : (n from : ℕ) → Op → from + n ≤ length ops → AreStill cell ops from (from + n) → moves_in cell (drop from ops) ≡ moves_in cell (drop (from + n) ops)
  none_by zero from d inside still = ap (λ (m : ℕ). moves_in cell (drop m ops)) (omega arith)
  none_by (suc n) from d inside still =
      let step = there from d (omega (arith, inside)) in
      let no : moves cell step.0 ≡ false = still from step.0 (omega arith) (omega arith) step.1 in
      let one : moves_in cell (drop from ops) ≡ 0 + moves_in cell (drop (from + 1) ops) = ap (λ (l : List Op). moves_in cell l) step.2
      ∙ (λ i. (if no i then 1 else 0) + moves_in (stays cell step.0 no i) (drop (from + 1) ops)) in
      let all = none_by n (from + 1) d (omega (arith, inside)) (rest from n still) in
      let ends : moves_in cell (drop (from + 1 + n) ops) ≡ moves_in cell (drop (from + suc n) ops) = ap (λ (m : ℕ). moves_in cell (drop m ops)) (omega arith) in
      omega (arith, one, all, ends)

pub skips : (ops : List Op) (cell : Option Cell) (ys now : List Kept) (done from to : ℕ) → length ops ≡ length ys → from ≤ to → to ≤ length ops → AreStill cell ops from to
    → AreMixed cell from done ops ys now → AreMixed cell to done ops ys now
skips [] cell ys now done from to same order inside still mixed = subst (λ (m : ℕ). AreMixed cell m done [] ys now) (omega (arith, order, inside)) mixed
skips (op ∷ more) cell ys now done from to same order inside still mixed =
    let ops : List Op = op ∷ more in
    let n : ℕ = to - from in
    let is : from + n ≡ to = omega (arith, order) in
    subst (λ (m : ℕ). AreMixed cell m done ops ys now) is
    (skips_by ops cell ys now done n from op same (omega (arith, is, inside)) (subst (λ (m : ℕ). AreStill cell ops from m) (sym is) still) mixed)

pub no_moves : (ops : List Op) (cell : Option Cell) (from to : ℕ) → from ≤ to → to ≤ length ops → AreStill cell ops from to → moves_in cell (drop from ops) ≡ moves_in cell (drop to ops)
no_moves [] cell from to order inside still = ap (λ (m : ℕ). moves_in cell (drop m [])) (omega (arith, order, inside))
no_moves (op ∷ more) cell from to order inside still =
    let ops : List Op = op ∷ more in
    let n : ℕ = to - from in
    let is : from + n ≡ to = omega (arith, order) in
    none_by ops cell n from op (omega (arith, is, inside)) (subst (λ (m : ℕ). AreStill cell ops from m) (sym is) still) ∙ ap (λ (m : ℕ). moves_in cell (drop m ops)) is

-- all were looked at
pub whole : (cell : Option Cell) (ops : List Op) (ys now : List Kept) (behind done : ℕ) → length ys ≤ behind → AreMixed cell behind done ops ys now → now ≡ fours ys
whole cell ops ys now behind done h mixed =
    let olds : List Kept = mixed.olds in
    let to : ℕ = mixed.set_to in
    mixed.are ∙ ap fours ((λ i. take_all to ys (omega (arith, h, mixed.ahead)) i ++ drop_all to olds (omega (arith, h, mixed.ahead, mixed.long)) i) ∙ append-nil ys)

-- sums that were set, or none
pub set_small : (ys : List Kept) (place : ℕ) (now after : List Kept) → AreOfFour now → AreSmall ys → after ≡ set now place (get_or (fours ys) place none_kept) → AreOfFour after
set_small ys place now after h k e = subst AreOfFour (sym e) (of_four_set now place (get_or (fours ys) place none_kept) h (of_four_at (fours ys) place (of_four ys k)))

pub set_long : (now after : List Kept) (y : Kept) (place : ℕ) → after ≡ set now place y → length after ≡ length now
set_long now after y place e = ap length e ∙ length-set now place y

module _ (frames : List Frame) where
  pub near_of : (kg : ℕ) (cell : Option Cell) (ops : List Op) (xs : List Step) → length xs ≡ length ops
      → AreNear cell ops (map (change_of frames) xs) (map (change_of frames) (steps_weighed kg cell ops xs))
  near_of kg cell [] [] h = tt
  near_of kg cell (op ∷ ops) [] h = tt
  near_of kg cell [] (x ∷ xs) h = absurd (omega (arith, h))
  near_of kg cell (op ∷ ops) (x ∷ xs) h = (λ e. still (moves cell op) e, near_of kg (next_cell cell op) ops xs (omega (arith, h))) where
    still : (b : Bool) → b ≡ false → change_of frames x ≡ change_of frames (if b then step_weighed kg x else x)
    still true e = absurd (cc)
    still false e = refl

-- the cell into which the step at a place loads
pub cell_at : (ops : List Op) (i : ℕ) (op : Op) → i < length ops → get_or ops i op ≡ op → loaded_at ops i ≡ loaded_cell op
cell_at [] i op h e = absurd (omega (arith, h))
cell_at (x ∷ xs) zero op h e = ap loaded_cell e
cell_at (x ∷ xs) (suc i) op h e = cell_at xs i op (omega (arith, h)) e

-- another weight of the load at a place leaves the steps behind it, and its cell
pub weighed_behind : (kg : ℕ) (ops : List Op) (i : ℕ) → drop (i + 1) (weighed_at kg i ops) ≡ drop (i + 1) ops
weighed_behind kg ops i = by (option_map (reweighed kg) (slice_get ops i)) where
  by : (o : Option Op) → drop (i + 1) (with_step ops i o) ≡ drop (i + 1) ops
  by None = refl
  by (Some op) = drop-set-lt (i + 1) ops i op (omega arith)

cell_kept : (kg : ℕ) (op : Op) → loaded_cell (reweighed kg op) ≡ loaded_cell op
cell_kept kg (operation.Lift (Load item)) = refl
cell_kept kg op = refl

pub weighed_cell : (kg : ℕ) (ops : List Op) (i : ℕ) → loaded_at (weighed_at kg i ops) i ≡ loaded_at ops i
weighed_cell kg [] i = refl
weighed_cell kg (op ∷ ops) zero = cell_kept kg op
weighed_cell kg (op ∷ ops) (suc i) = by (option_map (reweighed kg) (slice_get ops i)) ∙ weighed_cell kg ops i where
  by : (o : Option Op) → loaded_at (with_step (op ∷ ops) (suc i) o) (suc i) ≡ loaded_at (with_step ops i o) i
  by None = refl
  by (Some x) = refl

module _ (frames : List Frame) (kg i : ℕ) (ops after : List Op) (is : after ≡ weighed_at kg i ops) where
  drop-map : (n : ℕ) (xs : List Step) → drop n (map (change_of frames) xs) ≡ map (change_of frames) (drop n xs)
  drop-map zero xs = refl
  drop-map (suc n) [] = refl
  drop-map (suc n) (x ∷ xs) = drop-map n xs

  pub behind_same : drop (i + 1) after ≡ drop (i + 1) ops
  behind_same = ap (drop (i + 1)) is ∙ weighed_behind kg ops i

  pub cell_same : loaded_at after i ≡ loaded_at ops i
  cell_same = ap (λ l. loaded_at l i) is ∙ weighed_cell kg ops i

  near_after : (old new : List Step) (xs : List Kept) → AreReweighed kg i ops old new → length old ≡ length ops → xs ≡ map (change_of frames) old
      → IsNear (loaded_at after i) i after xs (map (change_of frames) new)
  near_after old new xs r long e =
      let f = change_of frames in
      let cell = loaded_at ops i in
      let more : length (drop (i + 1) old) ≡ length (drop (i + 1) ops) = length-drop (i + 1) old ∙ ap (λ n. n - (i + 1)) long ∙ sym (length-drop (i + 1) ops) in
      let near = near_of frames kg cell (drop (i + 1) ops) (drop (i + 1) old) more in
      let xs_are : map f (drop (i + 1) old) ≡ drop (i + 1) xs = sym (drop-map (i + 1) old) ∙ ap (drop (i + 1)) (sym e) in
      let ys_are : map f (steps_weighed kg cell (drop (i + 1) ops) (drop (i + 1) old)) ≡ drop (i + 1) (map f new) = ap (map f) (sym r.behind) ∙ sym (drop-map (i + 1) new) in
      record {
        before = ap (take i) e ∙ take-map f i old ∙ ap (map f) (sym r.before) ∙ sym (take-map f i new);
        behind = subst (λ w. AreNear w (drop (i + 1) after) (drop (i + 1) xs) (drop (i + 1) (map f new))) (sym cell_same)
            (subst (λ l. AreNear cell l (drop (i + 1) xs) (drop (i + 1) (map f new))) (sym behind_same)
            (subst (λ l. AreNear cell (drop (i + 1) ops) l (drop (i + 1) (map f new))) xs_are
            (subst (λ l. AreNear cell (drop (i + 1) ops) (map f (drop (i + 1) old)) l) ys_are near)));
      }

  pub were_near : (old new : List Step) (sums : List Kept) → AreReweighed kg i ops old new → length old ≡ length ops → length new ≡ length ops
      → sums ≡ fours (map (change_of frames) old) → WereNear i after (map (change_of frames) new) sums
  were_near old new sums r long long_new e = record {
    olds = map (change_of frames) old;
    long = length-map old (change_of frames) ∙ long ∙ sym long_new ∙ sym (length-map new (change_of frames));
    small = small frames old;
    are = e;
    near = near_after old new (map (change_of frames) old) r long refl;
  }

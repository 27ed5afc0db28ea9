-- How many joins a query or an edit takes. Beside that bookkeeping: lists of what steps change,
-- before and after the steps that move one container were given bodies of another weight; and the
-- sums of each four of them.
use Rattle.std.specs.Prelude.{◌≡◌, ℕ, ⊤, ◌+◌, ◌-◌, ◌*◌, ◌^◌, ◌<◌, ◌≤◌, List, [], ◌∷◌, ◌++◌, length}
use Rattle.std.specs.Prelude.{take, drop, Option, Some, slice_get, slice_index_or, false, ◌≢◌, ◌/◌}
use Rattle.std.specs.List.{swap}
use Rattle.units_core.specs.declared.cells.Cell.{Cell}
use Rattle.units_core.specs.declared.frames.Frame.{Frame}
use Rattle.units_core.specs.declared.steps.Step.{Step}
use Rattle.prefix_scan.specs.Rows.{IsWritten, paired}
use Rattle.lift_sequence.specs.declared.operations.Op.{Op}
use Rattle.lift_sequence.specs.Follow.{loaded_at, moves, next_cell}
use Rattle.moment_sums.specs.Kept.{Kept, bodies_of, both_kept, kept_of, none_kept, size_of}
use Rattle.moment_sums.specs.Sum.{changed_by}

-- what each step changes of the sum of what is aboard
abbrev pub change_of : List Frame → Step → Kept
change_of frames step = kept_of (changed_by frames step) (bodies_of step)

-- each is of the bodies that one step takes out and puts in
abbrev pub AreSmall : List Kept → Type 0
AreSmall [] = ⊤
AreSmall (change ∷ more) = (size_of change ≤ 2) × AreSmall more

-- no step from one place on, up to another, moves the container that is in a cell
abbrev pub AreStill : Option Cell → List Op → ℕ → ℕ → Type 0
AreStill cell ops from to =
    (k : ℕ) (op : Op) → from ≤ k → k < to → slice_get ops k ≡ Some op → moves cell op ≡ false

-- two lists are one but where the steps move the container that is in a cell
abbrev pub AreNear : Option Cell → List Op → List Kept → List Kept → Type 0
AreNear cell ops [] [] = ⊤
AreNear cell ops [] (y ∷ ys) = ⊥
AreNear cell ops (x ∷ xs) [] = ⊥
AreNear cell [] (x ∷ xs) (y ∷ ys) = ⊥
AreNear cell (op ∷ ops) (x ∷ xs) (y ∷ ys) = (moves cell op ≡ false → x ≡ y)
    × AreNear (next_cell cell op) ops xs ys

-- and but at place i, where the container is loaded into the cell
pub record IsNear (cell : Option Cell) (i : ℕ) (ops : List Op) (xs ys : List Kept) : Type 0 where
  pub before : take i xs ≡ take i ys
  pub behind : AreNear cell (drop (i + 1) ops) (drop (i + 1) xs) (drop (i + 1) ys)

-- the sums of each four that follow one another; up to three that are left at the end are in none
abbrev pub fours : List Kept → List Kept
fours changes = paired both_kept (paired both_kept changes)

-- each is of the bodies that four steps take out and put in
abbrev pub AreOfFour : List Kept → Type 0
AreOfFour [] = ⊤
AreOfFour (sum ∷ more) = (size_of sum ≤ 8) × AreOfFour more

-- the sums of fours of changes before another weight was given to what is loaded at a place
pub record WereNear (place : ℕ) (ops : List Op) (changes sums : List Kept) : Type 0 where
  pub olds : List Kept
  pub long : length olds ≡ length changes
  pub small : AreSmall olds
  pub are : sums ≡ fours olds
  pub near : IsNear (loaded_at ops place) place ops olds changes

-- the same where the first changes are as they are now: up to `behind`, from which on they weren't
-- looked at, or up to `done`, whichever is more
pub record AreMixed (cell : Option Cell) (behind done : ℕ) (ops : List Op)
    (changes sums : List Kept) : Type 0 where
  pub olds : List Kept
  pub long : length olds ≡ length changes
  pub set_to : ℕ
  pub ahead : behind ≤ set_to
  pub low : done ≤ behind → set_to ≡ behind
  pub high : behind ≤ done → set_to ≡ done
  pub are : sums ≡ fours (take set_to changes ++ drop set_to olds)
  pub near : AreNear cell (drop behind ops) (drop behind olds) (drop behind changes)

-- the sums of fours that are wanted, but for a run of them, from one number on up to another, that
-- is yet to be set
abbrev pub LacksRun : (four end : ℕ) (all sums wanted : List Kept) → Type 0
LacksRun four end all sums wanted =
    IsWritten none_kept four (end - four) (drop four all) sums wanted

-- sums of fours of changes, the first of which are as they are now, but for such a run
pub record AreMixedBut (cell : Option Cell) (behind four end : ℕ) (ops : List Op)
    (changes sums : List Kept) : Type 0 where
  pub wanted : List Kept
  pub lacks : LacksRun four end (fours changes) sums wanted
  pub mixed : AreMixed cell behind (end * 4) ops changes wanted

-- the sums of fours of changes before two of them were exchanged
pub record WereExchanged (one other : ℕ) (changes sums : List Kept) : Type 0 where
  pub olds : List Kept
  pub small : AreSmall olds
  pub are : sums ≡ fours olds
  pub exchanged : changes ≡ swap olds one other

-- none of some places is in a four
abbrev pub AreElsewhere : ℕ → List ℕ → Type 0
AreElsewhere four [] = ⊤
AreElsewhere four (place ∷ places) = (place / 4 ≢ four) × AreElsewhere four places

-- sums of fours that are as they are wanted, but where one of some places is in the four
pub record LackPlaces (places : List ℕ) (all sums : List Kept) : Type 0 where
  pub long : length sums ≡ length all
  pub same : (four : ℕ) → AreElsewhere four places
      → slice_index_or sums four none_kept ≡ slice_index_or all four none_kept

-- A count of joins grows by at most so many times those of one change or query, which are at most
-- l + 1 where there are at most 2^l steps.
abbrev pub CostsUpTo : (times steps old new : ℕ) → Type 0
CostsUpTo times steps old new =
    (old ≤ new) × ((levels : ℕ) → steps ≤ 2 ^ levels → new ≤ old + times * (levels + 1))

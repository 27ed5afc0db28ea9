-- Running sums: what is aboard on arrival with what the first k steps change.
use Rattle.std.proofs.Common.{◌≡◌, ℕ, zero, suc, ◌+◌, ◌*◌, ◌≤◌, List, [], ◌∷◌, length, map, take, sum_by, slice_get, Option, None, Some, ℤ, pos, ◌+ℤ◌, refl, sym, ap, ◌∙◌, arith}
use Rattle.std.specs.List.{fold, range_with_len}
use Rattle.std.specs.Option.{option_to_list}
use Rattle.std.proofs.lemmas.Int.{ints}
use Rattle.std.proofs.lemmas.List.FromFn.{map-range_with_len_more}
use Rattle.std.proofs.lemmas.List.Sums.{fold-append, sum_by-cons}
use Rattle.std.proofs.lemmas.Option.{slice_get_past}
use Rattle.units_core.specs.Bodies.{Mass}
use Rattle.units_core.specs.declared.frames.Frame.{Frame}
use Rattle.units_core.specs.declared.steps.Step.{Step}
use Rattle.units_core.specs.Steps.{change}
use Rattle.units_core.specs.Totals.{total}
use Rattle.prefix_scan.specs.Laws.{most_parts}
use Rattle.moment_sums.specs.Sum.{Column, WeightAft, MomentAft, Sum, at_frame, joined, nothing, value}
use Rattle.moment_sums.specs.Kept.{Kept, bodies_of, both_kept, none_kept, size_of, values}
use Rattle.moment_sums.specs.KeptLaws.{kept_laws}
use Rattle.moment_sums.proofs.Bounds.{values_both, values_nothing}
use Rattle.moment_sums.proofs.KeptLemmas.{kept_size, kept_values}
use Rattle.running_sums.specs.Lines.{bodies_in, change_behind, changed_in, changes_behind, parts_behind, parts_to, sum_to}

-- sums in any grouping
pub joined_assoc : (a b c : Sum) → joined (joined a b) c ≡ joined a (joined b c)
joined_assoc a b c = λ j k. by (a k) (b k) (c k) j where
  by : (x y z : ℤ) → (x +ℤ y) +ℤ z ≡ x +ℤ (y +ℤ z)
  by x y z = omega (arith, ints)

pub joined_nothing : (a : Sum) → joined a nothing ≡ a
joined_nothing a = λ j k. by (a k) j where
  by : (x : ℤ) → x +ℤ pos 0 ≡ x
  by x = omega (arith, ints)

-- the first k of a list, and the one behind them, if there is one
total_next : {X : Type 0} (f : X → ℤ) (xs : List X) (k : ℕ) → total f (take (suc k) xs) ≡ total f (take k xs) +ℤ total f (option_to_list (slice_get xs k))
total_next f [] zero = omega (arith, ints)
total_next f [] (suc k) = omega (arith, ints)
total_next f (x ∷ xs) zero = omega (arith, ints)
total_next f (x ∷ xs) (suc k) = omega (arith, ints, total_next f xs k)

module _ (frames : List Frame) (arrival : List Mass) (steps : List Step) where
  one_change : (c : Column) (o : Option Step) → changed_in frames o c ≡ total (change (value frames c)) (option_to_list o)
  one_change c None = refl
  one_change c (Some step) = by (change (value frames c) step) where
    by : (x : ℤ) → x ≡ x +ℤ pos 0
    by x = omega (arith, ints)

  -- the sum at line k is that on arrival, and what the first k steps change
  pub sums_so_far : (k : ℕ) (c : Column) → sum_to frames arrival steps k c ≡ total (value frames c) arrival +ℤ total (change (value frames c)) (take k steps)
  sums_so_far zero c = by (total (value frames c) arrival) where
    by : (x : ℤ) → x ≡ x +ℤ pos 0
    by x = omega (arith, ints)
  sums_so_far (suc k) c =
      let so_far = sums_so_far k c in
      let here = one_change c (slice_get steps k) in
      let next = total_next (change (value frames c)) steps k in
      omega (arith, ints, so_far, here, next)

-- sizes
pub few_bodies : (o : Option Step) → bodies_in o ≤ 2
few_bodies None = omega arith
few_bodies (Some step) = by step.out step.put where
  by : (out put : Option Mass) → length (option_to_list out) + length (option_to_list put) ≤ 2
  by None None = omega arith
  by None (Some b) = omega arith
  by (Some a) None = omega arith
  by (Some a) (Some b) = omega arith

-- the bodies of the steps behind a line are those of the next step and of the steps behind that
pub parts_split : (steps : List Step) (k : ℕ) → parts_behind steps k ≡ bodies_in (slice_get steps k) + parts_behind steps (suc k)
parts_split [] zero = omega arith
parts_split [] (suc k) = omega arith
parts_split (step ∷ more) zero = sum_by-cons bodies_of step more
parts_split (step ∷ more) (suc k) = parts_split more k

parts_all : (steps : List Step) → sum_by bodies_of steps ≤ 2 * length steps
parts_all [] = omega arith
parts_all (step ∷ more) = omega (arith, sum_by-cons bodies_of step more, few_bodies (Some step), parts_all more)

parts_rest : (steps : List Step) (k : ℕ) → k ≤ length steps → parts_behind steps k + 2 * k ≤ 2 * length steps
parts_rest steps zero h = omega (arith, parts_all steps)
parts_rest [] (suc k) h = absurd (omega (arith, h))
parts_rest (step ∷ more) (suc k) h = let rest = parts_rest more k (omega (arith, h)) in omega (arith, rest)

-- a sum of what is aboard on arrival and of the steps to a line has room for those behind it
pub room_behind : (steps : List Step) (k n : ℕ) → length steps ≤ 120000 → k ≤ length steps → n ≤ parts_to k → n + parts_behind steps k ≤ most_parts
room_behind steps k n few within fits = let rest = parts_rest steps k within in omega (arith, rest, few, fits)

pub change_parts : (frames : List Frame) (steps : List Step) (k : ℕ) → size_of (change_behind frames steps k) ≡ bodies_in (slice_get steps k)
change_parts frames steps k = kept_size (changed_in frames (slice_get steps k)) (bodies_in (slice_get steps k))

pub change_size : (frames : List Frame) (steps : List Step) (k : ℕ) → size_of (change_behind frames steps k) ≤ 2
change_size frames steps k =
    let here = kept_size (changed_in frames (slice_get steps k)) (bodies_in (slice_get steps k)) in
    omega (arith, here, few_bodies (slice_get steps k))

-- what changes behind a line, read back from what is kept: a ship has at most 16 frames
module _ (frames : List Frame) (few : length frames ≤ 16) where
  -- a value that each body adds nothing to is not changed
  unchanged : (f : Mass → ℤ) → ((b : Mass) → f b ≡ pos 0) → (step : Step) → change f step ≡ pos 0
  unchanged f none step = (λ j. change (λ b. none b j) step) ∙ by step.out step.put where
    by : (out put : Option Mass) → change (λ b. pos 0) (record { out = out; put = put }) ≡ pos 0
    by None None = refl
    by None (Some b) = refl
    by (Some a) None = refl
    by (Some a) (Some b) = refl

  pub at_none : (share : ℤ → Mass → ℤ) (o : Option Frame) → o ≡ None → (b : Mass) → at_frame share o b ≡ pos 0
  at_none share o none b = ap (λ o. at_frame share o b) none

  weight_past : (o : Option Step) (i : ℕ) → 16 ≤ i → changed_in frames o (WeightAft i) ≡ pos 0
  weight_past None i past = refl
  weight_past (Some step) i past = unchanged (value frames (WeightAft i)) (at_none _ (slice_get frames i) (slice_get_past frames i (omega (arith, few, past)))) step

  moment_past : (o : Option Step) (i : ℕ) → 16 ≤ i → changed_in frames o (MomentAft i) ≡ pos 0
  moment_past None i past = refl
  moment_past (Some step) i past = unchanged (value frames (MomentAft i)) (at_none _ (slice_get frames i) (slice_get_past frames i (omega (arith, few, past)))) step

  pub change_values : (steps : List Step) (k : ℕ) → values (change_behind frames steps k) ≡ changed_in frames (slice_get steps k)
  change_values steps k =
      let o = slice_get steps k in
      kept_values (changed_in frames o) (bodies_in o) (weight_past o) (moment_past o)

  -- one step more
  pub sum_more : (arrival : List Mass) (steps : List Step) (k : ℕ) (s t r : Kept) → r ≡ both_kept s t → t ≡ change_behind frames steps k
      → (b : Sum) → joined b (values s) ≡ sum_to frames arrival steps k → joined b (values r) ≡ sum_to frames arrival steps (suc k)
  sum_more arrival steps k s t r is change b so_far =
      ap (joined b) (ap values is ∙ values_both s t) ∙ sym (joined_assoc b (values s) (values t))
      ∙ (λ j. joined (so_far j) ((ap values change ∙ change_values steps k) j))

module _ (frames : List Frame) (steps : List Step) where
  -- the changes behind one line more
  pub changes_more : (a n k : ℕ) → a + n ≡ k → changes_behind frames steps (range_with_len a (n + 1)) ≡ both_kept (changes_behind frames steps (range_with_len a n)) (change_behind frames steps k)
  changes_more a n k at =
      ap (fold both_kept none_kept) (map-range_with_len_more (change_behind frames steps) a n k at)
      ∙ fold-append both_kept none_kept (map (change_behind frames steps) (range_with_len a n)) (change_behind frames steps k ∷ [])

  pub changes_size : (a n : ℕ) → n ≤ 120001 → size_of (changes_behind frames steps (range_with_len a n)) ≤ 2 * n
  changes_size a zero few = omega arith
  changes_size a (suc n) few =
      let next : n + 1 ≡ suc n = omega arith in
      let so_far = changes_size a n (omega arith) in
      let one = change_size frames steps (a + n) in
      let both = kept_laws.op_weight (changes_behind frames steps (range_with_len a n)) (change_behind frames steps (a + n)) (omega (arith, so_far, one)) in
      let more = ap size_of (ap (λ m. changes_behind frames steps (range_with_len a m)) (sym next) ∙ changes_more a n (a + n) refl) in
      omega (arith, more, both, so_far, one)

  -- with the sum at their first line they are the sum at the line behind them
  pub changes_sum : length frames ≤ 16 → (arrival : List Mass) (a n k : ℕ) → a + n ≡ k
      → joined (sum_to frames arrival steps a) (values (changes_behind frames steps (range_with_len a n))) ≡ sum_to frames arrival steps k
  changes_sum few arrival a zero k at =
      let same : a ≡ k = omega arith in
      ap (joined (sum_to frames arrival steps a)) values_nothing ∙ joined_nothing (sum_to frames arrival steps a) ∙ ap (sum_to frames arrival steps) same
  changes_sum few arrival a (suc n) k at =
      let next : n + 1 ≡ suc n = omega arith in
      let last : suc (a + n) ≡ k = omega arith in
      ap (λ m. joined (sum_to frames arrival steps a) (values (changes_behind frames steps (range_with_len a m)))) (sym next)
      ∙ sum_more frames few arrival steps (a + n) (changes_behind frames steps (range_with_len a n)) (change_behind frames steps (a + n)) (changes_behind frames steps (range_with_len a (n + 1)))
      (changes_more a n (a + n) refl) refl (sum_to frames arrival steps a) (changes_sum few arrival a n (a + n) refl)
      ∙ ap (sum_to frames arrival steps) last

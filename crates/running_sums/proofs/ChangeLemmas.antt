-- What the steps of a list change, one by one and together.
use Rattle.std.proofs.Common.{◌≡◌, ◌∙◌, ℕ, zero, suc, ◌+◌, ◌-◌, ◌*◌, ◌^◌, ◌<◌, ◌≤◌, List, [], ◌∷◌, length, map, get_or, sum_by, Option, None, Some, refl, sym, ap, subst, arith}
use Rattle.std.specs.List.{range_with_len}
use Rattle.std.specs.Prelude.{slice_get}
use Rattle.std.proofs.lemmas.List.{length-map}
use Rattle.std.proofs.lemmas.Option.{none-some}
use Rattle.std.proofs.lemmas.List.Sums.{fold_more, sum_by-cons}
use Rattle.units_core.specs.declared.frames.Frame.{Frame}
use Rattle.units_core.specs.declared.steps.Step.{Step}
use Rattle.prefix_scan.specs.Folds.{prefix}
use Rattle.moment_sums.specs.Kept.{Kept, bodies_of, both_kept, none_kept, size_of}
use Rattle.moment_sums.specs.KeptLaws.{kept_laws}
use Rattle.moment_sums.specs.Sum.{changed_by}
use Rattle.moment_sums.proofs.KeptLemmas.{kept_size}
use Rattle.running_sums.specs.Lines.{change_behind, changes_behind}
use Rattle.running_sums.proofs.SumLemmas.{change_size, changes_more, changes_size, few_bodies}
use Rattle.running_sums.specs.Fours.{AreSmall, change_of, fours}
use Rattle.running_sums.proofs.FourLemmas.{four_of, fours-at}

module _ (frames : List Frame) where
  change_at : (steps : List Step) (k : ℕ) (d : Kept) → k < length steps → get_or (map (change_of frames) steps) k d ≡ change_behind frames steps k
  change_at [] k d h = absurd (omega (arith, h))
  change_at (step ∷ more) zero d h = refl
  change_at (step ∷ more) (suc k) d h = change_at more k d (omega (arith, h))

  -- the first k together
  pub changes_to : (steps : List Step) (k : ℕ) → k ≤ length steps → prefix none_kept both_kept (map (change_of frames) steps) k ≡ changes_behind frames steps (range_with_len 0 k)
  changes_to steps zero h = refl
  changes_to steps (suc k) h =
      let next : k + 1 ≡ suc k = omega arith in
      let all = map (change_of frames) steps in
      let long = length-map steps (change_of frames) in
      let more = fold_more both_kept none_kept all k none_kept (omega (arith, long, h)) in
      ap (λ n. prefix none_kept both_kept all n) (sym next) ∙ more
      ∙ (λ j. both_kept (changes_to steps k (omega (arith, h)) j) (change_at steps k none_kept (omega (arith, h)) j))
      ∙ sym (changes_more frames steps 0 k k (omega arith)) ∙ ap (λ n. changes_behind frames steps (range_with_len 0 n)) next

  pub small : (steps : List Step) → AreSmall (map (change_of frames) steps)
  small [] = tt
  small (step ∷ more) = (change_size frames (step ∷ []) 0, small more)

  -- of few bodies
  pub prefix_size : (steps : List Step) (k : ℕ) → k ≤ length steps → k ≤ 120000 → size_of (prefix none_kept both_kept (map (change_of frames) steps) k) ≤ 2 * k
  prefix_size steps k h few = omega (arith, ap size_of (changes_to steps k h), changes_size frames steps 0 k (omega (arith, few)))

  -- the change that a step makes is the one of its place
  abbrev held : Step → Option Step → Step
  held d None = d
  held d (Some x) = x

  read_change : (steps : List Step) (i : ℕ) (s : Step) → slice_get steps i ≡ Some s → get_or (map (change_of frames) steps) i none_kept ≡ change_of frames s
  read_change [] i s h = absurd (none-some s h)
  read_change (t ∷ ts) zero s h = ap (λ o. change_of frames (held t o)) h
  read_change (t ∷ ts) (suc i) s h = read_change ts i s h

  at_place : (steps : List Step) (i : ℕ) (s : Step) → slice_get steps (i + 1 - 1) ≡ Some s → slice_get steps i ≡ Some s
  at_place steps i s h = subst (λ n. slice_get steps n ≡ Some s) (back i) h where
    back : (n : ℕ) → n + 1 - 1 ≡ n
    back n = omega arith

  pub step_change : (steps : List Step) (i : ℕ) (s : Step) → slice_get steps (i + 1 - 1) ≡ Some s → change_of frames s ≡ get_or (map (change_of frames) steps) i none_kept
  step_change steps i s h = sym (read_change steps i s (at_place steps i s h))

  pub step_size : (s : Step) → bodies_of s ≤ 2
  step_size s = few_bodies (Some s)

  -- the first k together, and one more
  pub one_more : (steps : List Step) (k : ℕ) (s : Step) (sum after : Kept) → k < length steps → slice_get steps (k + 1 - 1) ≡ Some s
      → sum ≡ prefix none_kept both_kept (map (change_of frames) steps) k → after ≡ both_kept sum (change_of frames s)
      → after ≡ prefix none_kept both_kept (map (change_of frames) steps) (k + 1)
  one_more steps k s sum after low h so_far adds =
      let all = map (change_of frames) steps in
      let long = length-map steps (change_of frames) in
      adds ∙ (λ j. both_kept (so_far j) (step_change steps k s h j)) ∙ sym (fold_more both_kept none_kept all k none_kept (omega (arith, long, low)))

-- the change of a step whose place is told in another way
pub step_at : (frames : List Frame) (steps : List Step) (n i : ℕ) (s : Step) → n ≡ i → slice_get steps n ≡ Some s → change_of frames s ≡ get_or (map (change_of frames) steps) i none_kept
step_at frames steps n i s e h = sym (read_change frames steps i s (subst (λ m. slice_get steps m ≡ Some s) e h))

-- the size of a sum to which a step was added
pub added_size : (frames : List Frame) (s : Step) (sum after : Kept) (n : ℕ) → size_of sum ≤ n → n ≤ 100 → after ≡ both_kept sum (change_of frames s) → size_of after ≤ n + 2
added_size frames s sum after n h few adds =
    let one = kept_size (changed_by frames s) (bodies_of s) in
    let two = few_bodies (Some s) in
    let both = kept_laws.op_weight sum (change_of frames s) (omega (arith, h, few, one, two)) in
    omega (arith, ap size_of adds, both, h, one, two)

-- four steps added one after another
pub four_is : (frames : List Frame) (steps : List Step) (four : ℕ) (s t u v : Step) (a b c d : Kept) → 4 * four + 4 ≤ length steps
    → change_of frames s ≡ get_or (map (change_of frames) steps) (4 * four) none_kept → change_of frames t ≡ get_or (map (change_of frames) steps) (suc (4 * four)) none_kept
    → change_of frames u ≡ get_or (map (change_of frames) steps) (suc (suc (4 * four))) none_kept → change_of frames v ≡ get_or (map (change_of frames) steps) (suc (suc (suc (4 * four)))) none_kept
    → a ≡ change_of frames s → b ≡ both_kept a (change_of frames t) → c ≡ both_kept b (change_of frames u) → d ≡ both_kept c (change_of frames v)
    → d ≡ get_or (fours (map (change_of frames) steps)) four none_kept
four_is frames steps four s t u v a b c d within at_s at_t at_u at_v first second third fourth =
    let xs = map (change_of frames) steps in
    let x = change_of frames s in
    let y = change_of frames t in
    let z = change_of frames u in
    let w = change_of frames v in
    let i = kept_size (changed_by frames s) (bodies_of s) in
    let j = kept_size (changed_by frames t) (bodies_of t) in
    let k = kept_size (changed_by frames u) (bodies_of u) in
    let l = kept_size (changed_by frames v) (bodies_of v) in
    let both = kept_laws.op_weight x y (omega (arith, i, j, few_bodies (Some s), few_bodies (Some t))) in
    let all : d ≡ both_kept (both_kept (both_kept x y) z) w = fourth ∙ ap (λ q. both_kept q w) (third ∙ ap (λ q. both_kept q z) (second ∙ ap (λ q. both_kept q y) first)) in
    all ∙ kept_laws.assoc (both_kept x y) z w (omega (arith, both, i, j, k, l, few_bodies (Some s), few_bodies (Some t), few_bodies (Some u), few_bodies (Some v)))
    ∙ (λ m. four_of (at_s m) (at_t m) (at_u m) (at_v m)) ∙ sym (fours-at xs four (4 * four) refl (omega (arith, within, length-map steps (change_of frames))))

-- their sizes
pub small_sum : (xs : List Kept) → AreSmall xs → sum_by size_of xs ≤ 2 * length xs
small_sum [] h = omega arith
small_sum (x ∷ xs) h = omega (arith, sum_by-cons size_of x xs, h.0, small_sum xs h.1)

pub sizes_few : (frames : List Frame) (steps : List Step) → length steps ≤ 120000 → sum_by size_of (map (change_of frames) steps) ≤ 2 ^ 19
sizes_few frames steps few =
    let all = map (change_of frames) steps in
    let sum = small_sum all (small frames steps) in
    omega (arith, sum, few, length-map steps (change_of frames))

-- The sum at each step is a fold of what is aboard on arrival and of what the steps change.
use Rattle.std.proofs.Common.{◌≡◌, ◌∙◌, ℕ, zero, suc, ◌+◌, ◌≤◌, List, [], ◌∷◌, length, map, take, slice_get, ℤ, pos, ◌+ℤ◌, refl, sym, ap, arith}
use Rattle.std.specs.List.{fold}
use Rattle.std.proofs.lemmas.Int.{ints}
use Rattle.std.proofs.lemmas.Option.{slice_get_past}
use Rattle.units_core.specs.Bodies.{Mass}
use Rattle.units_core.specs.Steps.{change}
use Rattle.units_core.specs.Totals.{total}
use Rattle.units_core.specs.declared.steps.Step.{Step}
use Rattle.units_core.specs.declared.frames.Frame.{Frame}
use Rattle.moment_sums.specs.Shares.{moment_aft, weight_aft}
use Rattle.moment_sums.specs.Sum.{Column, Sum, changed_by, joined, nothing, of_body, sum_of, value}
use Rattle.moment_sums.specs.Kept.{Kept, both_kept, none_kept, values}
use Rattle.moment_sums.proofs.Bounds.{values_both, values_nothing}
use Rattle.moment_sums.proofs.KeptLemmas.{kept_values}
use Rattle.port_call.specs.Cases.{CaseRecord, IsReady}
use Rattle.seq_report.specs.Laws.{OffsetsAreSums, SumsAreFolds, arrival_fold, body_kept, step_kept, steps_prefix}
use Rattle.running_sums.proofs.OffsetLemmas.{offset_sum}
use Rattle.running_sums.proofs.SumLemmas.{at_none, change_values, joined_assoc, joined_nothing}
use Rattle.seq_report.proofs.SumLemmas.{sum_here}

nothing_joined : (a : Sum) → joined nothing a ≡ a
nothing_joined a = λ j c. by (a c) j where
  by : (x : ℤ) → pos 0 +ℤ x ≡ x
  by x = omega (arith, ints)

-- the values of a fold are those of its members, added up
values_fold : {A : Type 0} (f : A → Kept) (g : Column → A → ℤ) → ((a : A) → values (f a) ≡ (λ c. g c a)) → (first : Kept) (xs : List A)
    → values (fold both_kept first (map f xs)) ≡ joined (values first) (λ c. total (g c) xs)
values_fold f g each first [] = sym (joined_nothing (values first))
values_fold f g each first (x ∷ xs) =
    let rest : Sum = λ c. total (g c) xs in
    values_fold f g each (both_kept first (f x)) xs
    ∙ ap (λ (s : Sum). joined s rest) (values_both first (f x) ∙ ap (joined (values first)) (each x))
    ∙ joined_assoc (values first) (λ c. g c x) rest

map_take : {A B : Type 0} (f : A → B) (k : ℕ) (xs : List A) → take k (map f xs) ≡ map f (take k xs)
map_take f zero xs = refl
map_take f (suc k) [] = refl
map_take f (suc k) (x ∷ xs) = ap (λ ys. f x ∷ ys) (map_take f k xs)

module _ (frames : List Frame) (few : length frames ≤ 16) where
  body_values : (b : Mass) → values (body_kept frames b) ≡ of_body frames b
  body_values b =
      kept_values (of_body frames b) 1
      (λ i past. at_none frames few weight_aft (slice_get frames i) (slice_get_past frames i (omega (arith, few, past))) b)
      (λ i past. at_none frames few moment_aft (slice_get frames i) (slice_get_past frames i (omega (arith, few, past))) b)

  step_values : (step : Step) → values (step_kept frames step) ≡ changed_by frames step
  step_values step = change_values frames few (step ∷ []) 0

  fold_of_nothing : {A : Type 0} (f : A → Kept) (g : Column → A → ℤ) → ((a : A) → values (f a) ≡ (λ c. g c a)) → (xs : List A)
      → values (fold both_kept none_kept (map f xs)) ≡ (λ c. total (g c) xs)
  fold_of_nothing f g each xs =
      values_fold f g each none_kept xs ∙ ap (λ (s : Sum). joined s (λ c. total (g c) xs)) values_nothing ∙ nothing_joined (λ c. total (g c) xs)

  pub arrival_values : (bodies : List Mass) → values (fold both_kept none_kept (map (body_kept frames) bodies)) ≡ sum_of frames bodies
  arrival_values bodies = fold_of_nothing (body_kept frames) (value frames) body_values bodies

  pub prefix_values : (steps : List Step) (k : ℕ) → values (fold both_kept none_kept (take k (map (step_kept frames) steps))) ≡ (λ c. total (change (value frames c)) (take k steps))
  prefix_values steps k =
      ap (λ xs. values (fold both_kept none_kept xs)) (map_take (step_kept frames) k steps)
      ∙ fold_of_nothing (step_kept frames) (λ c step. change (value frames c) step) step_values (take k steps)

pub sums_are_folds : (case : CaseRecord) → IsReady case → SumsAreFolds case.profile case.arrival case.sequence
sums_are_folds case ready = λ k within.
    let frames = case.profile.ship.frames in
    let steps = case.sequence.steps in (
      values_both (arrival_fold frames case.arrival) (steps_prefix frames case.sequence k)
          ∙ (λ j. joined (arrival_values frames ready.frames case.arrival.bodies j) (prefix_values frames ready.frames steps k j))
          ∙ (λ j c. sym (ready.adds_up (value frames c) k) j),
      ready.bounded k,
    )

pub offsets_are_sums : (case : CaseRecord) → IsReady case → OffsetsAreSums case.profile case.arrival case.sequence
offsets_are_sums case ready = λ ends d c k low from to.
    let frames = case.profile.ship.frames in
    offset_sum frames case.arrival.bodies case.sequence.steps ends (length case.sequence.ops + 1) _ ready.frames d (omega (arith, ready.few)) (omega (arith, ready.long)) refl
    (arrival_fold frames case.arrival) (arrival_values frames ready.frames case.arrival.bodies) c k none_kept low from to
    ∙ sum_here case ready k

-- Setting one step after another to its new weight gives the steps of that weight.
use Rattle.std.proofs.Common.{◌≡◌, ℕ, zero, suc, ◌+◌, ◌<◌, ◌≤◌, List, [], ◌∷◌, ◌++◌, length, take, drop, set, get_or, Option, None, Some, Bool, sym, ap, ◌∙◌, subst, refl, append_assoc, append-nil, arith}
use Rattle.std.specs.Prelude.{slice_get, if◌then◌else◌}
use Rattle.std.specs.Option.{option_map}
use Rattle.std.proofs.lemmas.List.{drop-set-lt, drop_all, drop_at, drop_more, get_or_default, length-append, length-set, length-take-le, take_all, take_at, take_more_set}
use Rattle.std.proofs.lemmas.Option.{slice_get-get_or}
use Rattle.units_core.specs.declared.cells.Cell.{Cell}
use Rattle.lift_sequence.specs.declared.operations.Op.{Op}
use Rattle.units_core.specs.declared.steps.Step.{Step}
use Rattle.units_core.specs.Steps.{step_weighed}
use Rattle.lift_sequence.specs.Follow.{AreReweighed, loaded_at, moves, next_cell, steps_weighed}

-- a step that does nothing; what is read at a place of a list doesn't depend on it
abbrev pub still : Step
still = record { out = None; put = None }

-- the steps after a turn, in which the step at a place is set to its new weight, if it is moved
abbrev pub turned : ℕ → Bool → List Step → ℕ → List Step
turned kg moved steps place = set steps place (if moved then step_weighed kg (get_or steps place still) else get_or steps place still)

pub turned_by : (kg : ℕ) (moved : Bool) (now after : List Step) (place : ℕ) (step value : Step) → place < length now → after ≡ set now place value
    → value ≡ (if moved then step_weighed kg (get_or now place step) else get_or now place step) → after ≡ turned kg moved now place
turned_by kg moved now after place step value inside sets is =
    sets ∙ ap (set now place) (is ∙ ap (λ (s : Step). if moved then step_weighed kg s else s) (get_or_default now place step still inside))

pub turned_long : (kg : ℕ) (moved : Bool) (now : List Step) (place : ℕ) → length (turned kg moved now place) ≡ length now
turned_long kg moved now place = length-set now place _

-- one turn: the steps done and the steps left to do make the same list as before
pub one_turn : (kg : ℕ) (cell : Option Cell) (ops : List Op) (now : List Step) (place : ℕ) (op : Op) → place < length ops → length now ≡ length ops → op ≡ get_or ops place op
    → take (place + 1) (turned kg (moves cell op) now place) ++ steps_weighed kg (next_cell cell op) (drop (place + 1) ops) (drop (place + 1) (turned kg (moves cell op) now place))
    ≡ take place now ++ steps_weighed kg cell (drop place ops) (drop place now)
one_turn kg cell ops now place op inside long at =
    let here : place < length now = omega (arith, long, inside) in
    let step : Step = get_or now place still in
    let value : Step = if moves cell op then step_weighed kg step else step in
    let done : take (place + 1) (set now place value) ≡ take place now ++ value ∷ [] = take_more_set now place value here in
    let left : drop (place + 1) (set now place value) ≡ drop (place + 1) now = drop-set-lt (place + 1) now place value (omega arith) in
    let orders : drop place ops ≡ op ∷ drop (place + 1) ops = drop_more ops place op inside ∙ ap (λ o. o ∷ drop (place + 1) ops) (sym at) in
    let steps : drop place now ≡ step ∷ drop (place + 1) now = drop_more now place still here in
    (λ i. done i ++ steps_weighed kg (next_cell cell op) (drop (place + 1) ops) (left i))
    ∙ append_assoc (take place now) (value ∷ []) (steps_weighed kg (next_cell cell op) (drop (place + 1) ops) (drop (place + 1) now))
    ∙ sym (λ i. take place now ++ steps_weighed kg cell (orders i) (steps i))

-- all turns
pub all_turned : (kg : ℕ) (cell : Option Cell) (ops : List Op) (now : List Step) (n : ℕ) → length ops ≤ n → length now ≡ length ops
    → now ≡ take n now ++ steps_weighed kg cell (drop n ops) (drop n now)
all_turned kg cell ops now n h long =
    let k : length now ≤ n = omega (arith, h, long) in
    sym (append-nil now) ∙ sym (λ i. take_all n now k i ++ steps_weighed kg cell (drop_all n ops h i) (drop_all n now k i))

-- the element behind some others
behind_get : {X : Type 0} (xs ys : List X) (y : X) (i : ℕ) → length xs ≡ i → slice_get (xs ++ y ∷ ys) i ≡ Some y
behind_get [] ys y zero e = refl
behind_get [] ys y (suc i) e = absurd (omega (arith, e))
behind_get (x ∷ xs) ys y zero e = absurd (omega (arith, e))
behind_get (x ∷ xs) ys y (suc i) e = behind_get xs ys y i (omega (arith, e))

-- the load's own step is set, and then those behind it
pub come_to : (kg i : ℕ) (ops : List Op) (old first new : List Step) (step : Step) → i < length old → step ≡ get_or old i step → first ≡ set old i (step_weighed kg step)
    → new ≡ take (i + 1) first ++ steps_weighed kg (loaded_at ops i) (drop (i + 1) ops) (drop (i + 1) first) → AreReweighed kg i ops old new
come_to kg i ops old first new step inside there sets is =
    let y : Step = step_weighed kg step in
    let rest : List Step = steps_weighed kg (loaded_at ops i) (drop (i + 1) ops) (drop (i + 1) old) in
    let front = ap (take (i + 1)) sets ∙ take_more_set old i y inside in
    let behind = ap (drop (i + 1)) sets ∙ drop-set-lt (i + 1) old i y (omega arith) in
    let parts : new ≡ (take i old ++ y ∷ []) ++ rest = is ∙ (λ j. front j ++ steps_weighed kg (loaded_at ops i) (drop (i + 1) ops) (behind j)) in
    let three : new ≡ take i old ++ y ∷ rest = parts ∙ append_assoc (take i old) (y ∷ []) rest in
    let few : length (take i old) ≡ i = length-take-le i old (omega (arith, inside)) in
    let one_more : length (take i old ++ y ∷ []) ≡ i + 1 = omega (arith, length-append (take i old) (y ∷ []), few) in
    record {
      before = ap (take i) three ∙ take_at (take i old) (y ∷ rest) i few;
      load = ap (λ l. slice_get l i) three ∙ behind_get (take i old) rest y i few
          ∙ sym (ap (option_map (step_weighed kg)) (slice_get-get_or old i step inside ∙ ap (λ s. Some s) (sym there)));
      behind = ap (drop (i + 1)) parts ∙ drop_at (take i old ++ y ∷ []) rest (i + 1) one_more;
    }

-- the same steps under other names of the lists
pub carried : (kg i : ℕ) (a b : List Op) (old was new now : List Step) → a ≡ b → old ≡ was → new ≡ now → AreReweighed kg i a old new → AreReweighed kg i b was now
carried kg i a b old was new now p q r h =
    subst (λ ops. AreReweighed kg i ops was now) p (subst (λ steps. AreReweighed kg i a steps now) q (subst (λ steps. AreReweighed kg i a old steps) r h))

-- the vector of the steps after a write through a slice of all of them
pub all_written : (written rest : List Step) (n : ℕ) → length written ≡ n → take n (written ++ rest) ≡ written
all_written written rest n long = take_at written rest n long

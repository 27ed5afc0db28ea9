-- Adding up a list of bodies, one after another.
use Rattle.std.proofs.Common.{◌≡◌, ℕ, ◌+◌, ◌<◌, List, [], ◌∷◌, length, take, get_or, ℤ, pos, ◌+ℤ◌, sym, ◌∙◌, ap}
use Rattle.std.proofs.lemmas.List.{take_more}
use Rattle.units_core.specs.Bodies.{Mass}
use Rattle.units_core.specs.declared.frames.Frame.{Frame}
use Rattle.units_core.specs.Totals.{total}
use Rattle.lift_sequence.proofs.Totals.{total-append}
use Rattle.moment_sums.specs.KeptLaws.{plus_nothing}
use Rattle.moment_sums.specs.Sum.{Sum, joined, of_body, sum_of, value}

-- one more is added to a running sum
one_more : {X : Type 0} (f : X → ℤ) (xs : List X) (i : ℕ) (x : X) → i < length xs → x ≡ get_or xs i x → total f (take i xs) +ℤ f x ≡ total f (take (i + 1) xs)
one_more f xs i x inside is =
    let last : f (get_or xs i x) +ℤ pos 0 ≡ f x = plus_nothing (f (get_or xs i x)) ∙ ap f (sym is) in
    sym (ap (total f) (take_more xs i x inside) ∙ total-append f (take i xs) (get_or xs i x ∷ []) ∙ ap (λ y. total f (take i xs) +ℤ y) last)

pub body_more : (frames : List Frame) (bodies : List Mass) (i : ℕ) (b : Mass) (s t r : Sum) → i < length bodies → b ≡ get_or bodies i b
    → s ≡ sum_of frames (take i bodies) → t ≡ of_body frames b → r ≡ joined s t → r ≡ sum_of frames (take (i + 1) bodies)
body_more frames bodies i b s t r inside is so_far adds sums =
    sums ∙ (λ j. joined (so_far j) (adds j)) ∙ (λ j c. one_more (value frames c) bodies i b inside is j)

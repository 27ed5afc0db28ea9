-- One frame after another.
use Rattle.std.proofs.Common.{◌≡◌, ◌∙◌, ℕ, suc, ◌+◌, ◌<◌, ℤ, List, [], ◌∷◌, ◌++◌, drop, get_or, length, Option, None, Some, refl, sym, ap, arith}
use Rattle.std.proofs.lemmas.List.{drop_more}
use Rattle.units_core.specs.declared.frames.Frame.{Frame}
use Rattle.worst_values.specs.Worst.{Candidate, joined, worst_of}
use Rattle.worst_values.proofs.WorstLemmas.{joined_three, worst_append, worst_one}

-- the candidates of the frames numbered from i, whatever one frame gives
module _ (at_frame : Frame → ℕ → Candidate) (all : List Frame → ℕ → List Candidate)
    (here : (frame : Frame) (more : List Frame) (i : ℕ) → all (frame ∷ more) i ≡ at_frame frame i ∷ all more (suc i)) where
  pub frame_more : (frames : List Frame) (i : ℕ) (frame : Frame) (w next whole : Option Candidate) → i < length frames → frame ≡ get_or frames i frame
      → whole ≡ joined w (worst_of (all (drop i frames) i)) → next ≡ joined w (Some (at_frame frame i)) → whole ≡ joined next (worst_of (all (drop (i + 1) frames) (i + 1)))
  frame_more frames i frame w next whole inside is so_far step =
      let behind = drop (i + 1) frames in
      let long : suc i ≡ i + 1 = omega arith in
      let x = at_frame frame i in
      let rest = all behind (suc i) in
      so_far
      ∙ ap (λ (l : List Frame). joined w (worst_of (all l i))) (drop_more frames i frame inside ∙ ap (λ (f : Frame). f ∷ behind) (sym is))
      ∙ ap (λ (l : List Candidate). joined w (worst_of l)) (here frame behind i)
      ∙ ap (joined w) (worst_append (x ∷ []) rest ∙ ap (λ (o : Option Candidate). joined o (worst_of rest)) (worst_one x))
      ∙ sym (joined_three w (Some x) (worst_of rest))
      ∙ (λ j. joined (sym step j) (worst_of (all behind (long j))))

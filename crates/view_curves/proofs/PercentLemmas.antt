-- Percentages up to the greatest that is drawn and beyond it, and frame by frame.
use Rattle.std.proofs.Common.{◌≡◌, ◌∙◌, ◌^◌, ◌<◌, ℕ, suc, ◌+◌, ℤ, pos, negsuc, ◌≤◌, ◌*ℤ◌, ◌≤ℤ◌, ◌<ℤ◌, List, ◌∷◌, drop, get_or, length, fold, neg_ℤ, ◌+ℤ◌, unsigned_abs, Bool, true, false, cond, sym, ap, subst, arith}
use Rattle.std.specs.Int.{int_max}
use Rattle.std.proofs.lemmas.List.{drop_more}
use Rattle.units_core.specs.declared.frames.Frame.{Frame}
use Rattle.units_core.proofs.Signed.{signed_arith}
use Rattle.std.specs.Prelude.{int_lt}
use Rattle.std.specs.Ordering.{int_eq}
use Rattle.std.proofs.lemmas.Int.{by_lt_z}
use borrow.Author.Differences.{true_is_lt}
use Rattle.units_core.proofs.Decisions.{floor_is}
use Rattle.units_core.proofs.Order.{times_order}
use Rattle.units_core.specs.Ratio.{Ratio, ◌over◌, floor_of, whole}
use Rattle.fractions.specs.Rounded.{up}
use Rattle.fractions.proofs.RoundingLemmas.{neg_times, ups}
use Rattle.view_curves.specs.Series.{at_most_999, percent_of}

-- a load of ten times its limit
thousand : (n : ℕ) (m : ℤ) → pos 1 ≤ℤ m → (pos 10 *ℤ m) ≤ℤ pos n → pos 1000 ≤ℤ up (pos n over m) 100
thousand n m some ten = ups (whole (pos 10)) (pos n over m) 100 (omega arith) some (omega (arith, signed_arith, ten))

capped : (z : ℤ) → pos 1000 ≤ℤ z → at_most_999 z ≡ pos 999
capped z more = grind (arith, signed_arith)

pub beyond_drawn : (n : ℕ) (m : ℤ) → pos 1 ≤ℤ m → m <ℤ pos (2 ^ 63) → 10 ^ 36 < n → at_most_999 (up (pos n over m) 100) ≡ pos 999
beyond_drawn n m some small great = capped (up (pos n over m) 100) (thousand n m some (omega (arith, signed_arith, small, great)))

pub whole_drawn : (z : ℤ) → z <ℤ pos 999 → z ≡ at_most_999 z
whole_drawn z less = grind (arith, signed_arith)

pub most_drawn : (z : ℤ) → pos 999 ≤ℤ z → pos 999 ≡ at_most_999 z
most_drawn z more = grind (arith, signed_arith)

-- the size of a number from 0 on
pub size_within : (z : ℤ) (n : ℕ) → pos 0 ≤ℤ z → z ≤ℤ pos n → unsigned_abs z ≤ n
size_within (pos k) n low high = omega (arith, signed_arith, high)
size_within (negsuc k) n low high = absurd (omega (arith, signed_arith, low))

-- a part of a limit is at most so many percent
pub percent_at_most : (n m k : ℤ) → pos 1 ≤ℤ m → (n *ℤ pos 100) ≤ℤ (k *ℤ m) → up (n over m) 100 ≤ℤ k
percent_at_most n m k some le =
    let r : Ratio = neg_ℤ (n *ℤ pos 100) over m in
    let f = floor_is r some in
    by_lt_z (floor_of r) (neg_ℤ k)
    (λ less.
    let step = times_order (floor_of r +ℤ pos 1) (neg_ℤ k) m (omega (arith, signed_arith, some)) (omega (arith, signed_arith, less)) in
    absurd (omega (arith, signed_arith, f.1, step, neg_times k m, le)))
    (λ more. omega (arith, signed_arith, more))

drawn_within : (b : Bool) (u other k : ℤ) → b ≡ true → u ≤ℤ k → cond b (at_most_999 u) other ≤ℤ k
drawn_within true u other k is le = grind (arith, signed_arith, le)
drawn_within false u other k is le = (cc)

pub percent_kept : (n : ℕ) (load m k : ℤ) → n ≡ unsigned_abs load → pos 1 ≤ℤ m → up (pos n over m) 100 ≤ℤ k → percent_of load m ≤ℤ k
percent_kept n load m k is some le =
    drawn_within (int_lt (pos 0) m) (up (pos (unsigned_abs load) over m) 100) (cond (int_eq load (pos 0)) (pos 100) (pos 999)) k
    (sym (true_is_lt (pos 0) m (omega (arith, signed_arith, some)))) (subst (λ (x : ℕ). up (pos x over m) 100 ≤ℤ k) is le)

pub greater_kept : (a b : ℤ) → b ≤ℤ a → a ≡ int_max a b
greater_kept a b le = grind (arith, signed_arith, le)

-- the percentages of the frames numbered from i, whatever one frame gives
module _ (at_frame : ℕ → Frame → ℤ) (all : ℕ → List Frame → List ℤ)
    (here : (i : ℕ) (frame : Frame) (more : List Frame) → all i (frame ∷ more) ≡ at_frame i frame ∷ all (suc i) more) where
  pub frame_more : (frames : List Frame) (i : ℕ) (frame : Frame) (most next whole : ℤ) → i < length frames → frame ≡ get_or frames i frame
      → whole ≡ fold int_max most (all i (drop i frames)) → next ≡ int_max most (at_frame i frame) → whole ≡ fold int_max next (all (i + 1) (drop (i + 1) frames))
  frame_more frames i frame most next whole inside is so_far step =
      let behind = drop (i + 1) frames in
      let long : suc i ≡ i + 1 = omega arith in
      so_far
      ∙ ap (λ (l : List Frame). fold int_max most (all i l)) (drop_more frames i frame inside ∙ ap (λ (f : Frame). f ∷ behind) (sym is))
      ∙ ap (fold int_max most) (here i frame behind)
      ∙ (λ j. fold int_max (sym step j) (all (long j) behind))

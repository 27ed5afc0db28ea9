-- The ends of a stretch of conditions, with one condition more.
use Rattle.std.proofs.Common.{◌≡◌, ◌∙◌, ◌⊎◌, inl, inr, ℕ, ◌+◌, ◌<◌, ◌≤◌, ℤ, ◌≤ℤ◌, ◌<ℤ◌, List, Option, None, Some, unwrap_or, below_more, refl, sym, ap, arith}
use Rattle.std.proofs.lemmas.Bool.{cases_lt}
use Rattle.std.proofs.lemmas.Option.{none-some}
use Rattle.units_core.proofs.Signed.{signed_arith}
use Rattle.view_curves.specs.Decimation.{AreEnds, AreFound, HasFigure, HasNone, IsFirst, IsGreatest, IsLast, IsLeast, figure_at}
use Rattle.view_curves.specs.declared.decimation.Ends.{Ends}
use Rattle.view_curves.specs.declared.decimation.Point.{Point}

same_figure : (o : Option ℤ) (v w : ℤ) → o ≡ Some v → o ≡ Some w → v ≡ w
same_figure o v w one other = ap (λ (x : Option ℤ). unwrap_or x v) (sym one ∙ other)

clash : (o : Option ℤ) (v : ℤ) → o ≡ None → o ≡ Some v → ⊥
clash o v none some = none-some v (sym none ∙ some)

none_more : (curve : List (Option ℤ)) (s k : ℕ) → HasNone curve s k → figure_at curve k ≡ None → HasNone curve s (k + 1)
none_more curve s k none here = λ j from low. below_more (λ i. s ≤ i → figure_at curve i ≡ None) k (λ i below is. none i is below) (λ is. here) j low from

module _ (curve : List (Option ℤ)) (s k : ℕ) (v : ℤ) (from : s ≤ k) (here : figure_at curve k ≡ Some v) where
  pub least_new : (old : Point) → v <ℤ old.figure → IsLeast curve s k old → IsLeast curve s (k + 1) (record { at = k; figure = v })
  least_new old less is = record {
    from = from;
    below = omega arith;
    here = here;
    least = λ j w low high has.
        below_more (λ i. s ≤ i → figure_at curve i ≡ Some w → v ≤ℤ w) k
        (λ i below is_from has. omega (arith, signed_arith, less, is.least i w is_from below has))
        (λ is_from has. omega (arith, signed_arith, same_figure (figure_at curve k) v w here has)) j high low has;
    first = λ j w low high has. omega (arith, signed_arith, less, is.least j w low high has);
  }

  pub least_kept : (old : Point) → old.figure ≤ℤ v → IsLeast curve s k old → IsLeast curve s (k + 1) old
  least_kept old more is = record {
    from = is.from;
    below = omega (arith, is.below);
    here = is.here;
    least = λ j w low high has.
        below_more (λ i. s ≤ i → figure_at curve i ≡ Some w → old.figure ≤ℤ w) k
        (λ i below is_from has. is.least i w is_from below has)
        (λ is_from has. omega (arith, signed_arith, more, same_figure (figure_at curve k) v w here has)) j high low has;
    first = is.first;
  }

  pub greatest_new : (old : Point) → old.figure <ℤ v → IsGreatest curve s k old → IsGreatest curve s (k + 1) (record { at = k; figure = v })
  greatest_new old more is = record {
    from = from;
    below = omega arith;
    here = here;
    greatest = λ j w low high has.
        below_more (λ i. s ≤ i → figure_at curve i ≡ Some w → w ≤ℤ v) k
        (λ i below is_from has. omega (arith, signed_arith, more, is.greatest i w is_from below has))
        (λ is_from has. omega (arith, signed_arith, same_figure (figure_at curve k) v w here has)) j high low has;
    first = λ j w low high has. omega (arith, signed_arith, more, is.greatest j w low high has);
  }

  pub greatest_kept : (old : Point) → v ≤ℤ old.figure → IsGreatest curve s k old → IsGreatest curve s (k + 1) old
  greatest_kept old less is = record {
    from = is.from;
    below = omega (arith, is.below);
    here = is.here;
    greatest = λ j w low high has.
        below_more (λ i. s ≤ i → figure_at curve i ≡ Some w → w ≤ℤ old.figure) k
        (λ i below is_from has. is.greatest i w is_from below has)
        (λ is_from has. omega (arith, signed_arith, less, same_figure (figure_at curve k) v w here has)) j high low has;
    first = is.first;
  }

  last_here : IsLast curve s (k + 1) k
  last_here = record {
    from = from;
    below = omega arith;
    here = (v, here);
    none = λ j low high. absurd (omega (arith, low, high));
  }

  -- the first with a figure
  pub ends_new : HasNone curve s k → AreEnds curve s (k + 1) (record { first = k; last = k; least = record { at = k; figure = v }; greatest = record { at = k; figure = v } })
  ends_new none = record {
    first = record { from = from; below = omega arith; here = (v, here); none = none };
    last = last_here;
    least = record {
      from = from;
      below = omega arith;
      here = here;
      least = λ j w low high has.
          below_more (λ i. s ≤ i → figure_at curve i ≡ Some w → v ≤ℤ w) k
          (λ i below is_from has. absurd (clash (figure_at curve i) w (none i is_from below) has))
          (λ is_from has. omega (arith, signed_arith, same_figure (figure_at curve k) v w here has)) j high low has;
      first = λ j w low high has. absurd (clash (figure_at curve j) w (none j low high) has);
    };
    greatest = record {
      from = from;
      below = omega arith;
      here = here;
      greatest = λ j w low high has.
          below_more (λ i. s ≤ i → figure_at curve i ≡ Some w → w ≤ℤ v) k
          (λ i below is_from has. absurd (clash (figure_at curve i) w (none i is_from below) has))
          (λ is_from has. omega (arith, signed_arith, same_figure (figure_at curve k) v w here has)) j high low has;
      first = λ j w low high has. absurd (clash (figure_at curve j) w (none j low high) has);
    };
  }

  -- and a further one
  pub ends_more : (x : Ends) (p q : Point) → AreEnds curve s k x → IsLeast curve s (k + 1) p → IsGreatest curve s (k + 1) q
      → AreEnds curve s (k + 1) (record { first = x.first; last = k; least = p; greatest = q })
  ends_more x p q is least greatest = record {
    first = record { from = is.first.from; below = omega (arith, is.first.below); here = is.first.here; none = is.first.none };
    last = last_here;
    least = least;
    greatest = greatest;
  }

-- one without a figure
module _ (curve : List (Option ℤ)) (s k : ℕ) (here : figure_at curve k ≡ None) where
  ends_kept : (x : Ends) → AreEnds curve s k x → AreEnds curve s (k + 1) x
  ends_kept x is = record {
    first = record { from = is.first.from; below = omega (arith, is.first.below); here = is.first.here; none = is.first.none };
    last = record { from = is.last.from; below = omega (arith, is.last.below); here = is.last.here; none = none_more curve (x.last + 1) k is.last.none here };
    least = record {
      from = is.least.from;
      below = omega (arith, is.least.below);
      here = is.least.here;
      least = λ j w low high has.
          below_more (λ i. s ≤ i → figure_at curve i ≡ Some w → x.least.figure ≤ℤ w) k
          (λ i below is_from has. is.least.least i w is_from below has)
          (λ is_from has. absurd (clash (figure_at curve k) w here has)) j high low has;
      first = is.least.first;
    };
    greatest = record {
      from = is.greatest.from;
      below = omega (arith, is.greatest.below);
      here = is.greatest.here;
      greatest = λ j w low high has.
          below_more (λ i. s ≤ i → figure_at curve i ≡ Some w → w ≤ℤ x.greatest.figure) k
          (λ i below is_from has. is.greatest.greatest i w is_from below has)
          (λ is_from has. absurd (clash (figure_at curve k) w here has)) j high low has;
      first = is.greatest.first;
    };
  }

  pub found_kept : (o : Option Ends) → AreFound curve s k o → AreFound curve s (k + 1) o
  found_kept None none = none_more curve s k none here
  found_kept (Some x) is = ends_kept x is

-- the ends of a stretch lie in their order
module _ (curve : List (Option ℤ)) (s e : ℕ) (x : Ends) (is : AreEnds curve s e x) where
  order : (j : ℕ) (v : ℤ) → s ≤ j → j < e → figure_at curve j ≡ Some v → (x.first ≤ j) × (j ≤ x.last)
  order j v low high has = (
    after (cases_lt j x.first),
    before (cases_lt x.last j),
  )
    where
      after : (j < x.first) ⊎ (x.first ≤ j) → x.first ≤ j
      after (inl below) = absurd (clash (figure_at curve j) v (is.first.none j low below) has)
      after (inr above) = above

      before : (x.last < j) ⊎ (j ≤ x.last) → j ≤ x.last
      before (inl above) = absurd (clash (figure_at curve j) v (is.last.none j (omega (arith, above)) high) has)
      before (inr below) = below

  pub least_within : (x.first ≤ x.least.at) × (x.least.at ≤ x.last)
  least_within = order x.least.at x.least.figure is.least.from is.least.below is.least.here

  pub greatest_within : (x.first ≤ x.greatest.at) × (x.greatest.at ≤ x.last)
  greatest_within = order x.greatest.at x.greatest.figure is.greatest.from is.greatest.below is.greatest.here

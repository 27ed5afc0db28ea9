-- Which conditions of a curve are drawn: a curve has a figure of each condition, or none of it.
use Rattle.std.specs.Prelude.{◌≡◌, ◌⊎◌, ℕ, ◌+◌, ◌*◌, ◌/◌, ◌<◌, ◌≤◌, ℤ, ◌≤ℤ◌, ◌<ℤ◌, List}
use Rattle.std.specs.Prelude.{◌-◌, length, slice_get, slice_index_or, Option, None, Some}
use Rattle.std.specs.List.{AllPairs, Contains}
use Rattle.view_curves.specs.declared.decimation.Ends.{Ends}
use Rattle.view_curves.specs.declared.decimation.Point.{Point}

abbrev pub figure_at : List (Option ℤ) → ℕ → Option ℤ
figure_at curve k = slice_index_or curve k None

abbrev pub HasFigure : List (Option ℤ) → ℕ → Type 0
HasFigure curve k = (v : ℤ) × (figure_at curve k ≡ Some v)

-- A long curve is cut into 300 stretches. Stretch b of n conditions begins here, and ends before
-- the next one.
abbrev pub start_of : ℕ → ℕ → ℕ
start_of b n = b * n / 300

-- none of the conditions from s up to e has a figure
abbrev pub HasNone : List (Option ℤ) → ℕ → ℕ → Type 0
HasNone curve s e = (k : ℕ) → s ≤ k → k < e → figure_at curve k ≡ None

-- the first of them with a figure, and the last
pub record IsFirst (curve : List (Option ℤ)) (s e k : ℕ) : Type 0 where
  pub from : s ≤ k
  pub below : k < e
  pub here : HasFigure curve k
  pub none : HasNone curve s k

pub record IsLast (curve : List (Option ℤ)) (s e k : ℕ) : Type 0 where
  pub from : s ≤ k
  pub below : k < e
  pub here : HasFigure curve k
  pub none : HasNone curve (k + 1) e

-- the first of them with the least figure, and the first with the greatest
pub record IsLeast (curve : List (Option ℤ)) (s e : ℕ) (p : Point) : Type 0 where
  pub from : s ≤ p.at
  pub below : p.at < e
  pub here : figure_at curve p.at ≡ Some p.figure
  pub least : (k : ℕ) (v : ℤ) → s ≤ k → k < e → figure_at curve k ≡ Some v
      → p.figure ≤ℤ v
  pub first : (k : ℕ) (v : ℤ) → s ≤ k → k < p.at → figure_at curve k ≡ Some v
      → p.figure <ℤ v

pub record IsGreatest (curve : List (Option ℤ)) (s e : ℕ) (p : Point) : Type 0 where
  pub from : s ≤ p.at
  pub below : p.at < e
  pub here : figure_at curve p.at ≡ Some p.figure
  pub greatest : (k : ℕ) (v : ℤ) → s ≤ k → k < e → figure_at curve k ≡ Some v
      → v ≤ℤ p.figure
  pub first : (k : ℕ) (v : ℤ) → s ≤ k → k < p.at → figure_at curve k ≡ Some v
      → v <ℤ p.figure

pub record AreEnds (curve : List (Option ℤ)) (s e : ℕ) (x : Ends) : Type 0 where
  pub first : IsFirst curve s e x.first
  pub last : IsLast curve s e x.last
  pub least : IsLeast curve s e x.least
  pub greatest : IsGreatest curve s e x.greatest

-- the ends of a stretch, where it has a figure
abbrev pub AreFound : List (Option ℤ) → ℕ → ℕ → Option Ends → Type 0
AreFound curve s e None = HasNone curve s e
AreFound curve s e (Some x) = AreEnds curve s e x

-- all four are among the drawn
pub record HaveEnds (x : Ends) (ks : List ℕ) : Type 0 where
  pub first : Contains ks x.first
  pub last : Contains ks x.last
  pub least : Contains ks x.least.at
  pub greatest : Contains ks x.greatest.at

-- a stretch is drawn: its ends are, where it has a figure
abbrev pub IsStretchDrawn : List (Option ℤ) → ℕ → ℕ → List ℕ → Type 0
IsStretchDrawn curve s e ks =
    HasNone curve s e ⊎ ((x : Ends) × AreEnds curve s e x × HaveEnds x ks)

-- What is drawn of a curve: conditions in their order, each with a figure. Of at most 1,200
-- conditions it is every one with a figure, and of more each stretch is drawn.
pub record IsDrawn (curve : List (Option ℤ)) (ks : List ℕ) : Type 0 where
  pub rising : AllPairs (λ j k. j < k) ks
  pub figures : (k : ℕ) → Contains ks k → HasFigure curve k
  pub all : length curve ≤ 1200 → (k : ℕ) → HasFigure curve k → Contains ks k
  pub stretches : 1200 < length curve → (b : ℕ) → b < 300 → IsStretchDrawn curve
      (start_of b (length curve)) (start_of (b + 1) (length curve)) ks

-- Bookkeeping: numbers rise, up to this one.
pub record RiseTo (k : ℕ) (ks : List ℕ) : Type 0 where
  pub rising : AllPairs (λ i j. i < j) ks
  pub most : (j : ℕ) → Contains ks j → j ≤ k

abbrev pub EndsWith : ℕ → List ℕ → Type 0
EndsWith k ks = slice_get ks (length ks - 1) ≡ Some k

-- a number was added behind others
pub record IsAdded (k : ℕ) (old new : List ℕ) : Type 0 where
  pub holds : Contains new k
  pub kept : (j : ℕ) → Contains old j → Contains new j
  pub only : (j : ℕ) → Contains new j → Contains old j ⊎ (j ≡ k)
  pub rise : RiseTo k old → RiseTo k new

abbrev pub IsOneOf : Ends → ℕ → Type 0
IsOneOf x j =
    (j ≡ x.first) ⊎ ((j ≡ x.least.at) ⊎ ((j ≡ x.greatest.at) ⊎ (j ≡ x.last)))

-- the ends of a stretch were added
pub record AreAdded (x : Ends) (old new : List ℕ) : Type 0 where
  pub ends : HaveEnds x new
  pub kept : (j : ℕ) → Contains old j → Contains new j
  pub only : (j : ℕ) → Contains new j → Contains old j ⊎ IsOneOf x j
  pub rise : x.first ≤ x.least.at → x.first ≤ x.greatest.at → x.least.at ≤ x.last
      → x.greatest.at ≤ x.last → RiseTo x.first old → RiseTo x.last new

-- what is drawn of a stretch was added
pub record IsDrawnIn (curve : List (Option ℤ)) (s e : ℕ) (old new : List ℕ) : Type 0 where
  pub drawn : IsStretchDrawn curve s e new
  pub kept : (j : ℕ) → Contains old j → Contains new j
  pub only : (j : ℕ) → Contains new j
      → Contains old j ⊎ (HasFigure curve j × (s ≤ j) × (j < e))
  pub rise : AllPairs (λ i j. i < j) old → ((j : ℕ) → Contains old j → j < s)
      → AllPairs (λ i j. i < j) new

-- a condition was added behind others, if it has a figure
pub record IsOffered (curve : List (Option ℤ)) (k : ℕ) (old new : List ℕ) : Type 0 where
  pub there : HasFigure curve k → Contains new k
  pub kept : (j : ℕ) → Contains old j → Contains new j
  pub only : (j : ℕ) → Contains new j → Contains old j ⊎ (HasFigure curve j × (j ≡ k))
  pub rise : AllPairs (λ i j. i < j) old → ((j : ℕ) → Contains old j → j < k)
      → AllPairs (λ i j. i < j) new

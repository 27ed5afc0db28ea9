-- Fractions of whole numbers as a textbook writes them. Two are equal where their cross products
-- are.
use Rattle.std.specs.Prelude.{◌≡◌, ℤ, pos, ◌+ℤ◌, ◌-ℤ◌, ◌*ℤ◌, ◌≤ℤ◌, ◌<ℤ◌, int_le, Bool}
use Rattle.std.specs.Int.{int_div_euclid}

-- top / bottom
pub record Ratio : Type 0 where
  pub top : ℤ
  pub bottom : ℤ

infixl 7 ◌over◌
abbrev pub ◌over◌ : ℤ → ℤ → Ratio
n over d = record { top = n; bottom = d }

abbrev pub whole : ℤ → Ratio
whole n = n over pos 1

-- the sum, the difference, the product
infixl 6 ◌⊕◌
abbrev pub ◌⊕◌ : Ratio → Ratio → Ratio
a ⊕ b = ((a.top *ℤ b.bottom) +ℤ (b.top *ℤ a.bottom)) over (a.bottom *ℤ b.bottom)

infixl 6 ◌⊖◌
abbrev pub ◌⊖◌ : Ratio → Ratio → Ratio
a ⊖ b = ((a.top *ℤ b.bottom) -ℤ (b.top *ℤ a.bottom)) over (a.bottom *ℤ b.bottom)

infixl 7 ◌⊗◌
abbrev pub ◌⊗◌ : Ratio → Ratio → Ratio
a ⊗ b = (a.top *ℤ b.top) over (a.bottom *ℤ b.bottom)

-- the quotient by a positive ratio
infixl 7 ◌⊘◌
abbrev pub ◌⊘◌ : Ratio → Ratio → Ratio
a ⊘ b = (a.top *ℤ b.bottom) over (a.bottom *ℤ b.top)

-- The fraction n / d is the ratio r. Both divisors are positive: over 0 every claim would hold.
abbrev pub Is : ℤ → ℤ → Ratio → Type 0
Is n d r = (pos 1 ≤ℤ d) × (pos 1 ≤ℤ r.bottom) × (n *ℤ r.bottom ≡ r.top *ℤ d)

-- the ratio is at least the whole number
abbrev pub IsAtLeast : Ratio → ℤ → Type 0
IsAtLeast r k = (k *ℤ r.bottom) ≤ℤ r.top

-- the ratio is at most the whole number
abbrev pub IsAtMost : Ratio → ℤ → Type 0
IsAtMost r k = r.top ≤ℤ (k *ℤ r.bottom)

-- q is the greatest whole number that is not above the ratio
abbrev pub IsFloor : ℤ → Ratio → Type 0
IsFloor q r = ((q *ℤ r.bottom) ≤ℤ r.top) × (r.top <ℤ ((q +ℤ pos 1) *ℤ r.bottom))

-- that number: a figure of the report is the ratio rounded so, toward minus infinity
abbrev pub floor_of : Ratio → ℤ
floor_of r = int_div_euclid r.top r.bottom

-- the same comparisons as tests, and whether one ratio is at most another, each by cross products
abbrev pub is_at_least : Ratio → ℤ → Bool
is_at_least r k = int_le (k *ℤ r.bottom) r.top

abbrev pub is_at_most : Ratio → ℤ → Bool
is_at_most r k = int_le r.top (k *ℤ r.bottom)

abbrev pub is_no_more : Ratio → Ratio → Bool
is_no_more a b = int_le (a.top *ℤ b.bottom) (b.top *ℤ a.bottom)

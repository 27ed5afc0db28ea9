-- A monoid whose values have a size: joining nothing changes nothing, joins may be grouped in any
-- way, and sizes add up. The order of two values counts.
use Rattle.std.specs.Prelude.{◌≡◌, ℕ, ◌+◌, ◌^◌, ◌≤◌}

-- the greatest size of a value that is joined of others
abbrev pub most_parts : ℕ
most_parts = 2 ^ 19

-- each law holds where the sizes of all values add up to at most `most`
pub record MonoidLaws (most : ℕ) {M : Type 0} (empty : M) (op : M → M → M)
    (weight : M → ℕ) : Type 0 where
  pub left_identity : (x : M) → weight x ≤ most → op empty x ≡ x
  pub right_identity : (x : M) → weight x ≤ most → op x empty ≡ x
  pub assoc : (x y z : M) → weight x + (weight y + weight z) ≤ most → op (op x y) z ≡ op x (op y z)
  pub empty_weight : weight empty ≡ 0
  pub op_weight : (x y : M) → weight x + weight y ≤ most → weight (op x y) ≡ weight x + weight y

-- The worst of some values: the first, in the order of the conditions in which they stand, that
-- none is worse than.
use Rattle.std.specs.Prelude.{ℕ, Bool, true, false, not, cond, List, find, Option, None, Some}
use Rattle.std.specs.List.{list_all}
use Rattle.units_core.specs.Ratio.{Ratio, ◌over◌}
use Rattle.fractions.specs.Order.{is_below}
use Rattle.worst_values.specs.Lowest.{lowest}
use Rattle.worst_values.specs.declared.values.Value.{Value}

-- how safe a value is: the lesser the ratio, the worse; what is beyond all measure is worse than
-- all that isn't
pub record Safety : Type 0 where
  pub beyond : Bool
  pub by : Ratio

-- a value at a place, which is a frame or 0, of the condition of a step
pub record Candidate : Type 0 where
  pub step : ℕ
  pub place : ℕ
  pub safety : Safety

-- whether the first is worse than the second
abbrev pub is_worse : Safety → Safety → Bool
is_worse a b =
    cond a.beyond (cond b.beyond (is_below (lowest a.by) (lowest b.by)) true)
    (cond b.beyond false (is_below (lowest a.by) (lowest b.by)))

-- none of the candidates is worse than this one
abbrev pub none_worse : List Candidate → Candidate → Bool
none_worse xs w = list_all (λ x. not (is_worse x.safety w.safety)) xs

unfoldable pub worst_of : List Candidate → Option Candidate
worst_of xs = find (none_worse xs) xs

-- of two parts' worst ones the first, unless the second is worse
abbrev pub worse_of : Candidate → Candidate → Candidate
worse_of a b = cond (is_worse b.safety a.safety) b a

abbrev pub joined : Option Candidate → Option Candidate → Option Candidate
joined None y = y
joined (Some a) None = Some a
joined (Some a) (Some b) = Some (worse_of a b)

-- what the code's numbers are, in lowest terms
abbrev pub candidate_of : Value → Candidate
candidate_of v =
    record {
      step = v.step;
      place = v.place;
      safety = record { beyond = v.beyond; by = lowest (v.by.num over v.by.den) };
    }

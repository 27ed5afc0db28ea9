-- How safe a condition is by each limit: of what has to be at least so much the lesser is the
-- worse, of what may be at most so much the greater.
use Rattle.std.specs.Prelude.{ℕ, suc, ℤ, pos, neg_ℤ, unsigned_abs, int_lt, int_le, false, true}
use Rattle.std.specs.Prelude.{cond, List, [], ◌∷◌, slice_index_or, Option, None, Some}
use Rattle.std.specs.Ordering.{int_eq}
use Rattle.units_core.specs.Ratio.{Ratio, ◌over◌, whole, ◌⊖◌}
use Rattle.units_core.specs.declared.frames.Frame.{Frame}
use Rattle.ship_profile.specs.Ship.{ShipRecord}
use Rattle.hydrostat.specs.Floating.{Hydrostatics, Load, draught_at, gm, list, trim}
use Rattle.righting.specs.Levers.{greatest_of, simpson}
use Rattle.criteria.specs.Criteria.{Condition}
use Rattle.worst_values.specs.Lowest.{lowest}
use Rattle.worst_values.specs.Worst.{Candidate, Safety}
use Rattle.worst_values.specs.declared.limits.Limit.{Limit}
use Rattle.worst_values.specs.declared.limits.Limit.TheVariants.{Closing, Gm, AreaTo30, AreaTo40}
use Rattle.worst_values.specs.declared.limits.Limit.TheVariants.{Area30To40, Lever, PeakAngle}
use Rattle.worst_values.specs.declared.limits.Limit.TheVariants.{List as ListLimit, DraughtAft}
use Rattle.worst_values.specs.declared.limits.Limit.TheVariants.{DraughtForward, Trim, Shear}
use Rattle.worst_values.specs.declared.limits.Limit.TheVariants.{Bending, LeastGm}

-- the rows of the table of limits, in their order
abbrev pub limits : List Limit
limits =
    Closing ∷ Gm ∷ AreaTo30 ∷ AreaTo40 ∷ Area30To40 ∷ Lever ∷ PeakAngle ∷ ListLimit ∷ DraughtAft ∷
    DraughtForward ∷ Trim ∷ Shear ∷ Bending ∷ LeastGm ∷ []

abbrev pub limit_of : ℕ → Limit
limit_of row = slice_index_or limits row Closing

-- a number with the other sign, and the size of one with a minus before it
abbrev pub opposite : Ratio → Ratio
opposite r = neg_ℤ r.top over r.bottom

abbrev pub size_below : Ratio → Ratio
size_below r = neg_ℤ (pos (unsigned_abs r.top)) over r.bottom

-- the lesser the worse
abbrev pub by : Ratio → Safety
by r = record { beyond = false; by = lowest r }

-- beyond all measure, and the greater the worse
abbrev pub beyond_by : ℤ → Safety
beyond_by n = record { beyond = true; by = lowest (whole n) }

-- the only value of the condition of line k
abbrev pub alone : ℕ → Safety → List Candidate
alone k s = record { step = k; place = 0; safety = s } ∷ []

-- the list, which there is where the metacentric height is positive; none is worse than any
abbrev pub list_safety : Hydrostatics → Load → Safety
list_safety w l =
    cond (int_lt (pos 0) (gm w l).top) (by (size_below (list w l))) (beyond_by (pos 0))

-- the ordinate of a number, if there is one; the number itself, which is in steps of 5 degrees
abbrev pub ordinate_alone : ℕ → (ℕ → Ratio) → Option ℕ → List Candidate
ordinate_alone k y None = []
ordinate_alone k y (Some i) = alone k (by (y i))

abbrev pub number_alone : ℕ → Option ℕ → List Candidate
number_alone k None = []
number_alone k (Some i) = alone k (by (whole (pos i)))

-- the metacentric height less the least one, where there is such a limit
abbrev pub spare_alone : ℕ → Ratio → Option Ratio → List Candidate
spare_alone k g None = []
spare_alone k g (Some least) = alone k (by (g ⊖ least))

-- A load by its part of the limit for its sign. By a limit of 0 no load counts as all of it, and
-- any other is beyond measure.
abbrev pub part_of : ℤ → ℤ → Safety
part_of load limit =
    cond (int_lt (pos 0) limit) (by (neg_ℤ (pos (unsigned_abs load)) over limit))
    (cond (int_eq load (pos 0)) (by (whole (neg_ℤ (pos 1))))
    (beyond_by (neg_ℤ (pos (unsigned_abs load)))))

abbrev pub bending_limit : Frame → ℤ → ℤ
bending_limit frame load = cond (int_le (pos 0) load) frame.hog_max frame.sag_max

-- the loads at the frames, numbered from i
abbrev pub shears : (ℕ → ℤ) → ℕ → List Frame → ℕ → List Candidate
shears shear k [] i = []
shears shear k (frame ∷ more) i =
    record { step = k; place = i; safety = part_of (shear i) frame.shear_max } ∷
    shears shear k more (suc i)

abbrev pub bendings : (ℕ → ℤ) → ℕ → List Frame → ℕ → List Candidate
bendings bending k [] i = []
bendings bending k (frame ∷ more) i =
    record { step = k; place = i; safety = part_of (bending i) (bending_limit frame (bending i)) } ∷
    bendings bending k more (suc i)

-- The values of the condition of line k by a limit. Of an area it is Simpson's sum, to which areas
-- are in one ratio.
abbrev pub candidates_of : ShipRecord → Condition → Limit → ℕ → List Candidate
candidates_of p c Closing k = alone k (by (size_below (whole c.closing)))
candidates_of p c Gm k = alone k (by (gm c.water c.load))
candidates_of p c AreaTo30 k = alone k (by (simpson c.levers 0 3))
candidates_of p c AreaTo40 k = alone k (by (simpson c.levers 0 4))
candidates_of p c Area30To40 k = alone k (by (simpson c.levers 6 1))
candidates_of p c Lever k = ordinate_alone k c.levers (greatest_of c.levers 6 7)
candidates_of p c PeakAngle k = number_alone k (greatest_of c.levers 0 13)
candidates_of p c ListLimit k = alone k (list_safety c.water c.load)
candidates_of p c DraughtAft k =
    alone k (by (opposite (draught_at c.water c.load p.lbp (pos 0))))
candidates_of p c DraughtForward k =
    alone k (by (opposite (draught_at c.water c.load p.lbp p.lbp)))
candidates_of p c Trim k = alone k (by (size_below (trim c.water c.load)))
candidates_of p c Shear k = shears c.shear k p.frames 0
candidates_of p c Bending k = bendings c.bending k p.frames 0
candidates_of p c LeastGm k = spare_alone k (gm c.water c.load) c.least_gm

-- What an assessment is in other words than those of its definition: the first cause, and else the
-- first criterion, by numbers of their own.
use Rattle.std.specs.Prelude.{◌≡◌, ℕ, ◌<◌, ℤ, Bool, true, false, Option, None, Some}
use Rattle.ship_profile.specs.Record.{ProfileRecord}
use Rattle.moment_sums.specs.Sum.{Sum, Weight}
use Rattle.hydrostat.specs.Floating.{Hydrostatics, draught_at, hydrostatics_at, load_of}
use Rattle.hydrostat.specs.declared.outside.Outside.{Outside}
use Rattle.hydrostat.specs.declared.outside.Outside.TheVariants as cause
use Rattle.righting.specs.Aboard.{levers_of}
use Rattle.strength.specs.Immersed.{areas_of}
use Rattle.strength.specs.Strains.{closes, closing_of}
use Rattle.criteria.specs.Assessment.{Assessment, IsOutside, Fails, Passes, assessment_of}
use Rattle.criteria.specs.Criteria.{holds}
use Rattle.criteria.specs.Least.{least_at}
use Rattle.criteria.specs.declared.criterion.Criterion.{Criterion}
use Rattle.criteria.specs.declared.criterion.Criterion.TheVariants.{C0, C1, C2, C3, C4, C5, C6, C7}
use Rattle.criteria.specs.declared.criterion.Criterion.TheVariants.{C8, C9, C10, C11}

-- the number of a cause, O1 to O5, and of a criterion
abbrev pub number_of_cause : Outside → ℕ
number_of_cause cause.Hydro = 1
number_of_cause cause.Levers = 2
number_of_cause cause.Bonjean = 3
number_of_cause cause.Closing = 4
number_of_cause cause.GmLimit = 5

abbrev pub number_of : Criterion → ℕ
number_of C0 = 0
number_of C1 = 1
number_of C2 = 2
number_of C3 = 3
number_of C4 = 4
number_of C5 = 5
number_of C6 = 6
number_of C7 = 7
number_of C8 = 8
number_of C9 = 9
number_of C10 = 10
number_of C11 = 11

abbrev pub is_there : {A : Type 0} → Option A → Bool
is_there None = false
is_there (Some a) = true

-- the immersed areas at her stations, where the hydrostatic table says how she floats, and whether
-- they carry what she displaces; without them nothing is at odds
abbrev pub areas_at : ProfileRecord → Sum → Option Hydrostatics → Option (ℕ → ℤ)
areas_at p s None = None
areas_at p s (Some w) =
    areas_of p.tables.bonjean (draught_at w (load_of s) p.ship.lbp) p.ship.stations

abbrev pub carry : ProfileRecord → Sum → Option (ℕ → ℤ) → Bool
carry p s None = true
carry p s (Some areas) = closes (closing_of s areas p.ship.stations) p.ship.closing_max

-- whether what a cause speaks of is there, given what each table says
abbrev pub is_given : Option Hydrostatics → Bool → Option (ℕ → ℤ) → Bool → Bool → Outside → Bool
is_given water levers areas carried least cause.Hydro = is_there water
is_given water levers areas carried least cause.Levers = levers
is_given water levers areas carried least cause.Bonjean = is_there areas
is_given water levers areas carried least cause.Closing = carried
is_given water levers areas carried least cause.GmLimit = least

-- whether her tables have it with this aboard
abbrev pub has : ProfileRecord → Sum → Outside → Bool
has p s =
    let water = hydrostatics_at p.tables.hydro (s Weight) in
    is_given water (is_there (levers_of p.tables.levers s)) (areas_at p s water)
    (carry p s (areas_at p s water)) (is_there (least_at p.tables.least_gm (s Weight)))

-- A cause is named exactly where her tables lack what it speaks of and have that of each before it;
-- and where they have all, a criterion exactly where it isn't met and each before it is.
abbrev pub IsFirst : ProfileRecord → Sum → Assessment → Type 0
IsFirst p s (IsOutside o) = (has p s o ≡ false)
    × ((before : Outside) → number_of_cause before < number_of_cause o → has p s before ≡ true)
IsFirst p s (Fails k c) =
    ((o : Outside) → has p s o ≡ true) × (holds p.ship c k ≡ false)
    × ((before : Criterion) → number_of before < number_of k → holds p.ship c before ≡ true)
IsFirst p s (Passes c) = ((o : Outside) → has p s o ≡ true)
    × ((k : Criterion) → holds p.ship c k ≡ true)

abbrev pub JudgesInOrder : Type 0
JudgesInOrder = (p : ProfileRecord) (s : Sum) → IsFirst p s (assessment_of p s)

-- The figures of a profile in print: each is a number that was read of her files, in tonnes and
-- metres, and rounded down to so many decimals where it has more.
use Rattle.std.specs.Prelude.{◌≡◌, ℕ, ℤ, pos, ◌-◌, ◌+ℤ◌, List, length, Option, None, Some}
use Rattle.std.specs.Prelude.{slice_get, string_bytes}
use Rattle.std.specs.Int.{int_div_euclid}
use Rattle.std.specs.Fmt.{signed_decimal}
use Rattle.plain_text.specs.Figures.{tenths, thousandths}
use Rattle.units_core.specs.declared.frames.Frame.{Frame}
use Rattle.ship_tables.specs.Record.{HydroTable}
use Rattle.ship_profile.specs.Ship.{ShipRecord}
use Rattle.view_quotes.specs.declared.printed.FrameColumn.{FrameColumn}
use Rattle.view_quotes.specs.declared.printed.FrameColumn.TheVariants.{Place, Shear, Hogging}
use Rattle.view_quotes.specs.declared.printed.FrameColumn.TheVariants.{Sagging}
use Rattle.view_quotes.specs.declared.printed.HydroColumn.{HydroColumn}
use Rattle.view_quotes.specs.declared.printed.HydroColumn.TheVariants.{Displacement, Draught}
use Rattle.view_quotes.specs.declared.printed.HydroColumn.TheVariants.{Kmt, Lcb}
use Rattle.view_quotes.specs.declared.printed.HydroColumn.TheVariants.{Lcf, Mct}
use Rattle.view_quotes.specs.declared.printed.Reach.{Reach}
use Rattle.view_quotes.specs.declared.printed.ShipLimit.{ShipLimit}
use Rattle.view_quotes.specs.declared.printed.ShipLimit.TheVariants.{Length, GreatestDraught}
use Rattle.view_quotes.specs.declared.printed.ShipLimit.TheVariants.{GreatestTrim, GreatestClosing}

-- kilograms in tonnes with one decimal, and in whole tonnes
abbrev pub tonnes_to_tenths : ℤ → List ℕ
tonnes_to_tenths kg = tenths (int_div_euclid kg (pos 100))

abbrev pub whole_tonnes : ℤ → List ℕ
whole_tonnes kg = signed_decimal (int_div_euclid kg (pos 1000))

-- kg mm in tonne metres with one decimal
abbrev pub tonne_metres : ℤ → List ℕ
tonne_metres moment = tenths (int_div_euclid moment (pos 100000))

-- kg mm for each mm of trim, in tonne metres for each cm with one decimal
abbrev pub tonne_metres_per_cm : ℤ → List ℕ
tonne_metres_per_cm moment = tenths (int_div_euclid moment (pos 10000))

-- a free surface moment in kg mm, in tonne metres with one decimal, rounded up
abbrev pub surface_up : ℤ → List ℕ
surface_up moment = tenths (int_div_euclid (moment +ℤ pos 99999) (pos 100000))

abbrev pub or_none : Option ℤ → ℤ
or_none None = pos 0
or_none (Some number) = number

-- a column's number in a record, the first being 0
abbrev pub number_at : List ℤ → ℕ → ℤ
number_at numbers place = or_none (slice_get numbers place)

-- the length of a ship and the limits on her draught and trim in metres, and the greatest closing
-- error in tonnes
abbrev pub limit_in_print : ShipLimit → ShipRecord → List ℕ
limit_in_print Length ship = thousandths ship.lbp
limit_in_print GreatestDraught ship = thousandths ship.draught_max
limit_in_print GreatestTrim ship = thousandths ship.trim_max
limit_in_print GreatestClosing ship = thousandths ship.closing_max

-- a frame's place in metres, its shear force in tonnes and its moments in tonne metres
abbrev pub frame_in_print : FrameColumn → Frame → List ℕ
frame_in_print Place frame = thousandths frame.x
frame_in_print Shear frame = tonnes_to_tenths frame.shear_max
frame_in_print Hogging frame = tonne_metres frame.hog_max
frame_in_print Sagging frame = tonne_metres frame.sag_max

-- a record of the hydrostatic table, column by column
abbrev pub hydro_in_print : HydroColumn → HydroTable → ℕ → List ℕ
hydro_in_print Displacement hydro place = tonnes_to_tenths (number_at hydro.kg place)
hydro_in_print Draught hydro place = thousandths (number_at hydro.draught place)
hydro_in_print Kmt hydro place = thousandths (number_at hydro.kmt place)
hydro_in_print Lcb hydro place = thousandths (number_at hydro.lcb place)
hydro_in_print Lcf hydro place = thousandths (number_at hydro.lcf place)
hydro_in_print Mct hydro place = tonne_metres_per_cm (number_at hydro.mct place)

-- the first and the last number of a column, each in print
abbrev pub IsReach : (ℤ → List ℕ) → List ℤ → Reach → Type 0
IsReach in_print numbers printed =
    (string_bytes printed.first ≡ in_print (number_at numbers 0))
    × (string_bytes printed.last ≡ in_print (number_at numbers (length numbers - 1)))

-- The definitions on small texts, computed.
use Rattle.std.proofs.Common.{◌≡◌, codes, pos, neg_ℤ, [], ◌∷◌, Some, None, Ok, Err, map, refl}
use Rattle.csv.proofs.OnLiterals.{csv_on_literals}
use Rattle.csv_text.specs.Numbers.{number_in}
use Rattle.ship_tables.specs.declared.extents.Extent.{Extent}
use Rattle.ship_tables.specs.declared.faults.File.TheVariants as file
use Rattle.ship_tables.specs.declared.faults.TableFault.TheVariants.{BadCsv, OutOfLimits, NotRising, DoubleCell, OutsideStations, TooFewRows}
use Rattle.ship_tables.specs.Record.{places_in, hydro_in, curves_in, least_gm_form, tanks_in, TankTable, filling_in}
use Rattle.ship_tables.specs.Written.{records_under, field_as, IsColumn, IsNumbers}

-- from 0 to 100 m
ship : Extent
ship = record { aft = pos 0; fore = pos 100000 }

-- a text without records, and one that is cut in its second record
no_records : hydro_in (codes "") ≡ Err (TooFewRows file.Hydro)
unfolding csv_on_literals
no_records = refl

cut : hydro_in (codes "kg,draught,kmt,lcb,lcf,mct\n4100000,2000,17667") ≡ Err (BadCsv file.Hydro 2)
unfolding csv_on_literals
cut = refl

-- a cell that stands twice, once in six digits
double : places_in ship (codes "h,h,h,h,h\n0030082,4,2,3,4\n030082,4,2,3,4") ≡ Err (DoubleCell 3)
unfolding csv_on_literals ship
double = refl

-- a number out of its limits before one that is none, and a container that reaches beyond the first station
first_fault : places_in ship (codes "h,h,h,h,h\n0030082,1000001,x,3,4") ≡ Err (OutOfLimits file.Cells 2)
unfolding csv_on_literals ship
first_fault = refl

beyond : places_in ship (codes "h,h,h,h,h\n0030082,3,2,3,4") ≡ Err (OutsideStations file.Cells 2)
unfolding csv_on_literals ship
beyond = refl

-- a displacement that doesn't rise, and one that rises too far
falls : curves_in least_gm_form 1 (codes "kg,gm\n2,2\n1,2") ≡ Err (NotRising file.LeastGm 3)
unfolding csv_on_literals
falls = refl

too_far : curves_in least_gm_form 1 (codes "kg,gm\n1,2\n100000002,2") ≡ Err (OutOfLimits file.LeastGm 3)
unfolding csv_on_literals
too_far = refl

-- a table of two rows
two_rows : curves_in least_gm_form 1 (codes "kg,gm\n1,2\n2,3") ≡ Ok (record { arguments = pos 1 ∷ pos 2 ∷ []; columns = (pos 2 ∷ pos 3 ∷ []) ∷ [] })
unfolding csv_on_literals
two_rows = refl

-- no tank, a tank of one row, and one whose name comes back
no_tanks : tanks_in ship (codes "") ≡ Ok []
unfolding csv_on_literals
no_tanks = refl

one_row : tanks_in ship (codes "h,h,h,h,h,h,h\nA,0,5,0,0,0,0") ≡ Err (TooFewRows file.Tanks)
unfolding csv_on_literals ship
one_row = refl

comes_back : tanks_in ship (codes "h,h,h,h,h,h,h\nA,0,5,0,0,0,0\nB,0,5,0,0,0,0\nA,1,5,0,0,0,0") ≡ Err (NotRising file.Tanks 4)
unfolding csv_on_literals ship
comes_back = refl

-- the double bottom tank of the box ship, filled with 100,001 kg, and with more than it takes
double_bottom : TankTable
double_bottom = record {
  kg = pos 0 ∷ pos 500000 ∷ [];
  x = pos 50000 ∷ pos 50000 ∷ [];
  y = pos 0 ∷ pos 0 ∷ [];
  z = pos 0 ∷ pos 1000 ∷ [];
  half = pos 5000 ∷ pos 5000 ∷ [];
  fsm = pos 0 ∷ pos 2050000000 ∷ [];
}

filled : filling_in 100001 (Some double_bottom)
    ≡ Some (record { kg = 100001; place = record { x = pos 50000; y = pos 0; z = pos 200; half = pos 5000 }; fsm = pos 410004100 })
unfolding double_bottom
filled = refl

too_full : filling_in 500001 (Some double_bottom) ≡ None
unfolding double_bottom
too_full = refl

-- columns of texts: numbers, one of which is none, and the names of two tanks
column : IsNumbers 1 (codes "kg,gm\n1,2\n2, -3") (pos 2 ∷ neg_ℤ (pos 3) ∷ [])
unfolding csv_on_literals
column = refl

not_a_number : map (field_as number_in 1) (records_under (codes "kg,gm\n1,x\n2")) ≡ None ∷ None ∷ []
unfolding csv_on_literals
not_a_number = refl

names : IsColumn Some 0 (codes "tank,kg\nA,0\nA,1\nB,0") (codes "A" ∷ codes "A" ∷ codes "B" ∷ [])
unfolding csv_on_literals
names = refl

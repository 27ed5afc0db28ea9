-- The definitions on small documents, computed.
use Rattle.std.proofs.Common.{◌≡◌, codes, pos, [], ◌∷◌, Ok, Err, refl}
use Rattle.toml.proofs.OnLiterals.{toml_on_literals}
use Rattle.toml.specs.Parse.{parse_document}
use Rattle.ship_tables.specs.declared.faults.File.TheVariants as file
use Rattle.ship_profile.specs.declared.faults.Key.TheVariants as key
use Rattle.ship_profile.specs.declared.faults.ProfileFault.TheVariants.{BadToml, MissingKey, NotRising, FrameNotStation, OutsideStations, Downflooding, TooFewRows}
use Rattle.units_core.specs.Outcome.{◌>>=◌, or_fault}
use Rattle.ship_profile.specs.Ship.{ship_of, stations_of, blocks_of, frames_of, named_fills_of}

-- no document, and one without keys
no_document : or_fault BadToml (parse_document (codes "lbp_mm = ")) >>= ship_of ≡ Err BadToml
unfolding toml_on_literals
no_document = refl

no_keys : or_fault BadToml (parse_document (codes "")) >>= ship_of ≡ Err (MissingKey key.Lbp)
unfolding toml_on_literals
no_keys = refl

-- an angle of down-flooding, found before the next key
small_angle : or_fault BadToml (parse_document (codes "lbp_mm = 1\ndownflooding_deg = 39\ndraught_max_mm = 0")) >>= ship_of ≡ Err (Downflooding 39)
unfolding toml_on_literals
small_angle = refl

-- each station against the one before it, and then their number
equal_stations : or_fault BadToml (parse_document (codes "stations_mm = [5, 5, 'x']")) >>= stations_of ≡ Err (NotRising file.Ship 0)
unfolding toml_on_literals
equal_stations = refl

one_station : or_fault BadToml (parse_document (codes "stations_mm = [5]")) >>= stations_of ≡ Err (TooFewRows file.Ship)
unfolding toml_on_literals
one_station = refl

two_stations : or_fault BadToml (parse_document (codes "stations_mm = [5, 6]")) >>= stations_of ≡ Ok (pos 5 ∷ pos 6 ∷ [])
unfolding toml_on_literals
two_stations = refl

-- a block that ends at the last station, and one that ends beyond it
inside : or_fault BadToml (parse_document (codes "blocks = [{kg = 7, x_mm = 5, y_mm = 1, z_mm = 2, half_mm = 4}]")) >>= blocks_of (record { aft = pos 0; fore = pos 9 })
    ≡ Ok (record { kg = 7; place = record { x = pos 5; y = pos 1; z = pos 2; half = pos 4 }; fsm = pos 0 } ∷ [])
unfolding toml_on_literals
inside = refl

outside : or_fault BadToml (parse_document (codes "blocks = [{kg = 7, x_mm = 5, y_mm = 1, z_mm = 2, half_mm = 4}]")) >>= blocks_of (record { aft = pos 0; fore = pos 8 })
    ≡ Err (OutsideStations file.Ship 1)
unfolding toml_on_literals
outside = refl

-- a frame between the stations
between : or_fault BadToml (parse_document (codes "frames = [{x_mm = 6, shear_max_kg = 0, hog_max_kgmm = 0, sag_max_kgmm = 0}]")) >>= frames_of (pos 5 ∷ pos 7 ∷ []) ≡ Err (FrameNotStation 1)
unfolding toml_on_literals
between = refl

-- fills, which may be missing
no_fills : or_fault BadToml (parse_document (codes "")) >>= named_fills_of ≡ Ok []
unfolding toml_on_literals
no_fills = refl

one_fill : or_fault BadToml (parse_document (codes "fills = [{tank = 'DB1', kg = 5}]")) >>= named_fills_of ≡ Ok (record { tank = codes "DB1"; kg = 5 } ∷ [])
unfolding toml_on_literals
one_fill = refl

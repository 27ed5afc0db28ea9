-- The extent of the ship: from her first to her last station.
use Rattle.std.specs.Prelude.{ℤ, ◌+ℤ◌, ◌-ℤ◌, int_le, Bool, ◌&&◌}
use Rattle.units_core.specs.declared.bodies.Place.{Place}
use Rattle.ship_tables.specs.declared.extents.Extent.{Extent}

-- a body that reaches half a length aft and forward of x is within the extent, its ends among it
abbrev pub encloses : Extent → ℤ → ℤ → Bool
encloses e x half = int_le e.aft (x -ℤ half) && int_le (x +ℤ half) e.fore

abbrev pub holds : Extent → Place → Bool
holds e p = encloses e p.x p.half

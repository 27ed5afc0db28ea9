-- The faults of the tables among those of the profile.
use Rattle.ship_tables.specs.declared.faults.TableFault.{TableFault}
use Rattle.ship_tables.specs.declared.faults.TableFault.TheVariants as table
use Rattle.ship_profile.specs.declared.faults.ProfileFault.{ProfileFault}
use Rattle.ship_profile.specs.declared.faults.ProfileFault.TheVariants as fault

-- a fault of the tables as one of the profile
abbrev pub as_profile_fault : TableFault → ProfileFault
as_profile_fault (table.BadCsv f line) = fault.BadCsv f line
as_profile_fault (table.BadNumber f line) = fault.BadNumber f line
as_profile_fault (table.OutOfLimits f line) = fault.OutOfLimits f line
as_profile_fault (table.NotRising f line) = fault.NotRising f line
as_profile_fault (table.DoubleCell line) = fault.DoubleCell line
as_profile_fault (table.OutsideStations f line) = fault.OutsideStations f line
as_profile_fault (table.TooFewRows f) = fault.TooFewRows f
as_profile_fault table.NoMemory = fault.NoMemory

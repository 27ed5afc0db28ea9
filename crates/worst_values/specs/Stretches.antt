-- Bookkeeping: what each line doesn't meet, by stretches of lines that are alike.
use Rattle.std.specs.Prelude.{Bool, List, flat_map, replicate}
use Rattle.worst_values.specs.declared.stretches.Stretch.{Stretch}

abbrev pub lines_of : Stretch → List (List Bool)
lines_of s = replicate s.lines s.unmet

abbrev pub lines_of_all : List Stretch → List (List Bool)
lines_of_all all = flat_map lines_of all

use Rattle.std.proofs.Common.{◌≡◌, map}
use Rattle.std.specs.List.{range_with_len}
use Rattle.ship_profile.specs.Sections.{area_line}
use Rattle.ship_profile.proofs.sections.area_row.Given as goal

abbrev pub invariant-loop-k : goal.invariant-loop-k
invariant-loop-k l = l.lines.items ≡ map (area_line l.curves l.row) (range_with_len 0 l.k)

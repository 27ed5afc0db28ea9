use Rattle.std.proofs.Common.{◌≡◌, map}
use Rattle.std.specs.List.{range_with_len}
use Rattle.ship_profile.specs.Sections.{area_row}
use Rattle.ship_profile.proofs.sections.area_rows.Given as goal

abbrev pub invariant-loop-row : goal.invariant-loop-row
invariant-loop-row l = map (λ r. r.items) l.rows.items ≡ map (area_row l.curves) (range_with_len 0 l.row)

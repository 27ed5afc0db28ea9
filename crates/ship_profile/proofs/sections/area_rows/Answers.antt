use Rattle.std.proofs.Common.{rules, arith, ◌≡◌, ◌++◌, ◌∷◌, [], map, sym}
use Rattle.std.specs.List.{range_with_len}
use Rattle.std.proofs.lemmas.List.{map-append}
use Rattle.std.proofs.lemmas.List.FromFn.{map-range_with_len_more}
use Rattle.ship_profile.specs.Sections.{area_row}
use Rattle.ship_profile.proofs.sections.area_rows.Goals as goal

pub loop-row-preserved : goal.loop-row-preserved
loop-row-preserved c =
    let i = c.loop-row.row in
    let t = c.args.curves.now in
    let push : c.push.new.self.items ≡ c.loop-row.rows.items ++ c.in_ok-lines.lines ∷ [] = search rules in
    let lines : c.in_ok-lines.lines.items ≡ area_row t i = search rules in
    rw (push, map-append (λ r. r.items) c.loop-row.rows.items (c.in_ok-lines.lines ∷ []), c.loop-row.invariant, lines)
    (sym (map-range_with_len_more (area_row t) 0 i i (omega arith)))

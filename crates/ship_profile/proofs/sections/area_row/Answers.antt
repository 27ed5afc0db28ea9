use Rattle.std.proofs.Common.{rules, arith, ◌≡◌, ◌++◌, ◌∷◌, [], map, sym}
use Rattle.std.specs.List.{range_with_len}
use Rattle.std.proofs.lemmas.List.FromFn.{map-range_with_len_more}
use Rattle.ship_profile.specs.Sections.{area_line}
use Rattle.ship_profile.proofs.sections.area_row.Goals as goal

pub loop-k-preserved : goal.loop-k-preserved
loop-k-preserved c =
    let k = c.loop-k.k in
    let t = c.args.curves.now in
    let push : c.push.new.self.items ≡ c.loop-k.lines.items ++ c.line_through.result ∷ [] = search rules in
    let line : c.line_through.result ≡ area_line t c.args.row k = search rules in
    rw (push, c.loop-k.invariant, line) (sym (map-range_with_len_more (area_line t c.args.row) 0 k k (omega arith)))

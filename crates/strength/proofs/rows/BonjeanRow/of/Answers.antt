use Rattle.std.proofs.Common.{rules, arith, ◌≡◌, ◌∙◌, ◌+◌, ◌-◌, [], length, to_z, of_z}
use Rattle.std.specs.Int.{w64}
use Rattle.std.proofs.lemmas.List.FromFn.{get_or-map-range_with_len}
use Rattle.units_core.specs.Interpolation.{at}
use Rattle.ship_profile.specs.Sections.{area_row}
use Rattle.strength.proofs.rows.BonjeanRow.of.Goals as goal

pub returns-clause-row : goal.returns-clause-row
returns-clause-row c =
    let t = c.args.profile.now.tables.bonjean in
    let n = c.args.number in
    let inside = c.requires in
    let lower : to_z w64 (of_z w64 c.place.result) ≡ at t.arguments n = search rules in
    let upper : to_z w64 (of_z w64 c.place-2.result) ≡ at t.arguments (n + 1) = search rules in
    record {
      inside = inside;
      is_lower = lower;
      is_upper = upper;
      are_lines = c.row.ensures ∙ (rw c.sections.ensures.value.are_rows (get_or-map-range_with_len (area_row t) 0 (length t.arguments - 1) n n [] (omega (arith, inside)) (omega arith)));
    }

use Rattle.std.proofs.Common.{rules, ◌∙◌, List, [], ◌∷◌, ◌++◌, ℕ, pos, FitsSigned, to_z-of_z}
use Rattle.std.specs.Int.{w64, w128}
use Rattle.std.specs.Fmt.{signed_decimal}
use Rattle.decimal_text.specs.Numbers.{behind_each}
use Rattle.seq_report.specs.Columns.{number_text}
use Rattle.seq_report.proofs.Words.{around_one}
use Rattle.seq_report.proofs.columns.put_numbers.Goals as goal

-- the figures before the list, and those behind it
pub returns-clause-text : goal.returns-clause-text
returns-clause-text c =
    let f = c.args.figures.now in
    let line = c.args.line.now in
    let angle = pos f.angle in
    let closing = f.strains.closing in
    let gm-fits : FitsSigned w128 f.gm = search rules in
    let mean-fits : FitsSigned w128 f.mean = search rules in
    let aft-fits : FitsSigned w128 f.aft = search rules in
    let fwd-fits : FitsSigned w128 f.fwd = search rules in
    let trim-fits : FitsSigned w128 f.trim = search rules in
    let area_30-fits : FitsSigned w128 f.area_30 = search rules in
    let area_40-fits : FitsSigned w128 f.area_40 = search rules in
    let area_30_40-fits : FitsSigned w128 f.area_30_40 = search rules in
    let lever-fits : FitsSigned w128 f.lever = search rules in
    let angle-fits : FitsSigned w128 angle = search rules in
    let closing-fits : FitsSigned w64 closing = search rules in
    let from-fits : FitsSigned w128 c.from.result = search rules in
    let closing-is = to_z-of_z from-fits ∙ (c.from.ensures ∙ to_z-of_z closing-fits) in
    let front : List (List ℕ) = signed_decimal f.gm ∷ signed_decimal f.mean ∷ signed_decimal f.aft ∷ signed_decimal f.fwd ∷ signed_decimal f.trim ∷ [] in
    let back : List (List ℕ) =
    signed_decimal f.area_30 ∷ signed_decimal f.area_40 ∷ signed_decimal f.area_30_40 ∷ signed_decimal f.lever ∷ signed_decimal angle
    ∷ signed_decimal closing ∷ [] in
    let put-back = c.put_each.ensures.text
    ∙ (λ j. behind_each 32 (to_z-of_z area_30-fits j ∷ to_z-of_z area_40-fits j ∷ to_z-of_z area_30_40-fits j ∷ to_z-of_z lever-fits j
    ∷ to_z-of_z angle-fits j ∷ closing-is j ∷ []) ++ line) in
    let put-front = c.put_each-2.ensures.text
    ∙ (λ j. behind_each 32 (to_z-of_z gm-fits j ∷ to_z-of_z mean-fits j ∷ to_z-of_z aft-fits j ∷ to_z-of_z fwd-fits j
    ∷ to_z-of_z trim-fits j ∷ []) ++ c.put_list.new.line) in
    around_one front (number_text f.list) back line c.put_each.new.self c.put_list.new.line c.put_each-2.new.self put-back c.put_list.ensures.text put-front

use Rattle.std.proofs.Common.{rules, ◌∙◌, List, [], ◌∷◌, ◌++◌, ℤ, pos, FitsSigned, to_z-of_z}
use Rattle.std.specs.Int.{w64, w128}
use Rattle.decimal_text.specs.Numbers.{behind_each}
use Rattle.view_table.proofs.TextLemmas.{around_one}
use Rattle.view_table.proofs.figures.put_columns.Goals as goal

-- the figures before the list, and those behind it
pub returns-clause-text : goal.returns-clause-text
returns-clause-text c =
    let f = c.args.figures.now in
    let end = c.args.end.now in
    let angle = pos f.angle in
    let closing = f.strains.closing in
    let gm-fits : FitsSigned w128 f.gm = search rules in
    let mean-fits : FitsSigned w128 f.mean = search rules in
    let aft-fits : FitsSigned w128 f.aft = search rules in
    let fwd-fits : FitsSigned w128 f.fwd = search rules in
    let trim-fits : FitsSigned w128 f.trim = search rules in
    let area_30-fits : FitsSigned w128 f.area_30 = search rules in
    let area_40-fits : FitsSigned w128 f.area_40 = search rules in
    let area_30_40-fits : FitsSigned w128 f.area_30_40 = search rules in
    let lever-fits : FitsSigned w128 f.lever = search rules in
    let angle-fits : FitsSigned w128 angle = search rules in
    let closing-fits : FitsSigned w64 closing = search rules in
    let from-fits : FitsSigned w128 c.from.result = search rules in
    let closing-is = to_z-of_z from-fits ∙ (c.from.ensures ∙ to_z-of_z closing-fits) in
    let front : List ℤ = f.gm ∷ f.mean ∷ f.aft ∷ f.fwd ∷ f.trim ∷ [] in
    let back : List ℤ = f.area_30 ∷ f.area_40 ∷ f.area_30_40 ∷ f.lever ∷ angle ∷ closing ∷ [] in
    let put-back = c.put_each.ensures.text
    ∙ (λ j. behind_each 44 (to_z-of_z area_30-fits j ∷ to_z-of_z area_40-fits j ∷ to_z-of_z area_30_40-fits j ∷ to_z-of_z lever-fits j
    ∷ to_z-of_z angle-fits j ∷ closing-is j ∷ []) ++ end) in
    let put-front = c.put_each-2.ensures.text
    ∙ (λ j. behind_each 44 (to_z-of_z gm-fits j ∷ to_z-of_z mean-fits j ∷ to_z-of_z aft-fits j ∷ to_z-of_z fwd-fits j
    ∷ to_z-of_z trim-fits j ∷ []) ++ c.put_field.new.end) in
    around_one front f.list back end c.put_each.new.self c.put_field.new.end c.put_each-2.new.self put-back c.put_field.ensures.text put-front

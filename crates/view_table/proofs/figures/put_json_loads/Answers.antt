use Rattle.std.proofs.Common.{◌∙◌, List, ◌++◌, ℕ, codes, ap}
use Rattle.criteria.specs.Judgement.{read}
use Rattle.view_table.specs.Tables.{array, least_member}
use Rattle.view_table.proofs.TextLemmas.{three}
use Rattle.view_table.proofs.figures.put_json_loads.Goals as goal

pub returns : goal.returns
returns c =
    let j = c.args.judged.now in
    let f = read j.figures in
    let shear = codes ",\"shear_kg\":" ++ array f.shear j.frames in
    let bending = codes ",\"bending_kgmm\":" ++ array f.bending j.frames in
    let put-bending = c.put_array.ensures.text ∙ (λ i. (codes ",\"bending_kgmm\":" ++ array (λ k. c.widened-bending.ensures k i) j.frames) ++ c.put_least.new.end) in
    let put-shear = c.put_array-2.ensures.text ∙ (λ i. (codes ",\"shear_kg\":" ++ array (λ k. c.widened-shear.ensures k i) j.frames) ++ c.put_array.new.end) in
    put-shear
    ∙ ap (λ (t : List ℕ). shear ++ t) (put-bending ∙ ap (λ (t : List ℕ). bending ++ t) c.put_least.ensures.text)
    ∙ three shear bending (least_member j.least_gm) c.args.end.now

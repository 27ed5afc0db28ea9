use Rattle.std.proofs.Common.{rules, ◌∙◌, ◌-◌, List, ◌∷◌, ◌++◌, ℕ, map, ap, FitsSigned, to_z-of_z}
use Rattle.std.specs.Int.{w128}
use Rattle.std.specs.Fmt.{signed_decimal}
use Rattle.decimal_text.specs.Numbers.{pairs_up_to}
use Rattle.criteria.specs.Judgement.{read}
use Rattle.seq_report.specs.Columns.{columns, figure_of}
use Rattle.view_table.specs.Tables.{field, fields}
use Rattle.view_table.proofs.TextLemmas.{four}
use Rattle.view_table.proofs.figures.put_numbers.Goals as goal

pub returns : goal.returns
returns c =
    let j = c.args.judged.now in
    let f = read j.figures in
    let fits : FitsSigned w128 j.kg = search rules in
    let kg = 44 ∷ signed_decimal j.kg in
    let figures = fields (map (figure_of f) columns) in
    let loads = 44 ∷ pairs_up_to 44 44 f.shear f.bending (j.frames - 1) in
    c.put_parted.ensures.text ∙ (λ i. (44 ∷ signed_decimal (to_z-of_z fits i)) ++ c.put_columns.new.end)
    ∙ ap (λ (t : List ℕ). kg ++ t) (c.put_columns.ensures.text ∙ ap (λ (t : List ℕ). figures ++ t) c.put_loads.ensures.text)
    ∙ four kg figures loads (field j.least_gm) c.args.end.now

use Rattle.std.proofs.Common.{◌≡◌, ◌++◌, OnOk, string_bytes, subst, sym}
use Rattle.view_table.specs.declared.forms.Form.{Form}
use Rattle.view_table.specs.Tables.{statement_by, told}
use Rattle.view_table.proofs.figures.add_told.Goals as goal

pub returns-in-Csv : goal.returns-in-Csv
returns-in-Csv c =
    let j = c.args.judged.now in
    λ k. subst (λ (form : Form). OnOk c.add_csv.result (string_bytes c.add_csv.new.text ≡ string_bytes c.args.text.now ++ told form (statement_by k j) j.least_gm)) (sym c.in-Csv.is) (c.add_csv.ensures k)

pub returns-in-Jsonl : goal.returns-in-Jsonl
returns-in-Jsonl c =
    let j = c.args.judged.now in
    λ k. subst (λ (form : Form). OnOk c.add_json.result (string_bytes c.add_json.new.text ≡ string_bytes c.args.text.now ++ told form (statement_by k j) j.least_gm)) (sym c.in-Jsonl.is) (c.add_json.ensures k)

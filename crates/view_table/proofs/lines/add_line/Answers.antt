use Rattle.std.proofs.Common.{◌∙◌, List, ◌++◌, ℕ, string_bytes, ap, refl}
use Rattle.view_table.specs.Tables.{start, statement_by, told}
use Rattle.view_table.proofs.TextLemmas.{behind_four}
use Rattle.view_table.proofs.lines.add_line.Goals as goal

pub returns : goal.returns
returns c =
    let j = c.args.judged.now in
    let form = c.args.source.now.form in
    let front = start form c.args.k in
    let step = c.as_str.result.now in
    let said = told form (statement_by c.args.k j) j.least_gm in
    let others = c.as_str-2.result.now in
    let begun = c.in_ok-add_start.ensures in
    let led = c.in_ok-push_str.ensures.bytes ∙ ap (λ (t : List ℕ). t ++ step) begun in
    let judged = c.in_ok-add_told.ensures c.args.k ∙ ap (λ (t : List ℕ). t ++ said) led in
    let whole = c.in_ok-push_str-2.ensures.bytes ∙ ap (λ (t : List ℕ). t ++ others) judged in
    (front ++ (step ++ (said ++ others)), record { step = step; least = j.least_gm; others = others; whole = refl }, whole ∙ behind_four (string_bytes c.args.text.now) front step said others)

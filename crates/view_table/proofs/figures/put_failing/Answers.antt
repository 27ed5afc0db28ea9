use Rattle.std.proofs.Common.{◌∙◌, List, ◌++◌, ℕ, ap, sym, append_assoc}
use Rattle.criteria.specs.Judgement.{read}
use Rattle.view_table.specs.Tables.{json_failure, json_loads}
use Rattle.view_table.proofs.figures.put_failing.Goals as goal

pub returns : goal.returns
returns c =
    let j = c.args.judged.now in
    let loads = json_loads j.frames (read j.figures) j.least_gm in
    c.put_json_loads.ensures ∙ ap (λ (t : List ℕ). loads ++ t) c.put_failure.ensures.text ∙ sym (append_assoc loads (json_failure c.args.code.now) c.args.end.now)

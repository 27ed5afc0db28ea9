use Rattle.std.proofs.Common.{subst, sym}
use Rattle.std.proofs.lemmas.Result.{IfErr-weaker, IfOk-weaker}
use Rattle.view_program.specs.declared.words.View.{View}
use Rattle.view_program.specs.Shown.{IsShown, IsTextBy}
use Rattle.view_program.proofs.serving.texts_to.Goals as goal

pub returns-in-Summary-clause-shown : goal.returns-in-Summary-clause-shown
returns-in-Summary-clause-shown g c =
    let line = c.args.line in
    IfOk-weaker c.summary_to.result _ _
    (λ status h. (h.0, (h.1.0, h.1.1, subst (λ (view : View). IsShown (IsTextBy view line.condition line.form) h.1.0 status h.0) (sym c.in-Summary.is) h.1.2), h.2)) c.summary_to.ensures.shown

pub returns-in-Explain-clause-shown : goal.returns-in-Explain-clause-shown
returns-in-Explain-clause-shown g c =
    let line = c.args.line in
    IfOk-weaker c.explanation_to.result _ _
    (λ status h. (h.0, (c.inputs-inputs.result, c.inputs-inputs.ensures, subst (λ (view : View). IsShown (IsTextBy view line.condition line.form) c.inputs-inputs.result status h.0) (sym c.in-Explain.is) h.1), h.2))
    c.explanation_to.ensures.shown

pub returns-in-Explain-clause-stopped : goal.returns-in-Explain-clause-stopped
returns-in-Explain-clause-stopped g c = IfErr-weaker c.explanation_to.result _ _ (λ stop h. (c.inputs-inputs.result, c.inputs-inputs.ensures, h)) c.explanation_to.ensures.stopped

pub returns-in-Table-clause-shown : goal.returns-in-Table-clause-shown
returns-in-Table-clause-shown g c =
    let line = c.args.line in
    IfOk-weaker c.table_to.result _ _
    (λ status h. (h.0, (h.1.0, h.1.1, subst (λ (view : View). IsShown (IsTextBy view line.condition line.form) h.1.0 status h.0) (sym c.in-Table.is) h.1.2), h.2)) c.table_to.ensures.shown

pub returns-in-Page-clause-shown : goal.returns-in-Page-clause-shown
returns-in-Page-clause-shown g c =
    let line = c.args.line in
    IfOk-weaker c.page_to.result _ _
    (λ status h. (h.0, (h.1.0, h.1.1, subst (λ (view : View). IsShown (IsTextBy view line.condition line.form) h.1.0 status h.0) (sym c.in-Page.is) h.1.2), h.2)) c.page_to.ensures.shown

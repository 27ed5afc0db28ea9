use Rattle.std.proofs.Common.{◌∙◌, sym}
use Rattle.std.proofs.lemmas.Result.{IfErr-weaker, on_ok_weaker}
use Rattle.csv_text.proofs.ReadingLemmas.{gave_one, gave_none}
use Rattle.stow_messages.proofs.StepLemmas.{under-none, under-other, under-heading}
use Rattle.stow_messages.proofs.step_files.add_all.Goals as goal

pub returns-then-not-branch-clause-ok : goal.returns-then-not-branch-clause-ok
returns-then-not-branch-clause-ok c rest has = under-none _ _ rest (gave_none _ _ _ _ c.if-not-branch.true (c.in_ok-read.ensures.ok rest has)) c.requires.none

pub returns-then-len-ne-FIELDS-clause-refused : goal.returns-then-len-ne-FIELDS-clause-refused
returns-then-len-ne-FIELDS-clause-refused c rest has m =
    let gave = gave_one _ _ _ _ c.if-not-branch.false (c.in_ok-read.ensures.ok rest has) in
    under-other _ _ _ _ gave.1 _ (λ e. c.if-len-ne-FIELDS.true (c.len.ensures ∙ e)) c.fault_at.ensures

pub returns-clause-ok : goal.returns-clause-ok
returns-clause-ok c =
    on_ok_weaker c.add_records.result (λ h rest has.
    let gave = gave_one _ _ _ _ c.if-not-branch.false (c.in_ok-read.ensures.ok rest has) in
    under-heading _ _ _ _ gave.1 _ (sym c.len.ensures ∙ c.if-len-ne-FIELDS.false) c.requires.none ∙ h gave.0 gave.2) c.add_records.ensures.ok

pub returns-clause-refused : goal.returns-clause-refused
returns-clause-refused c =
    IfErr-weaker c.add_records.result _ _ (λ e h rest has m.
    let gave = gave_one _ _ _ _ c.if-not-branch.false (c.in_ok-read.ensures.ok rest has) in
    under-heading _ _ _ _ gave.1 _ (sym c.len.ensures ∙ c.if-len-ne-FIELDS.false) c.requires.none ∙ h gave.0 gave.2 m) c.add_records.ensures.refused

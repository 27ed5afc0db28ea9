use Rattle.std.proofs.Common.{◌∙◌, sym}
use Rattle.csv_text.proofs.ReadingLemmas.{gave_one, gave_none}
use Rattle.units_core.proofs.OutcomeLemmas.{lift_ok, lift_err}
use Rattle.ship_tables.proofs.ReadLemmas.{read_of-heading, read_of-other, read_of-none}
use Rattle.ship_tables.specs.Tables.{form_of}
use Rattle.ship_tables.proofs.reading.read_all.Goals as goal

pub returns-then-not-branch-clause-ok : goal.returns-then-not-branch-clause-ok
returns-then-not-branch-clause-ok c =
    lift_ok c.finish.result c.finish.ensures.ok (λ g h rest has.
    read_of-none (form_of c.args.layout.now) rest (gave_none _ _ _ _ c.if-not-branch.true (c.in_ok-found_record.ensures.ok rest has)) ∙ (rw c.nothing_gathered.ensures.value at h))

pub returns-then-not-branch-clause-refused : goal.returns-then-not-branch-clause-refused
returns-then-not-branch-clause-refused c =
    lift_err c.finish.result c.finish.ensures.refused (λ e h m rest has.
    read_of-none (form_of c.args.layout.now) rest (gave_none _ _ _ _ c.if-not-branch.true (c.in_ok-found_record.ensures.ok rest has)) ∙ (rw c.nothing_gathered.ensures.value at h))

pub returns-then-len-layout-clause-refused : goal.returns-then-len-layout-clause-refused
returns-then-len-layout-clause-refused c _ rest has =
    let gave = gave_one _ _ _ _ c.if-not-branch.false (c.in_ok-found_record.ensures.ok rest has) in
    read_of-other (form_of c.args.layout.now) _ _ _ gave.1 (λ e. c.if-len-layout.true (c.len.ensures ∙ e))

pub returns-clause-ok : goal.returns-clause-ok
returns-clause-ok c =
    lift_ok c.read_rest.result c.read_rest.ensures.ok (λ v h rest has.
    let gave = gave_one _ _ _ _ c.if-not-branch.false (c.in_ok-found_record.ensures.ok rest has) in
    read_of-heading (form_of c.args.layout.now) _ _ _ gave.1 (sym c.len.ensures ∙ c.if-len-layout.false) ∙ h gave.0 gave.2)

pub returns-clause-refused : goal.returns-clause-refused
returns-clause-refused c =
    lift_err c.read_rest.result c.read_rest.ensures.refused (λ e h m rest has.
    let gave = gave_one _ _ _ _ c.if-not-branch.false (c.in_ok-found_record.ensures.ok rest has) in
    read_of-heading (form_of c.args.layout.now) _ _ _ gave.1 (sym c.len.ensures ∙ c.if-len-layout.false) ∙ h m gave.0 gave.2)

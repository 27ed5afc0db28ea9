use Rattle.std.proofs.Common.{◌≡◌, ◌∙◌, None, ap, subst, sym}
use Rattle.std.specs.Bool.{OnTrue}
use Rattle.std.specs.Option.{option_map, option_or}
use Rattle.step_edits.specs.declared.faults.EditFault.TheVariants.{Sequence}
use Rattle.step_edits.specs.Edits.{edit_fault, edited}
use Rattle.port_call.specs.Grounds.{list_fault}
use Rattle.what_if.specs.Sessions.{Summed}
use Rattle.what_if.proofs.summed_lists.SummedList.edit.Goals as goal

pub edit_in_place-requires : goal.edit_in_place-requires
edit_in_place-requires c =
    let same = c.ops.ensures ∙ ap (λ (v : Summed). v.ops) c.self.view_is in
    ap (λ l. edit_fault l c.args.edit.now) (sym same) ∙ sym c.fault_of.ensures.exact ∙ c.in_default.is

pub returns-in-Ok-true-clause-made : goal.returns-in-Ok-true-clause-made
returns-in-Ok-true-clause-made c =
    let now = c.args.self.now in
    let edit = c.args.edit.now in
    let same = c.ops.ensures ∙ ap (λ (v : Summed). v.ops) c.self.view_is in
    let own : edit_fault now.ops edit ≡ None = ap (λ l. edit_fault l edit) (sym same) ∙ sym c.fault_of.ensures.exact ∙ c.in_default.is in
    let after = c.edit_in_place.new.self in
    let made = subst (λ b. OnTrue b (after.ops ≡ edited now.ops edit)) c.in-Ok-true.field-0-test c.in-Ok-true.ensures.ops in
    let legal = subst (λ b. OnTrue b (list_fault now.base after.ops ≡ None)) c.in-Ok-true.field-0-test c.in-Ok-true.ensures.legal in
    let list : list_fault now.base (edited now.ops edit) ≡ None = ap (list_fault now.base) (sym made) ∙ legal in
    ((λ i. option_or (own i) (option_map Sequence (list i))), made)

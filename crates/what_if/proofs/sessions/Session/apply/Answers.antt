use Rattle.std.proofs.Common.{◌≡◌, ◌∙◌, ◌∷◌, None, take, ap, subst, sym}
use Rattle.std.specs.Option.{option_map}
use Rattle.step_edits.specs.declared.faults.EditFault.TheVariants.{Sequence}
use Rattle.step_edits.specs.Edits.{edit_fault, edited, inverse}
use Rattle.port_call.specs.Grounds.{list_fault}
use Rattle.what_if.specs.Sessions.{IsPast, SessionRecord, past_of, refusal}
use Rattle.what_if.proofs.PastLemmas.{kept_after, own_none, past_after}
use Rattle.what_if.proofs.sessions.Session.apply.Goals as goal

pub invariant_of-self-2 : goal.invariant_of-self-2
invariant_of-self-2 c =
    let base = c.self.inside.list.base in
    let ops = c.self.inside.list.ops in
    let edit = c.args.edit in
    let can : edit_fault ops edit ≡ None = own_none (edit_fault ops edit) (option_map Sequence (list_fault base (edited ops edit))) c.in_ok-edit.ensures.made.0 in
    let back = c.inverse-back.ensures ∙ ap (λ l. inverse l edit) c.ops.ensures.list in
    subst (λ b. IsPast b c.edit.new.self.ops c.push_front.new.self) (sym c.in_ok-edit.ensures.base)
    (subst (λ l. IsPast base l c.push_front.new.self) (sym c.in_ok-edit.ensures.made.1)
    (kept_after base ops edit can c.self.inside.past c.push_front.new.self c.inverse-back.result back c.self.invariant c.push_front.ensures.items c.ops.ensures.legal))

pub returns-clause-made : goal.returns-clause-made
returns-clause-made c =
    let base = c.self.inside.list.base in
    let ops = c.self.inside.list.ops in
    let edit = c.args.edit in
    let can : edit_fault ops edit ≡ None = own_none (edit_fault ops edit) (option_map Sequence (list_fault base (edited ops edit))) c.in_ok-edit.ensures.made.0 in
    let back = c.inverse-back.ensures ∙ ap (λ l. inverse l edit) c.ops.ensures.list in (
      ap (λ (v : SessionRecord). refusal v.base v.ops edit) (sym c.self.view_is) ∙ c.in_ok-edit.ensures.made.0,
      c.in_ok-edit.ensures.made.1 ∙ ap (λ (v : SessionRecord). edited v.ops edit) c.self.view_is,
      ap (λ l. past_of l c.push_front.new.self.items) c.in_ok-edit.ensures.made.1
          ∙ past_after base ops edit can c.self.inside.past c.push_front.new.self c.inverse-back.result back c.self.invariant c.push_front.ensures.items
          ∙ ap (λ (v : SessionRecord). take 64 (v.ops ∷ v.past)) c.self.view_is,
    )

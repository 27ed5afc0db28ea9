use Rattle.std.proofs.Common.{◌≡◌, ◌∙◌, ◌-◌, IfOk, ap, subst, sym}
use Rattle.std.specs.Bool.{OnTrue}
use Rattle.lift_sequence.specs.Independent.{moved}
use Rattle.step_edits.specs.Edits.{edit_fault, edited}
use Rattle.what_if.proofs.MoveLemmas.{is_moved}
use Rattle.what_if.proofs.summed_lists.SummedList.edit_in_place.Goals as goal

pub returns-in-Move-clause-ops : goal.returns-in-Move-clause-ops
returns-in-Move-clause-ops c =
    let ops = c.args.self.now.ops in
    let from = c.in-Move.from in
    let to = c.in-Move.to in
    let is : moved ops (from - 1) (to - 1) ≡ edited ops c.args.edit.now
    = is_moved ops from to (ap (edit_fault ops) (sym c.in-Move.is) ∙ c.requires) ∙ ap (edited ops) (sym c.in-Move.is) in
    subst (λ l. IfOk c.carry.result (λ did. OnTrue did (c.carry.new.self.ops ≡ l))) is c.carry.ensures.ops

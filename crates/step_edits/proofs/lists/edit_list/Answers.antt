use Rattle.std.proofs.Common.{subst, sym}
use Rattle.step_edits.specs.Edits.{CanBeDone}
use Rattle.step_edits.proofs.EditLemmas.{can_be_done}
use Rattle.step_edits.proofs.lists.edit_list.Goals as goal

pub perform-requires-clause-can : goal.perform-requires-clause-can
perform-requires-clause-can c =
    subst (λ ops. CanBeDone ops c.args.edit.now) (sym c.in_ok-copy.ensures.list) (can_be_done c.args.ops.now c.args.edit.now c.requires)

use Rattle.std.proofs.Common.{subst, sym, refl}
use Rattle.view_curves.specs.Decimation.{EndsWith, IsAdded}
use Rattle.view_curves.proofs.Additions.{added_before, added_behind, is_not}
use Rattle.view_curves.proofs.decimation.add.Goals as goal

pub returns-then-ends_with : goal.returns-then-ends_with
returns-then-ends_with c = added_before c.args.k c.args.drawn.now.items (subst (EndsWith c.args.k) c.deref.ensures.value (c.if-ends_with.ensures.0 refl))

pub returns : goal.returns
returns c =
    let items = c.args.drawn.now.items in
    subst (IsAdded c.args.k items) (sym c.in_ok-push.ensures.items)
    (added_behind c.args.k items (λ ends. is_not (c.if-ends_with.ensures.1 (subst (EndsWith c.args.k) (sym c.deref.ensures.value) ends))))

use Rattle.std.proofs.Common.{◌∙◌, ap, refl, sym}
use Rattle.std.specs.Prelude.{option_copied}
use Rattle.what_if.specs.Sessions.{SessionRecord}
use Rattle.what_if.proofs.PastLemmas.{none_kept}
use Rattle.what_if.proofs.sessions.Session.undo.Goals as goal

pub returns-in_default-clause-none : goal.returns-in_default-clause-none
returns-in_default-clause-none c =
    λ f. (
      sym (ap (λ (v : SessionRecord). v.past) c.self.view_is)
          ∙ none_kept c.self.inside.list.base c.self.inside.list.ops c.self.inside.past.items (sym c.front.ensures ∙ ap (λ o. option_copied o) c.in_default.is),
      refl,
    )

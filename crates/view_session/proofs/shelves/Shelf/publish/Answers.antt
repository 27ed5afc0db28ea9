use Rattle.std.proofs.Common.{◌≡◌, ◌∙◌, sym, ap, subst}
use Rattle.what_if.specs.Desks.{list_of}
use Rattle.what_if.specs.Sessions.{SessionRecord}
use Rattle.view_session.specs.declared.shelves.Kept.{Kept}
use Rattle.view_session.specs.Kept.{kept_of}
use Rattle.view_session.specs.Shelves.{AreTrails, ShelfRecord}
use Rattle.view_session.specs.Trails.{texts_of}
use Rattle.view_session.proofs.ShelfLemmas.{copies_led, trails_on}
use Rattle.view_session.proofs.shelves.Shelf.publish.Goals as goal

pub returns-clause-trails : goal.returns-clause-trails
returns-clause-trails g c = λ from trails trail.
    let tried = c.args.tried.now in
    let base = c.self.inside.desk.base in
    let new : Kept = record { ticket = c.in_ok-ticket.ticket; lines = c.in_ok-lines.lines } in
    let same : base ≡ tried.session.base = ap (λ (s : ShelfRecord). s.base) c.self.view_is ∙ sym c.requires in
    let lines : texts_of new.lines.items ≡ tried.lines = c.in_ok-lines.ensures ∙ c.lines.ensures in
    let ops : list_of new.ticket ≡ tried.session.ops = c.in_ok-ticket.ensures.1 ∙ ap (λ (s : SessionRecord). s.ops) c.session.ensures in
    trails_on base from c.self.inside.kept.items c.push.new.self.items new c.in_ok-push.ensures.items (subst (AreTrails from) (sym c.self.view_is) trails)
    (copies_led base from tried (kept_of new).lines (kept_of new).ops same lines ops trail)

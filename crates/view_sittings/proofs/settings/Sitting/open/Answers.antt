use Rattle.std.proofs.Common.{◌∙◌, Option, IfSome, ap, sym, subst}
use Rattle.view_session.specs.Shelves.{AreTrails, IsOpened, published}
use Rattle.view_session.specs.Trails.{IsTrail, TriedRecord}
use Rattle.view_sittings.proofs.SittingLemmas.{opened_base}
use Rattle.view_sittings.proofs.settings.Sitting.open.Goals as goal

pub returns : goal.returns
returns g c = record {
  from = λ base from h.
      let tried = c.in-Some.tried in
      let shelf = c.args.self.shelf in
      let kept = published shelf.kept c.unwrap_or-place.result in
      let opened = subst (λ (o : Option TriedRecord). IsOpened shelf kept o) c.in-Some.is c.in_ok-tried.ensures.opened in
      let trail = subst (λ (o : Option TriedRecord). IfSome o (IsTrail from)) c.in-Some.is (c.in_ok-tried.ensures.trail from h.2) in (
        ap (λ (t : TriedRecord). t.session.base) c.in_ok-next.ensures.0 ∙ (opened_base shelf kept tried opened ∙ (sym c.args.self.base ∙ h.0)),
        subst (IsTrail from) (sym c.in_ok-next.ensures.0) trail,
        subst (AreTrails from) (sym c.in_ok-next.ensures.1) h.2,
      );
}

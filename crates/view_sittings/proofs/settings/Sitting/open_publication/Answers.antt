use Rattle.std.proofs.Common.{◌≡◌, ◌∙◌, List, Option, Result, IfOk, IfSome, ap, sym, subst}
use Rattle.lift_sequence.specs.declared.operations.Op.{Op}
use Rattle.view_session.specs.Shelves.{AreTrails, IsOpened, published}
use Rattle.view_session.specs.Trails.{IsTrail, TriedRecord}
use Rattle.view_sittings.specs.declared.publications.Unfit.{Unfit}
use Rattle.view_sittings.proofs.SittingLemmas.{opened_base}
use Rattle.view_sittings.proofs.settings.Sitting.open_publication.Goals as goal

pub returns : goal.returns
returns g c = record {
  from = λ base from h.
      let start = c.in-Some.start in
      let shelf = c.args.self.shelf in
      let kept = published shelf.kept 1 in
      let opened = subst (λ (o : Option TriedRecord). IsOpened shelf kept o) c.in-Some.is c.in_ok-start.ensures.opened in
      let trail = subst (λ (o : Option TriedRecord). IfSome o (IsTrail from)) c.in-Some.is (c.in_ok-start.ensures.trail from h.2) in
      let now =
      subst
      (λ (r : Result TriedRecord Unfit). IfOk r (λ (t : TriedRecord). (t.session.base ≡ start.session.base) × ((o : List Op) → IsTrail o start → IsTrail o t)))
      c.in-Ok.is
      c.in_ok-opened.ensures in (
        ap (λ (t : TriedRecord). t.session.base) c.in_ok-next.ensures.0 ∙ (now.0 ∙ (opened_base shelf kept start opened ∙ (sym c.args.self.base ∙ h.0))),
        subst (IsTrail from) (sym c.in_ok-next.ensures.0) (now.1 from trail),
        subst (AreTrails from) (sym c.in_ok-next.ensures.1) h.2,
      );
}

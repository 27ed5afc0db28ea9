use Rattle.std.proofs.Common.{rules, ◌∙◌, [], Option, IfSome, sym, ap, subst}
use Rattle.view_session.specs.Shelves.{AreTrails, IsOpened, KeptRecord, ShelfRecord, published}
use Rattle.view_session.specs.Trails.{IsTrail, TriedRecord}
use Rattle.view_session.proofs.ShelfLemmas.{opened_last}
use Rattle.view_session.proofs.tries.Tried.without_past.Goals as goal

pub returns-clause-base : goal.returns-clause-base
returns-clause-base g c =
    let self = c.args.self.now in
    let kept : KeptRecord = record { ops = self.session.ops; lines = self.lines } in
    let shelf = c.publish.new.self in
    let opened = subst (λ (o : Option TriedRecord). IsOpened shelf (published shelf.kept c.in_ok-number.number) o) c.in-Some.is c.in_ok-tried.ensures.opened in
    let is = opened_last c.in_ok-shelf.shelf shelf kept c.in_ok-number.number c.in-Some.tried (ap (λ (s : ShelfRecord). s.kept) c.in_ok-shelf.ensures) c.in_ok-number.ensures.kept c.in_ok-number.ensures.number opened in
    is.0 ∙ (c.publish.ensures.base ∙ ap (λ (s : ShelfRecord). s.base) c.in_ok-shelf.ensures)

pub returns-clause-list : goal.returns-clause-list
returns-clause-list g c =
    let self = c.args.self.now in
    let kept : KeptRecord = record { ops = self.session.ops; lines = self.lines } in
    let shelf = c.publish.new.self in
    let opened = subst (λ (o : Option TriedRecord). IsOpened shelf (published shelf.kept c.in_ok-number.number) o) c.in-Some.is c.in_ok-tried.ensures.opened in
    (opened_last c.in_ok-shelf.shelf shelf kept c.in_ok-number.number c.in-Some.tried (ap (λ (s : ShelfRecord). s.kept) c.in_ok-shelf.ensures) c.in_ok-number.ensures.kept c.in_ok-number.ensures.number opened).1

pub returns-clause-past : goal.returns-clause-past
returns-clause-past g c =
    let self = c.args.self.now in
    let kept : KeptRecord = record { ops = self.session.ops; lines = self.lines } in
    let shelf = c.publish.new.self in
    let opened = subst (λ (o : Option TriedRecord). IsOpened shelf (published shelf.kept c.in_ok-number.number) o) c.in-Some.is c.in_ok-tried.ensures.opened in
    (opened_last c.in_ok-shelf.shelf shelf kept c.in_ok-number.number c.in-Some.tried (ap (λ (s : ShelfRecord). s.kept) c.in_ok-shelf.ensures) c.in_ok-number.ensures.kept c.in_ok-number.ensures.number opened).2

pub returns-clause-lines : goal.returns-clause-lines
returns-clause-lines g c =
    let self = c.args.self.now in
    let kept : KeptRecord = record { ops = self.session.ops; lines = self.lines } in
    let shelf = c.publish.new.self in
    let opened = subst (λ (o : Option TriedRecord). IsOpened shelf (published shelf.kept c.in_ok-number.number) o) c.in-Some.is c.in_ok-tried.ensures.opened in
    (opened_last c.in_ok-shelf.shelf shelf kept c.in_ok-number.number c.in-Some.tried (ap (λ (s : ShelfRecord). s.kept) c.in_ok-shelf.ensures) c.in_ok-number.ensures.kept c.in_ok-number.ensures.number opened).3

pub returns-clause-trail : goal.returns-clause-trail
returns-clause-trail g c = λ from trail.
    let empty : ShelfRecord = record { base = c.args.self.now.session.base; kept = [] } in
    let none : AreTrails from empty = search rules in
    let trails = c.publish.ensures.trails from (subst (AreTrails from) (sym c.in_ok-shelf.ensures) none) trail in
    subst (λ (o : Option TriedRecord). IfSome o (IsTrail from)) c.in-Some.is (c.in_ok-tried.ensures.trail from trails)

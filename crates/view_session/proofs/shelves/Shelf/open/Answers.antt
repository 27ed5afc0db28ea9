use Rattle.std.proofs.Common.{◌≡◌, ◌∙◌, ℕ, List, [], Some, suc, map, length, slice_get, Option, refl, sym, ap, subst, arith}
use Rattle.std.proofs.lemmas.Option.{slice_get_read}
use Rattle.what_if.specs.Desks.{list_of}
use Rattle.view_session.specs.declared.shelves.Kept.{Kept}
use Rattle.view_session.specs.Kept.{kept_of}
use Rattle.view_session.specs.Shelves.{AreTrails, IsOpened, KeptRecord, ShelfRecord, published}
use Rattle.view_session.specs.Trails.{IsTrail, TriedRecord, texts_of}
use Rattle.view_session.proofs.ShelfLemmas.{published_at, trail_at}
use Rattle.view_session.proofs.shelves.Shelf.open.Goals as goal

pub returns-clause-opened : goal.returns-clause-opened
returns-clause-opened c =
    let items = c.self.inside.kept.items in
    let shelf : ShelfRecord = record { base = c.self.inside.desk.base; kept = map kept_of items } in
    let place = c.in-Some.place in
    let kept = c.in-Some-get.kept.now in
    let found = c.in-Some-get.ensures.lookup in
    let xs = c.deref.result.now in
    let here : slice_get items place ≡ Some kept =
    subst (λ (ks : List Kept). slice_get ks place ≡ Some kept) c.deref.ensures.value (slice_get_read xs (length xs) place kept refl found.3.0 found.1) in
    let number : c.args.number ≡ suc place = omega (arith, c.in-Some.ensures) in
    let tried : TriedRecord = record { session = record { base = shelf.base; ops = list_of kept.ticket; past = []; joins = 0 }; lines = texts_of kept.lines.items } in
    let lines : texts_of c.in_ok-lines.lines.items ≡ tried.lines = c.in_ok-lines.ensures ∙ ap texts_of c.deref-2.ensures.value in
    let is : c.with.result ≡ tried = c.with.ensures ∙ (λ i. record { session = c.in_ok-session.ensures i; lines = lines i }) in
    subst
    (λ (s : ShelfRecord). IsOpened s (published s.kept c.args.number) (Some c.with.result))
    c.self.view_is
    (subst
    (λ (o : Option KeptRecord). IsOpened shelf o (Some c.with.result))
    (sym (published_at items c.args.number place kept number here))
    (subst (λ (t : TriedRecord). IsOpened shelf (Some (kept_of kept)) (Some t)) (sym is) (refl, refl, refl, refl)))

pub returns-clause-trail : goal.returns-clause-trail
returns-clause-trail c = λ from trails.
    let items = c.self.inside.kept.items in
    let base = c.self.inside.desk.base in
    let place = c.in-Some.place in
    let kept = c.in-Some-get.kept.now in
    let found = c.in-Some-get.ensures.lookup in
    let xs = c.deref.result.now in
    let here : slice_get items place ≡ Some kept =
    subst (λ (ks : List Kept). slice_get ks place ≡ Some kept) c.deref.ensures.value (slice_get_read xs (length xs) place kept refl found.3.0 found.1) in
    let tried : TriedRecord = record { session = record { base = base; ops = list_of kept.ticket; past = []; joins = 0 }; lines = texts_of kept.lines.items } in
    let lines : texts_of c.in_ok-lines.lines.items ≡ tried.lines = c.in_ok-lines.ensures ∙ ap texts_of c.deref-2.ensures.value in
    let is : c.with.result ≡ tried = c.with.ensures ∙ (λ i. record { session = c.in_ok-session.ensures i; lines = lines i }) in
    subst (IsTrail from) (sym is) (trail_at base from items place kept here (subst (AreTrails from) (sym c.self.view_is) trails))

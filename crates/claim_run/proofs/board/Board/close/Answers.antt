use Rattle.claim_board.proofs.Tells.{fair, least_posted}
use Rattle.claim_run.specs.Board.{entries_of}
use Rattle.claim_run.proofs.Told.{fair_same, least_same, same_posts}
use Rattle.claim_run.proofs.board.Board.close.Goals as goal

pub returns-clause-numbers : goal.returns-clause-numbers
returns-clause-numbers g c =
    let inner = c.args.self.inner in
    let scout = inner.table.shared.key.scout.value in
    let hand = c.args.hand in
    fair_same c.close.result.0 hand.pending hand.seat.me.0.entries (fair (g.S.Scout.begins scout) (g.S.Scout.finds scout) inner.pieces c.close.ensures)

pub returns-clause-least : goal.returns-clause-least
returns-clause-least g c =
    let inner = c.args.self.inner in
    let scout = inner.table.shared.key.scout.value in
    let begin = g.S.Scout.begins scout in
    let find = g.S.Scout.finds scout in
    let hand = c.args.hand in
    let es = hand.seat.me.0.entries in
    least_same es (entries_of hand) (λ f. same_posts begin find f hand.pending es c.requires.hand.own.settles) c.close.result.1 (least_posted begin find inner.pieces c.close.ensures)

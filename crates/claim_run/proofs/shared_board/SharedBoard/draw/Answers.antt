use Rattle.std.proofs.Common.{rules, subst}
use Rattle.claim_run.specs.declared.views.Pending.{Pending}
use Rattle.claim_run.specs.Hands.{MayEnd}
use Rattle.claim_run.proofs.Moves.{draws, skip_draws, work_draws}
use Rattle.claim_run.proofs.shared_board.SharedBoard.draw.Goals as goal

pub fetch_add-found-requires : goal.fetch_add-found-requires
fetch_add-found-requires g c =
    let key = c.args.self.now.table.shared.key in
    let me = c.args.hand.now.seat.me in
    (c.requires.hand.table, search rules, draws (g.S.Scout.begins key.scout.value) (g.S.Scout.finds key.scout.value) key.pieces key.workers _ _ me c.args.self.now.sized.2 c.requires.free)

pub fetch_add-found-requires-in-Skip : goal.fetch_add-found-requires-in-Skip
fetch_add-found-requires-in-Skip g c =
    let key = c.args.self.now.table.shared.key in
    let me = c.args.hand.now.seat.me in
    let begin = g.S.Scout.begins key.scout.value in
    let find = g.S.Scout.finds key.scout.value in
    let h = subst (λ (l : Pending). MayEnd begin find l me.0.entries) c.in-Skip.is c.requires.hand.settles in
    (c.requires.hand.table, search rules, skip_draws begin find key.pieces key.workers _ _ me h.0 h.1 h.2 h.3 h.4 c.args.self.now.sized.2 c.requires.free)

pub fetch_add-found-requires-in-Work : goal.fetch_add-found-requires-in-Work
fetch_add-found-requires-in-Work g c =
    let key = c.args.self.now.table.shared.key in
    let me = c.args.hand.now.seat.me in
    let begin = g.S.Scout.begins key.scout.value in
    let find = g.S.Scout.finds key.scout.value in
    let h = subst (λ (l : Pending). MayEnd begin find l me.0.entries) c.in-Work.is c.requires.hand.settles in
    (c.requires.hand.table, search rules, work_draws begin find key.pieces key.workers _ _ me h.0 h.1 h.2 h.3 h.4.0 h.4.1 c.args.self.now.sized.2 c.requires.free)

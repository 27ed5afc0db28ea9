use Rattle.std.proofs.Common.{rules, refl}
use Rattle.claim_board.specs.Entries.{fresh}
use Rattle.claim_run.specs.Shared.{tail}
use Rattle.claim_run.proofs.Moves.{looks}
use Rattle.claim_run.proofs.shared_board.SharedBoard.least.Goals as goal

pub load-requires : goal.load-requires
load-requires g c =
    let key = c.args.self.now.table.shared.key in
    let me = c.args.hand.now.seat.me in
    let drawn = c.requires.drawn in
    (c.requires.seat, search rules, looks (g.S.Scout.begins key.scout.value) (g.S.Scout.finds key.scout.value) key.pieces key.workers _ _ me (fresh c.args.number) (tail me.0.entries) drawn.newest refl drawn.low drawn.staffed)

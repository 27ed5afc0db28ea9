use Rattle.std.proofs.Common.{rules}
use Rattle.claim_run.proofs.Moves.{splits}
use Rattle.claim_run.proofs.shared_board.SharedBoard.split.Goals as goal

pub split_seat-seat-requires : goal.split_seat-seat-requires
split_seat-seat-requires g c =
    let key = c.args.self.now.table.shared.key in
    (c.requires.seat, search rules, splits (g.S.Scout.begins key.scout.value) (g.S.Scout.finds key.scout.value) key.pieces key.workers _ c.args.hand.now.seat.me.0 c.requires.free.0 c.requires.free.1)

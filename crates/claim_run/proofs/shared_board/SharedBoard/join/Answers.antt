use Rattle.std.proofs.Common.{rules}
use Rattle.claim_run.proofs.Moves.{joins}
use Rattle.claim_run.proofs.shared_board.SharedBoard.join.Goals as goal

pub join_seat-requires : goal.join_seat-requires
join_seat-requires g c =
    let key = c.args.self.now.table.shared.key in
    (c.requires.seats.0, c.requires.seats.1, c.requires.seats.2, search rules, joins (g.S.Scout.begins key.scout.value) (g.S.Scout.finds key.scout.value) key.pieces key.workers _ c.args.hand.now.seat.me.0 _ c.args.other.seat.me.0)

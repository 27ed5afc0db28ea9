use Rattle.std.proofs.Common.{◌≡◌, []}
use Rattle.claim_board.specs.Entries.{Each}
use Rattle.claim_run.specs.Hands.{entries_with, IsFree, MayEnd}
use Rattle.claim_run.specs.Shared.{scout_in}
use Rattle.claim_run.specs.Runs.{IsOver, AreValues}
use Rattle.claim_run.proofs.work.work.Given as goal

abbrev pub invariant-next : goal.invariant-next
invariant-next g l =
    let begin = g.S.Scout.begins (scout_in l.board) in
    let find = g.S.Scout.finds (scout_in l.board) in
    let es = entries_with l.hand.pending l.hand.seat.me.0.entries in
    record {
      seat : (l.hand.seat.table_id ≡ l.board.table.shared.table_id) × (l.hand.seat.me.0.workers ≡ 1) × (l.hand.seat.me.1 ≡ []);
      free : IsFree l.board.table.shared.key.pieces l.hand.seat.me.0;
      settles : MayEnd begin find l.hand.pending l.hand.seat.me.0.entries;
      over : Each (IsOver begin find l.board.pieces) es;
      values : AreValues (g.J.Job.value l.job) l.board.pieces es l.values.items;
    }

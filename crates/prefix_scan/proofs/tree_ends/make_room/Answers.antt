use Rattle.std.proofs.Common.{arith, ◌<◌, length-set, set, below_more}
use Rattle.prefix_scan.specs.Rows.{spare_at}
use Rattle.prefix_scan.proofs.EndLemmas.{same_set, spare_at-set_other, spare_at-set_same}
use Rattle.prefix_scan.proofs.tree_ends.make_room.Goals as goal

pub returns-in_err-reserve-clause-same : goal.returns-in_err-reserve-clause-same
returns-in_err-reserve-clause-same g c =
    same_set c.args.rows.now c.loop-row.rows c.loop-row.row-index c.row-item.result c.reserve.new.self c.loop-row.invariant.same (omega arith) c.reserve.ensures.items

pub loop-row-preserved : goal.loop-row-preserved
loop-row-preserved g c =
    let l = c.loop-row.row-index in
    let inv = c.loop-row.invariant in
    let rows = c.loop-row.rows in
    let after = c.reserve.new.self in
    let same = spare_at-set_same rows l after (omega arith) in
    record {
      same = same_set c.args.rows.now rows l c.row-item.result after inv.same (omega arith) c.reserve.ensures.items;
      room = below_more (λ k. 0 < spare_at (set rows l after) k) l
          (λ k h. let other = spare_at-set_other rows l k after (λ e. absurd (omega arith)) in omega (arith, other, inv.room k h))
          (omega (arith, same, c.in_ok-reserve.ensures.ok));
      within = omega (arith, length-set rows l after);
    }

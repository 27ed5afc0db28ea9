use Rattle.std.proofs.Common.{arith}
use Rattle.prefix_scan.proofs.CutLemmas.{every_done}
use Rattle.prefix_scan.proofs.divisions.every_end.Goals as goal

pub returns : goal.returns
returns c =
    let inv = c.next.invariant in
    rw c.in_ok-push-2.ensures.items (every_done c.args.n c.args.len c.next.at c.next.ends.items c.requires.0 inv.place inv.short (omega arith) inv.each)

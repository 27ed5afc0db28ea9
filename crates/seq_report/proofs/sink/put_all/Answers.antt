use Rattle.std.proofs.Common.{rules, ◌≡◌, ℕ, ◌+◌, ◌-◌, ◌≤◌, length, take, drop, List, ◌++◌, arith}
use Rattle.std.proofs.KnownBytes.{Appends-trans}
use Rattle.std.proofs.lemmas.Grind.{common_steps}
use Rattle.std.proofs.Math.Seq.{take-add}
use Rattle.seq_report.proofs.sink.put_all.Goals as goal

-- the front of the whole, and then the front of the rest
fronts : (bs : List ℕ) (i n : ℕ) → i ≤ length bs → take (i + n) bs ≡ take i bs ++ take n (take (length bs - i) (drop i bs))
fronts bs i n h =
    let whole : take (length bs - i) (drop i bs) ≡ drop i bs = grind (arith, common_steps) in
    rw whole (take-add i n bs)

pub loop-taken-preserved : goal.loop-taken-preserved
loop-taken-preserved g c =
    let bs = c.args.bytes.now in
    let step = Appends-trans _ _ _ _ _ c.loop-taken.invariant.2 c.in-Ok.ensures.bytes in
    (omega (arith, c.in-Ok.ensures.most), search rules, rw (fronts bs c.loop-taken.taken c.in-Ok.more c.loop-taken.invariant.0) step)

use Rattle.std.proofs.Common.{rules, arith, ◌≡◌, ◌<◌, ◌+◌, ◌*◌, length, get_or, ap, suc, refl}
use Rattle.std.proofs.lemmas.List.{take_more}
use Rattle.std.proofs.lemmas.Grind.{common_steps}
use Rattle.prefix_scan.specs.Rows.{paired}
use Rattle.prefix_scan.proofs.PairLemmas.{two-weight, paired-at, length-paired}
use Rattle.prefix_scan.proofs.tree_rows.row_above.Goals as goal

pub join-requires : goal.join-requires
join-requires g c =
    let m = g.M.Monoid in
    let row = c.args.row.now in
    let d = m.empty in
    let i = 2 * c.loop-k.k in
    let low : i + 1 < length row = omega arith in
    let a : c.index-row-k.result ≡ get_or row i d = search (rules, common_steps) in
    let b : c.index-row-k-in-loop-k.result ≡ get_or row (i + 1) d = search (rules, common_steps) in
    omega (arith, two-weight g.met.M.Monoid.laws d row i low, ap m.weight a, ap m.weight b, c.requires)

pub loop-k-preserved : goal.loop-k-preserved
loop-k-preserved g c =
    let m = g.M.Monoid in
    let row = c.args.row.now in
    let d = m.empty in
    let k = c.loop-k.k in
    let low : 2 * k + 1 < length row = omega arith in
    let a : c.index-row-k.result ≡ get_or row (2 * k) d = search (rules, common_steps) in
    let b : c.index-row-k-in-loop-k.result ≡ get_or row (2 * k + 1) d = search (rules, common_steps) in
    let here : get_or (paired m.op row) k d ≡ m.op (get_or row (2 * k) d) (get_or row (suc (2 * k)) d) = paired-at m.op d row k (2 * k) refl low in
    let next : get_or row (suc (2 * k)) d ≡ get_or row (2 * k + 1) d = let e : suc (2 * k) ≡ 2 * k + 1 = omega arith in ap (λ n. get_or row n d) e in
    let more = take_more (paired m.op row) k d (omega (arith, length-paired m.op row)) in
    let pushed = c.in_ok-push.ensures.items in
    let joined = c.join.ensures in
    let inv = c.loop-k.invariant in
    cc

pub returns : goal.returns
returns g c = let n = length-paired g.M.Monoid.op c.args.row.now in grind (arith, common_steps, c.loop-k.invariant)

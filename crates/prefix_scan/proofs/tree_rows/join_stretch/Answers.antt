use Rattle.std.proofs.Common.{rules, arith, ◌≡◌, ◌∙◌, ◌<◌, ◌+◌, ◌-◌, ◌*◌, ◌^◌, length, set, get_or, ap, sym, suc, refl, below_more, length-set, get_or-set_same, get_or-set_other}
use Rattle.std.proofs.lemmas.Grind.{common_steps}
use Rattle.prefix_scan.specs.Rows.{paired}
use Rattle.prefix_scan.proofs.HeightLemmas.{count_rises}
use Rattle.prefix_scan.proofs.PairLemmas.{two-weight, paired-at}
use Rattle.prefix_scan.proofs.tree_rows.join_stretch.Goals as goal

pub counted_join-requires : goal.counted_join-requires
counted_join-requires g c =
    let m = g.M.Monoid in
    let row = c.args.row.now in
    let d = m.empty in
    let i = 2 * (c.args.at + c.loop-k.k) in
    let low : i + 1 < length row = omega arith in
    let a : c.index-row-left.result ≡ get_or row i d = search (rules, common_steps) in
    let b : c.index-row-left-in-loop-k.result ≡ get_or row (i + 1) d = search (rules, common_steps) in
    omega (arith, two-weight g.met.M.Monoid.laws d row i low, ap m.weight a, ap m.weight b, c.requires.sizes)

pub loop-k-preserved : goal.loop-k-preserved
loop-k-preserved g c =
    let m = g.M.Monoid in
    let row = c.args.row.now in
    let d = m.empty in
    let k = c.loop-k.k in
    let place = c.args.at + k in
    let i = 2 * place in
    let low : i + 1 < length row = omega arith in
    let a : c.index-row-left.result ≡ get_or row i d = search (rules, common_steps) in
    let b : c.index-row-left-in-loop-k.result ≡ get_or row (i + 1) d = search (rules, common_steps) in
    let here : get_or (paired m.op row) place d ≡ m.op (get_or row i d) (get_or row (suc i) d) = paired-at m.op d row place i refl low in
    let next : suc i ≡ i + 1 = omega arith in
    let joined : c.counted_join.result ≡ get_or (paired m.op row) place d = c.counted_join.ensures.value ∙ (λ j. m.op (a j) (b j)) ∙ ap (λ n. m.op (get_or row i d) (get_or row n d)) (sym next) ∙ sym here in
    let values = c.loop-k.values in
    let inv = c.loop-k.invariant in
    record {
      long = length-set values k c.counted_join.result ∙ inv.long;
      joined = below_more (λ j. get_or (set values k c.counted_join.result) j d ≡ get_or (paired m.op row) (c.args.at + j) d) k
          (λ j lower. get_or-set_other values k j c.counted_join.result d (λ e. absurd (omega (arith, e, lower))) ∙ inv.joined j lower)
          (get_or-set_same values k c.counted_join.result d (omega (arith, inv.long, c.loop-k-test.true, c.requires.some)) ∙ joined);
      grows = omega (arith, inv.grows, c.counted_join.ensures.bound);
      cost = omega (arith, inv.cost, c.counted_join.ensures.bound);
      counted = λ some low. count_rises c.args.count.now c.loop-k.count c.counted_join.new.count (2 ^ 64 - 1) inv.grows low c.counted_join.ensures.one_more c.counted_join.ensures.bound.0;
    }

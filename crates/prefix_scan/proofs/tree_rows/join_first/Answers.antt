use Rattle.std.proofs.Common.{arith, ◌-◌, ◌^◌, ◌≡◌, ◌<◌, ℕ, ◌+◌, ◌*◌, length, take, ◌/◌, get_or, ap, ◌∙◌, sym, subst, List, [], suc}
use Rattle.std.proofs.lemmas.List.{get_or_default}
use Rattle.std.specs.List.{fold}
use Rattle.prefix_scan.specs.Rows.{paired, lifted, first_row}
use Rattle.prefix_scan.proofs.HeightLemmas.{count_rises, half_below, odd_inside}
use Rattle.prefix_scan.proofs.ReachLemmas.{Reached, reached_first, reached_end, reached_even, reached_odd, reached_odd-fits}
use Rattle.prefix_scan.proofs.RowLemmas.{row_at-is}
use Rattle.prefix_scan.proofs.tree_rows.join_first.Goals as goal
use Rattle.prefix_scan.proofs.tree_rows.join_first.Goals.{then-at-eq1, else-at-eq1}

pub loop-row-init : goal.loop-row-init
loop-row-init g c =
    let m = g.M.Monoid in
    let xs = first_row c.args.rows.now in
    record {
      reached = subst (λ (a : _). Reached g.met.M.Monoid.laws xs c.args.i a (fold m.op m.empty (take c.args.i xs))) (sym c.unit-after.ensures) (reached_first g.met.M.Monoid.laws xs c.args.i c.requires.within c.requires.sizes);
      grows = omega arith;
      cost = omega arith;
      few = λ k low. (let same : k ≡ k - 0 = omega arith in subst (λ n. c.args.i < 2 ^ n) same low, omega arith);
      within = omega arith;
      counted = λ some low. omega arith;
    }

pub index-requires : goal.index-requires
index-requires g c =
    let rows = c.args.rows.now in
    let l = c.loop-row.row-index in
    let is = sym (row_at-is rows l c.row-item.result c.loop-row-test.true) ∙ c.requires.rows.each l c.loop-row-test.true in
    let items : c.row-item.result.items ≡ lifted g.M.Monoid.op l (first_row rows) = ap (λ (v : _). v.items) c.row-item.is ∙ is in
    omega (arith, c.loop-row.invariant.reached.within, ap length items, c.row-item.result.ok)

pub counted_join-after-requires : goal.counted_join-after-requires
counted_join-after-requires g c =
    let m = g.M.Monoid in
    let rows = c.args.rows.now in
    let l = c.loop-row.row-index in
    let at = c.loop-row.at in
    let row = lifted m.op l (first_row rows) in
    let reached = c.loop-row.invariant.reached in
    let is = sym (row_at-is rows l c.row-item.result c.loop-row-test.true) ∙ c.requires.rows.each l c.loop-row-test.true in
    let items : c.row-item.result.items ≡ row = ap (λ (v : _). v.items) c.row-item.is ∙ is in
    let half : at - 1 ≡ 2 * (at / 2) = omega arith in
    let read : c.index.result.now ≡ get_or row (2 * (at / 2)) m.empty = c.index.ensures ∙ get_or_default c.row-item.result.items (at - 1) c.index.result.now m.empty (omega (arith, reached.within, ap length items)) ∙ ap (λ (t : List g.row.M.Denot × ℕ). get_or t.0 t.1 m.empty) (λ i. (items i, half i)) in
    omega (arith, reached_odd-fits g.met.M.Monoid.laws row at (at / 2) c.loop-row.after (fold m.op m.empty (take c.args.i (first_row rows))) (omega arith) reached, ap m.weight read)

pub loop-row-preserved : goal.loop-row-preserved
loop-row-preserved g c =
    let m = g.M.Monoid in
    let rows = c.args.rows.now in
    let l = c.loop-row.row-index in
    let at = c.loop-row.at in
    let h = at / 2 in
    let row = lifted m.op l (first_row rows) in
    let answer = fold m.op m.empty (take c.args.i (first_row rows)) in
    let inv = c.loop-row.invariant in
    let reached = inv.reached in
    let is = sym (row_at-is rows l c.row-item.result c.loop-row-test.true) ∙ c.requires.rows.each l c.loop-row-test.true in
    let items : c.row-item.result.items ≡ row = ap (λ (v : _). v.items) c.row-item.is ∙ is in
    let up : lifted m.op (l + 1) (first_row rows) ≡ paired m.op row = let e : l + 1 ≡ suc l = omega arith in ap (λ n. lifted m.op n (first_row rows)) e in
    elim c.if-at-eq1.branch [
      | then-at-eq1 w ↦
          let half : at - 1 ≡ 2 * h = omega arith in
          let read : w.index.result.now ≡ get_or row (2 * h) m.empty = w.index.ensures ∙ get_or_default c.row-item.result.items (at - 1) w.index.result.now m.empty (omega (arith, reached.within, ap length items)) ∙ ap (λ (t : List g.row.M.Denot × ℕ). get_or t.0 t.1 m.empty) (λ i. (items i, half i)) in
          let after : m.op (get_or row (2 * h) m.empty) c.loop-row.after ≡ c.if-at-eq1.after = ap (λ x. m.op x c.loop-row.after) (sym read) ∙ sym w.counted_join-after.ensures.value ∙ sym w.after-is in
          record {
            reached = subst (λ (t : List g.row.M.Denot × g.row.M.Denot). Reached g.met.M.Monoid.laws t.0 h t.1 answer) (λ i. (sym up i, after i)) (reached_odd g.met.M.Monoid.laws row at h c.loop-row.after answer (omega arith) reached);
            grows = omega arith;
            cost = omega arith;
            few = λ k low. let f = inv.few k low in let inside = odd_inside at k l (omega arith) f.0 in (half_below at k l f.0, omega arith);
            within = omega arith;
            counted = λ some low. let more = count_rises c.args.count.now c.loop-row.count w.counted_join-after.new.count (2 ^ 64 - 1) inv.grows low w.counted_join-after.ensures.one_more w.counted_join-after.ensures.bound.0 in omega arith;
          }
      | else-at-eq1 w ↦
          record {
            reached = subst (λ (t : List g.row.M.Denot × g.row.M.Denot). Reached g.met.M.Monoid.laws t.0 h t.1 answer) (λ i. (sym up i, sym w.after-is i)) (reached_even g.met.M.Monoid.laws row at h c.loop-row.after answer (omega arith) reached);
            grows = omega arith;
            cost = omega arith;
            few = λ k low. let f = inv.few k low in (half_below at k l f.0, let c = f.1 in omega arith);
            within = omega arith;
            counted = λ some low. let more = inv.counted some low in omega arith;
          }
    ]

pub returns-clause-value : goal.returns-clause-value
returns-clause-value g c =
    let m = g.M.Monoid in
    let rows = c.args.rows.now in
    let all : c.loop-row.row-index ≡ length rows = omega arith in
    let none : lifted m.op c.loop-row.row-index (first_row rows) ≡ [] = ap (λ n. lifted m.op n (first_row rows)) all ∙ c.requires.rows.done in
    reached_end g.met.M.Monoid.laws c.loop-row.at c.loop-row.after (fold m.op m.empty (take c.args.i (first_row rows))) (subst (λ (k : List g.row.M.Denot). Reached g.met.M.Monoid.laws k c.loop-row.at c.loop-row.after (fold m.op m.empty (take c.args.i (first_row rows)))) none c.loop-row.invariant.reached)

pub returns-clause-few : goal.returns-clause-few
returns-clause-few g c = λ k low. let f = c.loop-row.invariant.few k low in let most = f.1 in omega arith

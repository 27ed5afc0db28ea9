use Rattle.std.proofs.Common.{arith, ◌-◌, ◌^◌, ◌≡◌, suc, ◌+◌, ◌*◌, ◌/◌, ◌<◌, length, ap, ◌∙◌, sym, refl, List, below_more, length-set, set, get_or}
use Rattle.std.proofs.lemmas.List.{get_or_default}
use Rattle.std.specs.Vec.{with_item}
use Rattle.prefix_scan.specs.Rows.{paired, lifted, row_at, first_row}
use mathlib.Core.Logic.{dite}
use native.Mathlib.Decide.{ℕ_discrete}
use Rattle.prefix_scan.proofs.HeightLemmas.{count_rises}
use Rattle.prefix_scan.proofs.PairLemmas.{paired-set, paired-alone, two-weight, lifted-weight, length-paired}
use Rattle.prefix_scan.proofs.RowLemmas.{row_at-is, row_at-set_same, row_at-set_other, renewed}
use Rattle.prefix_scan.proofs.tree_rows.replace.Goals as goal

pub index_mut-requires : goal.index_mut-requires
index_mut-requires g c =
    let m = g.M.Monoid in
    let l = c.loop-row.row-index in
    let inv = c.loop-row.invariant in
    let d = c.row-item.result in
    let row = get_or c.loop-row.rows l d in
    let items : row.items ≡ lifted m.op l (first_row c.args.rows.now) = sym (row_at-is c.loop-row.rows l d (omega arith)) ∙ inv.above l (omega arith) ∙ c.requires.rows.each l c.loop-row-test.true in
    omega (arith, inv.at_within, ap length items, row.ok)

pub returns-then-left-len-clause-rows : goal.returns-then-left-len-clause-rows
returns-then-left-len-clause-rows g c =
    let m = g.M.Monoid in
    let l = c.loop-row.row-index in
    let inv = c.loop-row.invariant in
    let d = c.row-item.result in
    let at = c.loop-row.at in
    let v = c.loop-row.value in
    let old = c.args.rows.now in
    let xs = first_row old in
    let new = set xs c.args.i c.args.value in
    let row = get_or c.loop-row.rows l d in
    let items : row.items ≡ lifted m.op l xs = sym (row_at-is c.loop-row.rows l d (omega arith)) ∙ inv.above l (omega arith) ∙ c.requires.rows.each l c.loop-row-test.true in
    let rows = set c.loop-row.rows l (with_item row at v) in
    let mine : row_at rows l ≡ lifted m.op l new = row_at-set_same c.loop-row.rows l (with_item row at v) (omega arith) ∙ ap (λ (k : List g.row.M.Denot). set k at v) items ∙ sym inv.here in
    let up : (zs : List g.row.M.Denot) → lifted m.op (l + 1) zs ≡ paired m.op (lifted m.op l zs) = λ zs. let e : l + 1 ≡ suc l = omega arith in ap (λ n. lifted m.op n zs) e in
    let alone = paired-alone m.op v (lifted m.op l xs) at (omega (arith, c.if-left-len.true, c.len.ensures, row.ok, ap length items)) in
    (renewed m.op old rows new l c.requires.rows (length-set c.loop-row.rows l (with_item row at v) ∙ inv.same_length) (length-set xs c.args.i c.args.value) c.loop-row-test.true
    (below_more (λ k. row_at rows k ≡ lifted m.op k new) l (λ k h. row_at-set_other c.loop-row.rows l k (with_item row at v) (λ e. absurd (omega arith)) ∙ inv.below k h) mine)
    (λ k h. row_at-set_other c.loop-row.rows l k (with_item row at v) (λ e. absurd (omega arith)) ∙ inv.above k (omega arith))
    (up xs ∙ sym alone ∙ ap (paired m.op) (sym inv.here) ∙ sym (up new))).0

pub returns-then-left-len-clause-counted : goal.returns-then-left-len-clause-counted
returns-then-left-len-clause-counted g c more low =
    let m = g.M.Monoid in
    let l = c.loop-row.row-index in
    let inv = c.loop-row.invariant in
    let d = c.row-item.result in
    let xs = first_row c.args.rows.now in
    let row = get_or c.loop-row.rows l d in
    let items : row.items ≡ lifted m.op l xs = sym (row_at-is c.loop-row.rows l d (omega arith)) ∙ inv.above l (omega arith) ∙ c.requires.rows.each l c.loop-row-test.true in
    dite (ℕ_discrete l 0)
    (λ none.
    let first : length (lifted m.op l xs) ≡ length xs = ap (λ n. length (lifted m.op n xs)) none in
    absurd (omega (arith, inv.first none, c.if-left-len.true, c.len.ensures, row.ok, ap length items, first, more)))
    (λ some. inv.counted (omega arith) low)

pub counted_join-value-requires : goal.counted_join-value-requires
counted_join-value-requires g c =
    let m = g.M.Monoid in
    let laws = g.met.M.Monoid.laws in
    let l = c.loop-row.row-index in
    let inv = c.loop-row.invariant in
    let d = c.row-item.result in
    let at = c.loop-row.at in
    let left = at / 2 * 2 in
    let v = c.loop-row.value in
    let xs = first_row c.args.rows.now in
    let new = set xs c.args.i c.args.value in
    let row = get_or c.loop-row.rows l d in
    let items : row.items ≡ lifted m.op l xs = sym (row_at-is c.loop-row.rows l d (omega arith)) ∙ inv.above l (omega arith) ∙ c.requires.rows.each l c.loop-row-test.true in
    let mine : set row.items at v ≡ lifted m.op l new = ap (λ (k : List g.row.M.Denot). set k at v) items ∙ sym inv.here in
    let size = ap length mine in
    let low : left + 1 < length (lifted m.op l new) = omega (arith, c.if-left-len.false, c.len.ensures, row.ok, size, length-set row.items at v) in
    let a : c.index.result.now ≡ get_or (lifted m.op l new) left m.empty = c.index.ensures ∙ get_or_default (set row.items at v) left c.index.result.now m.empty (omega (arith, size)) ∙ ap (λ (k : List g.row.M.Denot). get_or k left m.empty) mine in
    let b : c.index-in-loop-row.result.now ≡ get_or (lifted m.op l new) (left + 1) m.empty = c.index-in-loop-row.ensures ∙ get_or_default (set row.items at v) (left + 1) c.index-in-loop-row.result.now m.empty (omega (arith, size)) ∙ ap (λ (k : List g.row.M.Denot). get_or k (left + 1) m.empty) mine in
    omega (arith, two-weight laws m.empty (lifted m.op l new) left low, lifted-weight laws l new c.requires.sizes, ap m.weight a, ap m.weight b)

pub loop-row-preserved : goal.loop-row-preserved
loop-row-preserved g c =
    let m = g.M.Monoid in
    let l = c.loop-row.row-index in
    let inv = c.loop-row.invariant in
    let d = c.row-item.result in
    let at = c.loop-row.at in
    let left = at / 2 * 2 in
    let v = c.loop-row.value in
    let old = c.args.rows.now in
    let xs = first_row old in
    let new = set xs c.args.i c.args.value in
    let row = get_or c.loop-row.rows l d in
    let items : row.items ≡ lifted m.op l xs = sym (row_at-is c.loop-row.rows l d (omega arith)) ∙ inv.above l (omega arith) ∙ c.requires.rows.each l c.loop-row-test.true in
    let rows = set c.loop-row.rows l (with_item row at v) in
    let mine : set row.items at v ≡ lifted m.op l new = ap (λ (k : List g.row.M.Denot). set k at v) items ∙ sym inv.here in
    let here : row_at rows l ≡ lifted m.op l new = row_at-set_same c.loop-row.rows l (with_item row at v) (omega arith) ∙ mine in
    let up : (zs : List g.row.M.Denot) → lifted m.op (l + 1) zs ≡ paired m.op (lifted m.op l zs) = λ zs. let e : l + 1 ≡ suc l = omega arith in ap (λ n. lifted m.op n zs) e in
    let size = ap length items in
    let low : left + 1 < length (lifted m.op l xs) = omega (arith, c.if-left-len.false, c.len.ensures, row.ok, size) in
    let a : c.index.result.now ≡ get_or (set (lifted m.op l xs) at v) left m.empty = c.index.ensures ∙ get_or_default (set row.items at v) left c.index.result.now m.empty (omega (arith, size, length-set row.items at v)) ∙ ap (λ (k : List g.row.M.Denot). get_or (set k at v) left m.empty) items in
    let b : c.index-in-loop-row.result.now ≡ get_or (set (lifted m.op l xs) at v) (left + 1) m.empty = c.index-in-loop-row.ensures ∙ get_or_default (set row.items at v) (left + 1) c.index-in-loop-row.result.now m.empty (omega (arith, size, length-set row.items at v)) ∙ ap (λ (k : List g.row.M.Denot). get_or (set k at v) (left + 1) m.empty) items in
    let joined : m.op (get_or (set (lifted m.op l xs) at v) left m.empty) (get_or (set (lifted m.op l xs) at v) (left + 1) m.empty) ≡ c.counted_join-value.result = (λ i. m.op (sym a i) (sym b i)) ∙ sym c.counted_join-value.ensures.value in
    let half = length-paired m.op (lifted m.op l xs) in
    let above_length = ap length (up xs) in
    record {
      below = below_more (λ k. row_at rows k ≡ lifted m.op k new) l (λ k h. row_at-set_other c.loop-row.rows l k (with_item row at v) (λ e. absurd (omega arith)) ∙ inv.below k h) here;
      above = λ k h. row_at-set_other c.loop-row.rows l k (with_item row at v) (λ e. absurd (omega arith)) ∙ inv.above k (omega arith);
      here = up new ∙ ap (paired m.op) inv.here ∙ paired-set m.op m.empty v (lifted m.op l xs) at left refl inv.at_within low ∙ (λ i. set (sym (up xs) i) (at / 2) (joined i));
      at_within = omega arith;
      same_length = length-set c.loop-row.rows l (with_item row at v) ∙ inv.same_length;
      grows = omega (arith, c.counted_join-value.ensures.bound);
      cost = omega (arith, c.counted_join-value.ensures.bound);
      within = omega (arith, length-set c.loop-row.rows l (with_item row at v));
      counted = λ some low. count_rises c.args.count.now c.loop-row.count c.counted_join-value.new.count (2 ^ 64 - 1) inv.grows low c.counted_join-value.ensures.one_more c.counted_join-value.ensures.bound.0;
      first = λ none. absurd (omega arith);
    }

pub returns-clause-few : goal.returns-clause-few
returns-clause-few g c =
    let m = g.M.Monoid in
    let inv = c.loop-row.invariant in
    let xs = first_row c.args.rows.now in
    let all : c.loop-row.row-index ≡ length c.args.rows.now = omega (arith, inv.within, inv.same_length, c.loop-row-test.false) in
    let none = ap length (ap (λ n. lifted m.op n xs) all ∙ c.requires.rows.done) in
    absurd (omega (arith, none, inv.at_within))

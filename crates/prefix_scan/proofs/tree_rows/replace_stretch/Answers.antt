use Rattle.std.proofs.Common.{rules, arith, ◌≡◌, refl, suc, ◌+◌, ◌-◌, ◌/◌, ◌^◌, ◌≤◌, ◌++◌, length, ap, ◌∙◌, sym, List, below_more, length-set, take, drop, get_or, set, subst, sum_by}
use Rattle.std.specs.Prelude.{min}
use Rattle.prefix_scan.specs.Rows.{paired, lifted, row_at, first_row, IsWritten}
use Rattle.prefix_scan.proofs.HeightLemmas.{count_goes_on, row_cost, rows_cost}
use Rattle.prefix_scan.proofs.PairLemmas.{lifted-weight, length-paired}
use Rattle.prefix_scan.proofs.RowLemmas.{row_at-is, row_at-set_same, row_at-set_other, renewed}
use Rattle.prefix_scan.proofs.StretchLemmas.{before_above, behind_above, length-lifted, length-with, same_above, with_before, with_behind, with_inside, written}
use mathlib.Core.Logic.{dite}
use native.Mathlib.Decide.{ℕ_discrete}
use Rattle.prefix_scan.proofs.tree_rows.replace_stretch.Goals as goal

pub loop-row-init : goal.loop-row-init
loop-row-init g c =
    let m = g.M.Monoid in
    let xs = first_row c.args.rows.now in
    let vs = c.args.values.now in
    let first = c.args.first in
    record {
      below = λ k h. absurd (omega (arith, h));
      above = λ k h. λ _. row_at c.args.rows.now k;
      here = record {
        long = length-with m.op m.empty xs vs first c.requires.within;
        inside = λ k h. with_inside m.op m.empty xs vs first c.requires.within k (omega (arith, h));
        before = with_before m.op m.empty xs vs first c.requires.within;
        behind = λ k h. with_behind m.op m.empty xs vs first c.requires.within k (omega (arith, h));
      };
      within = omega (arith, c.requires.within);
      more = search rules;
      some = omega arith;
      same_length = λ _. length c.args.rows.now;
      up_to = omega arith;
      fewer = omega arith;
      first = λ _. (refl, refl);
      grows = omega arith;
      cost = omega arith;
      counted = λ some. absurd (omega (arith, some));
    }

pub renew_row-above-requires-clause-within : goal.renew_row-above-requires-clause-within
renew_row-above-requires-clause-within g c =
    let m = g.M.Monoid in
    let l = c.loop-row.row-index in
    let inv = c.loop-row.invariant in
    let d = c.row-item.result in
    let at = c.loop-row.at in
    let len = c.loop-row.len in
    let old = c.args.rows.now in
    let xs = first_row old in
    let vs = c.args.values.now in
    let first = c.args.first in
    let new = take first xs ++ vs ++ drop (first + length vs) xs in
    let row = get_or c.loop-row.rows l d in
    let items : row.items ≡ lifted m.op l xs = sym (row_at-is c.loop-row.rows l d (omega arith)) ∙ inv.above l (omega arith) ∙ c.requires.rows.each l c.loop-row-test.true in
    omega (arith, inv.within, ap length items)

pub renew_row-above-requires-clause-sizes : goal.renew_row-above-requires-clause-sizes
renew_row-above-requires-clause-sizes g c =
    let m = g.M.Monoid in
    let l = c.loop-row.row-index in
    let inv = c.loop-row.invariant in
    let d = c.row-item.result in
    let at = c.loop-row.at in
    let len = c.loop-row.len in
    let old = c.args.rows.now in
    let xs = first_row old in
    let vs = c.args.values.now in
    let first = c.args.first in
    let new = take first xs ++ vs ++ drop (first + length vs) xs in
    let row = get_or c.loop-row.rows l d in
    let items : row.items ≡ lifted m.op l xs = sym (row_at-is c.loop-row.rows l d (omega arith)) ∙ inv.above l (omega arith) ∙ c.requires.rows.each l c.loop-row-test.true in
    λ z w. subst (λ (y : List g.row.M.Denot). sum_by m.weight y ≤ 2 ^ 19)
    (sym (written m.op m.empty (lifted m.op l xs) c.loop-row.values z (lifted m.op l new) at len (subst (λ (y : List g.row.M.Denot). IsWritten m.empty at len c.loop-row.values y z) items w) inv.here))
    (lifted-weight g.met.M.Monoid.laws l new c.requires.sizes)

pub returns-then-above-eq0-clause-rows : goal.returns-then-above-eq0-clause-rows
returns-then-above-eq0-clause-rows g c =
    let m = g.M.Monoid in
    let l = c.loop-row.row-index in
    let inv = c.loop-row.invariant in
    let d = c.row-item.result in
    let at = c.loop-row.at in
    let len = c.loop-row.len in
    let old = c.args.rows.now in
    let xs = first_row old in
    let vs = c.args.values.now in
    let first = c.args.first in
    let new = take first xs ++ vs ++ drop (first + length vs) xs in
    let row = get_or c.loop-row.rows l d in
    let items : row.items ≡ lifted m.op l xs = sym (row_at-is c.loop-row.rows l d (omega arith)) ∙ inv.above l (omega arith) ∙ c.requires.rows.each l c.loop-row-test.true in
    let after = c.renew_row-above.new.row in
    let long : length new ≡ length xs = length-with m.op m.empty xs vs first c.requires.within in
    let new_long = length-lifted m.op m.empty l new xs long in
    let is : after.items ≡ lifted m.op l new = written m.op m.empty (lifted m.op l xs) c.loop-row.values after.items (lifted m.op l new) at len
    (subst (λ (z : List g.row.M.Denot). IsWritten m.empty at len c.loop-row.values z after.items) items c.renew_row-above.ensures.written) inv.here in
    let rows = set c.loop-row.rows l after in
    let mine : row_at rows l ≡ lifted m.op l new = row_at-set_same c.loop-row.rows l after (omega arith) ∙ is in
    let up : (zs : List g.row.M.Denot) → lifted m.op (l + 1) zs ≡ paired m.op (lifted m.op l zs) = λ zs. let e : l + 1 ≡ suc l = omega arith in ap (λ n. lifted m.op n zs) e in
    let same = same_above m.op m.empty (lifted m.op l xs) (lifted m.op l new) at len new_long inv.here.before inv.here.behind (omega (arith, c.if-above-eq0.true, c.renew_row-above.ensures.few, ap length items)) in
    (renewed m.op old rows new l c.requires.rows (length-set c.loop-row.rows l after ∙ inv.same_length) long c.loop-row-test.true
    (below_more (λ k. row_at rows k ≡ lifted m.op k new) l (λ k h. row_at-set_other c.loop-row.rows l k after (λ e. absurd (omega arith)) ∙ inv.below k h) mine)
    (λ k h. row_at-set_other c.loop-row.rows l k after (λ e. absurd (omega arith)) ∙ inv.above k (omega arith))
    (up xs ∙ sym same ∙ sym (up new))).0

pub returns-then-above-eq0-clause-list : goal.returns-then-above-eq0-clause-list
returns-then-above-eq0-clause-list g c =
    let m = g.M.Monoid in
    let l = c.loop-row.row-index in
    let inv = c.loop-row.invariant in
    let d = c.row-item.result in
    let at = c.loop-row.at in
    let len = c.loop-row.len in
    let old = c.args.rows.now in
    let xs = first_row old in
    let vs = c.args.values.now in
    let first = c.args.first in
    let new = take first xs ++ vs ++ drop (first + length vs) xs in
    let row = get_or c.loop-row.rows l d in
    let items : row.items ≡ lifted m.op l xs = sym (row_at-is c.loop-row.rows l d (omega arith)) ∙ inv.above l (omega arith) ∙ c.requires.rows.each l c.loop-row-test.true in
    let after = c.renew_row-above.new.row in
    let long : length new ≡ length xs = length-with m.op m.empty xs vs first c.requires.within in
    let new_long = length-lifted m.op m.empty l new xs long in
    let is : after.items ≡ lifted m.op l new = written m.op m.empty (lifted m.op l xs) c.loop-row.values after.items (lifted m.op l new) at len
    (subst (λ (z : List g.row.M.Denot). IsWritten m.empty at len c.loop-row.values z after.items) items c.renew_row-above.ensures.written) inv.here in
    let rows = set c.loop-row.rows l after in
    let mine : row_at rows l ≡ lifted m.op l new = row_at-set_same c.loop-row.rows l after (omega arith) ∙ is in
    let up : (zs : List g.row.M.Denot) → lifted m.op (l + 1) zs ≡ paired m.op (lifted m.op l zs) = λ zs. let e : l + 1 ≡ suc l = omega arith in ap (λ n. lifted m.op n zs) e in
    let same = same_above m.op m.empty (lifted m.op l xs) (lifted m.op l new) at len new_long inv.here.before inv.here.behind (omega (arith, c.if-above-eq0.true, c.renew_row-above.ensures.few, ap length items)) in
    (renewed m.op old rows new l c.requires.rows (length-set c.loop-row.rows l after ∙ inv.same_length) long c.loop-row-test.true
    (below_more (λ k. row_at rows k ≡ lifted m.op k new) l (λ k h. row_at-set_other c.loop-row.rows l k after (λ e. absurd (omega arith)) ∙ inv.below k h) mine)
    (λ k h. row_at-set_other c.loop-row.rows l k after (λ e. absurd (omega arith)) ∙ inv.above k (omega arith))
    (up xs ∙ sym same ∙ sym (up new))).1

pub loop-row-preserved : goal.loop-row-preserved
loop-row-preserved g c =
    let m = g.M.Monoid in
    let l = c.loop-row.row-index in
    let inv = c.loop-row.invariant in
    let d = c.row-item.result in
    let at = c.loop-row.at in
    let len = c.loop-row.len in
    let old = c.args.rows.now in
    let xs = first_row old in
    let vs = c.args.values.now in
    let first = c.args.first in
    let new = take first xs ++ vs ++ drop (first + length vs) xs in
    let row = get_or c.loop-row.rows l d in
    let items : row.items ≡ lifted m.op l xs = sym (row_at-is c.loop-row.rows l d (omega arith)) ∙ inv.above l (omega arith) ∙ c.requires.rows.each l c.loop-row-test.true in
    let after = c.renew_row-above.new.row in
    let long : length new ≡ length xs = length-with m.op m.empty xs vs first c.requires.within in
    let new_long = length-lifted m.op m.empty l new xs long in
    let is : after.items ≡ lifted m.op l new = written m.op m.empty (lifted m.op l xs) c.loop-row.values after.items (lifted m.op l new) at len
    (subst (λ (z : List g.row.M.Denot). IsWritten m.empty at len c.loop-row.values z after.items) items c.renew_row-above.ensures.written) inv.here in
    let rows = set c.loop-row.rows l after in
    let mine : row_at rows l ≡ lifted m.op l new = row_at-set_same c.loop-row.rows l after (omega arith) ∙ is in
    let up : (zs : List g.row.M.Denot) → lifted m.op (l + 1) zs ≡ paired m.op (lifted m.op l zs) = λ zs. let e : l + 1 ≡ suc l = omega arith in ap (λ n. lifted m.op n zs) e in
    let half = length-paired m.op (lifted m.op l xs) in
    let above_length = ap length (up xs) in
    let above = c.renew_row-above.result in
    let count : above ≡ min ((at + len + 1) / 2) (length (lifted m.op l xs) / 2) - at / 2 = c.renew_row-above.ensures.few ∙ ap (λ n. min ((at + len + 1) / 2) (n / 2) - at / 2) (ap length items) in
    record {
      below = below_more (λ k. row_at rows k ≡ lifted m.op k new) l (λ k h. row_at-set_other c.loop-row.rows l k after (λ e. absurd (omega arith)) ∙ inv.below k h) mine;
      above = λ k h. row_at-set_other c.loop-row.rows l k after (λ e. absurd (omega arith)) ∙ inv.above k (omega arith);
      here = record {
        long = length-lifted m.op m.empty (l + 1) new xs long;
        inside = λ k h. ap (λ (z : List g.row.M.Denot). get_or z (at / 2 + k) m.empty) (up new ∙ ap (paired m.op) (sym is)) ∙ sym (c.renew_row-above.ensures.joined k h);
        before = λ k h. ap (λ (z : List g.row.M.Denot). get_or z k m.empty) (up new) ∙ before_above m.op m.empty (lifted m.op l xs) (lifted m.op l new) at len new_long inv.here.before inv.here.behind k h
            ∙ ap (λ (z : List g.row.M.Denot). get_or z k m.empty) (sym (up xs));
        behind = λ k h. ap (λ (z : List g.row.M.Denot). get_or z k m.empty) (up new)
            ∙ behind_above m.op m.empty (lifted m.op l xs) (lifted m.op l new) at len new_long inv.here.before inv.here.behind k (omega (arith, count, h, c.if-above-eq0.false))
            ∙ ap (λ (z : List g.row.M.Denot). get_or z k m.empty) (sym (up xs));
      };
      within = omega (arith, count, half, above_length, c.if-above-eq0.false);
      more = omega (arith, c.if-above-eq0.false);
      some = omega (arith, count, inv.some, inv.more, c.renew_row-above.ensures.long, c.if-above-eq0.false);
      same_length = length-set c.loop-row.rows l after ∙ inv.same_length;
      up_to = omega (arith, length-set c.loop-row.rows l after);
      fewer = omega (arith, inv.fewer, inv.more, c.renew_row-above.ensures.few);
      first = λ none. absurd (omega (arith, none));
      grows = omega (arith, inv.grows, c.renew_row-above.ensures.grows);
      cost = row_cost (length vs) l c.args.count.now c.loop-row.count c.renew_row-above.new.count inv.cost
          (omega (arith, inv.fewer, inv.more, c.renew_row-above.ensures.few, c.renew_row-above.ensures.cost));
      counted = λ _ low. count_goes_on c.args.count.now c.loop-row.count c.renew_row-above.new.count (2 ^ 64 - 1) inv.grows low (c.renew_row-above.ensures.counted (omega (arith, c.if-above-eq0.false))) c.renew_row-above.ensures.grows;
    }

pub returns-then-above-eq0-clause-few : goal.returns-then-above-eq0-clause-few
returns-then-above-eq0-clause-few g c =
    let inv = c.loop-row.invariant in
    rows_cost (length c.args.values.now) c.loop-row.row-index (length c.args.rows.now) c.args.count.now c.loop-row.count c.renew_row-above.new.count inv.cost
    (omega (arith, c.renew_row-above.ensures.cost, c.if-above-eq0.true)) (omega (arith, inv.same_length, c.loop-row-test.true))

pub returns-then-above-eq0-clause-counted : goal.returns-then-above-eq0-clause-counted
returns-then-above-eq0-clause-counted g c more low =
    let m = g.M.Monoid in
    let l = c.loop-row.row-index in
    let inv = c.loop-row.invariant in
    let xs = first_row c.args.rows.now in
    let row = get_or c.loop-row.rows l c.row-item.result in
    let items : row.items ≡ lifted m.op l xs = sym (row_at-is c.loop-row.rows l c.row-item.result (omega arith)) ∙ inv.above l (omega arith) ∙ c.requires.rows.each l c.loop-row-test.true in
    dite (ℕ_discrete l 0)
    (λ none.
    let first = inv.first none in
    let whole : length (lifted m.op l xs) ≡ length xs = ap (λ n. length (lifted m.op n xs)) none in
    absurd (omega (arith, first.0, first.1, more, whole, ap length items, c.requires.within, c.renew_row-above.ensures.few, c.if-above-eq0.true)))
    (λ some. let before = inv.counted (omega arith) low in omega (arith, before, c.renew_row-above.ensures.grows))

pub returns-clause-rows : goal.returns-clause-rows
returns-clause-rows g c =
    let m = g.M.Monoid in
    let inv = c.loop-row.invariant in
    let xs = first_row c.args.rows.now in
    let all : c.loop-row.row-index ≡ length c.args.rows.now = omega (arith, inv.up_to, inv.same_length, c.loop-row-test.false) in
    let none = ap length (ap (λ n. lifted m.op n xs) all ∙ c.requires.rows.done) in
    absurd (omega (arith, none, inv.within, inv.more))

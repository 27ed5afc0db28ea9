use Rattle.std.proofs.Common.{arith, ◌≡◌, ◌∙◌, suc, ◌+◌, ◌-◌, ◌%◌, ◌<◌, ◌++◌, [], ◌∷◌, List, length, length-append, length-set, set, get_or, ap, sym, below_more}
use Rattle.std.proofs.lemmas.List.{get_or_default}
use Rattle.prefix_scan.specs.Rows.{paired, lifted, row_at, first_row}
use Rattle.prefix_scan.proofs.EndLemmas.{grown, paired-alone_more, paired-pair_more, spare_at-is, spare_at-set_other}
use Rattle.prefix_scan.proofs.PairLemmas.{lifted-weight, two-weight}
use Rattle.prefix_scan.proofs.RowLemmas.{row_at-is, row_at-set_same, row_at-set_other}
use Rattle.prefix_scan.proofs.tree_ends.push_up.Goals as goal

pub push_reserved-requires : goal.push_reserved-requires
push_reserved-requires g c =
    let l = c.loop-row.row-index in
    let inv = c.loop-row.invariant in
    let rows = c.loop-row.rows in
    let spare = spare_at-is rows l c.row-item.result (omega arith) in
    omega (arith, spare, inv.room l (omega arith) (omega arith))

pub returns-then-len-eq1-clause-rows : goal.returns-then-len-eq1-clause-rows
returns-then-len-eq1-clause-rows g c =
    let m = g.M.Monoid in
    let l = c.loop-row.row-index in
    let inv = c.loop-row.invariant in
    let d = c.row-item.result in
    let v = c.loop-row.value in
    let old = c.args.rows.now in
    let xs = first_row old in
    let new = xs ++ c.args.value ∷ [] in
    let row = get_or c.loop-row.rows l d in
    let items : row.items ≡ lifted m.op l xs = sym (row_at-is c.loop-row.rows l d (omega arith)) ∙ inv.above l (omega arith) ∙ c.requires.rows.each l c.loop-row-test.true in
    let after = c.push_reserved.new.self in
    let rows = set c.loop-row.rows l after in
    let pushed : after.items ≡ lifted m.op l xs ++ v ∷ [] = c.push_reserved.ensures.items ∙ ap (λ (k : List g.row.M.Denot). k ++ v ∷ []) items in
    let mine : row_at rows l ≡ lifted m.op l new = row_at-set_same c.loop-row.rows l after (omega arith) ∙ pushed ∙ sym inv.here in
    let up : (zs : List g.row.M.Denot) → lifted m.op (l + 1) zs ≡ paired m.op (lifted m.op l zs) = λ zs. let e : l + 1 ≡ suc l = omega arith in ap (λ n. lifted m.op n zs) e in
    let even : length (lifted m.op l xs) % 2 ≡ 0 = omega (arith, ap length pushed, length-append (lifted m.op l xs) (v ∷ []), after.ok, c.len-len.ensures, c.if-len-eq1.true) in
    grown m.op old rows new l c.requires.rows (length-set c.loop-row.rows l after ∙ inv.same_length) (omega (arith, length-append xs (c.args.value ∷ []))) c.loop-row-test.true
    (below_more (λ k. row_at rows k ≡ lifted m.op k new) l (λ k h. row_at-set_other c.loop-row.rows l k after (λ e. absurd (omega arith)) ∙ inv.below k h) mine)
    (λ k h. row_at-set_other c.loop-row.rows l k after (λ e. absurd (omega arith)) ∙ inv.above k (omega arith))
    (up xs ∙ sym (paired-alone_more m.op (lifted m.op l xs) v even) ∙ ap (paired m.op) (sym inv.here) ∙ sym (up new))

pub join-value-requires : goal.join-value-requires
join-value-requires g c =
    let m = g.M.Monoid in
    let laws = g.met.M.Monoid.laws in
    let l = c.loop-row.row-index in
    let inv = c.loop-row.invariant in
    let d = c.row-item.result in
    let v = c.loop-row.value in
    let xs = first_row c.args.rows.now in
    let new = xs ++ c.args.value ∷ [] in
    let row = get_or c.loop-row.rows l d in
    let items : row.items ≡ lifted m.op l xs = sym (row_at-is c.loop-row.rows l d (omega arith)) ∙ inv.above l (omega arith) ∙ c.requires.rows.each l c.loop-row-test.true in
    let after = c.push_reserved.new.self in
    let mine : after.items ≡ lifted m.op l new = c.push_reserved.ensures.items ∙ ap (λ (k : List g.row.M.Denot). k ++ v ∷ []) items ∙ sym inv.here in
    let size = ap length mine in
    let i = c.len-len.result - 2 in
    let low : i + 1 < length (lifted m.op l new) = omega (arith, size, after.ok, c.len-len.ensures, c.if-len-eq1.false) in
    let a : c.index.result.now ≡ get_or (lifted m.op l new) i m.empty = c.index.ensures ∙ get_or_default after.items i c.index.result.now m.empty (omega (arith, size, low)) ∙ ap (λ (k : List g.row.M.Denot). get_or k i m.empty) mine in
    let next : c.len-len.result - 1 ≡ i + 1 = omega (arith, low, size, after.ok, c.len-len.ensures) in
    let b : c.index-in-loop-row.result.now ≡ get_or (lifted m.op l new) (i + 1) m.empty = c.index-in-loop-row.ensures ∙ get_or_default after.items (c.len-len.result - 1) c.index-in-loop-row.result.now m.empty (omega (arith, size, low, next)) ∙ (λ j. get_or (mine j) (next j) m.empty) in
    omega (arith, two-weight laws m.empty (lifted m.op l new) i low, lifted-weight laws l new c.requires.sizes, ap m.weight a, ap m.weight b)

pub loop-row-preserved : goal.loop-row-preserved
loop-row-preserved g c =
    let m = g.M.Monoid in
    let l = c.loop-row.row-index in
    let inv = c.loop-row.invariant in
    let d = c.row-item.result in
    let v = c.loop-row.value in
    let xs = first_row c.args.rows.now in
    let ys = lifted m.op l xs in
    let new = xs ++ c.args.value ∷ [] in
    let row = get_or c.loop-row.rows l d in
    let items : row.items ≡ ys = sym (row_at-is c.loop-row.rows l d (omega arith)) ∙ inv.above l (omega arith) ∙ c.requires.rows.each l c.loop-row-test.true in
    let after = c.push_reserved.new.self in
    let rows = set c.loop-row.rows l after in
    let pushed : after.items ≡ ys ++ v ∷ [] = c.push_reserved.ensures.items ∙ ap (λ (k : List g.row.M.Denot). k ++ v ∷ []) items in
    let size = ap length pushed in
    let more = length-append ys (v ∷ []) in
    let i = c.len-len.result - 2 in
    let last : suc i ≡ length ys = omega (arith, size, more, after.ok, c.len-len.ensures, c.if-len-eq1.false) in
    let odd : length ys % 2 ≡ 1 = omega (arith, size, more, after.ok, c.len-len.ensures, c.if-len-eq1.false) in
    let next : c.len-len.result - 1 ≡ suc i = omega (arith, last, size, more, after.ok, c.len-len.ensures) in
    let a : c.index.result.now ≡ get_or (ys ++ v ∷ []) i m.empty = c.index.ensures ∙ get_or_default after.items i c.index.result.now m.empty (omega (arith, size, more, last)) ∙ ap (λ (k : List g.row.M.Denot). get_or k i m.empty) pushed in
    let b : c.index-in-loop-row.result.now ≡ get_or (ys ++ v ∷ []) (suc i) m.empty = c.index-in-loop-row.ensures ∙ get_or_default after.items (c.len-len.result - 1) c.index-in-loop-row.result.now m.empty (omega (arith, size, more, last, next)) ∙ (λ j. get_or (pushed j) (next j) m.empty) in
    let joined : m.op (get_or (ys ++ v ∷ []) i m.empty) (get_or (ys ++ v ∷ []) (suc i) m.empty) ≡ c.join-value.result = (λ j. m.op (sym a j) (sym b j)) ∙ sym c.join-value.ensures in
    let up : (zs : List g.row.M.Denot) → lifted m.op (l + 1) zs ≡ paired m.op (lifted m.op l zs) = λ zs. let e : l + 1 ≡ suc l = omega arith in ap (λ n. lifted m.op n zs) e in
    record {
      below = below_more (λ k. row_at rows k ≡ lifted m.op k new) l (λ k h. row_at-set_other c.loop-row.rows l k after (λ e. absurd (omega arith)) ∙ inv.below k h)
          (row_at-set_same c.loop-row.rows l after (omega arith) ∙ pushed ∙ sym inv.here);
      above = λ k h. row_at-set_other c.loop-row.rows l k after (λ e. absurd (omega arith)) ∙ inv.above k (omega arith);
      room = λ k h low. let other = spare_at-set_other c.loop-row.rows l k after (λ e. absurd (omega arith)) in omega (arith, other, inv.room k (omega arith) (omega (arith, low, length-set c.loop-row.rows l after)));
      here = up new ∙ ap (paired m.op) inv.here ∙ paired-pair_more m.op m.empty ys v i last odd ∙ (λ j. sym (up xs) j ++ joined j ∷ []);
      same_length = length-set c.loop-row.rows l after ∙ inv.same_length;
      within = omega (arith, length-set c.loop-row.rows l after);
    }

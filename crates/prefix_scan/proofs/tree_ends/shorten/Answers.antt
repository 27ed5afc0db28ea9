use Rattle.std.proofs.Common.{arith, ◌≡◌, ◌∙◌, suc, ◌+◌, ◌*◌, ◌/◌, ◌^◌, ◌<◌, ◌≤◌, List, length, length-set, take, set, ap, sym, Vec, Global, lt_of_not-le, length-take-le, subst, below_more}
use mathlib.Core.Logic.{dite}
use native.Mathlib.Decide.{dec_le}
use Rattle.prefix_scan.specs.Rows.{paired, lifted, row_at, first_row}
use Rattle.prefix_scan.proofs.EndLemmas.{are_rows, paired-take, row_at-take}
use Rattle.prefix_scan.proofs.HeightLemmas.{grow_tall, grow_low}
use Rattle.prefix_scan.proofs.PairLemmas.{length-paired}
use Rattle.prefix_scan.proofs.RowLemmas.{row_at-is, row_at-set_same, row_at-set_other}
use Rattle.prefix_scan.proofs.tree_ends.shorten.Goals as goal

pub up-preserved : goal.up-preserved
up-preserved g c =
    let m = g.M.Monoid in
    let inv = c.up.invariant in
    let h = c.up.height in
    let left = c.up.left in
    let xs = first_row c.args.rows.now.items in
    let new = take c.args.len xs in
    let rows = c.up.rows.items in
    let row = c.index_mut.result.now in
    let after = c.truncate.new.self in
    let low : h < length rows =
    dite (dec_le (length rows) h)
    (λ high. let e : h ≡ length c.args.rows.now.items = omega (arith, inv.within, inv.same_length, high) in
    let none : length (lifted m.op h xs) ≡ 0 = ap (λ n. length (lifted m.op n xs)) e ∙ ap length c.requires.rows.done in
    absurd (omega (arith, none, inv.fits, c.up-test.true)))
    (λ not. lt_of_not-le not) in
    let items : row.items ≡ lifted m.op h xs = ap (λ (r : Vec g.row.M.Denot Global). r.items) c.index_mut.ensures.value ∙ sym (row_at-is rows h row low) ∙ inv.above h (omega arith) ∙ c.requires.rows.each h (omega (arith, low, inv.same_length)) in
    let cut : after.items ≡ lifted m.op h new = c.truncate.ensures.items ∙ ap (take left) items ∙ sym inv.here in
    let next : suc h ≡ h + 1 = omega arith in
    let up : (zs : List g.row.M.Denot) → lifted m.op (h + 1) zs ≡ paired m.op (lifted m.op h zs) = λ zs. ap (λ n. lifted m.op n zs) (sym next) in
    record {
      below = below_more (λ k. row_at (set rows h after) k ≡ lifted m.op k new) h (λ k l. row_at-set_other rows h k after (λ e. absurd (omega arith)) ∙ inv.below k l) (row_at-set_same rows h after low ∙ cut);
      above = λ k l. row_at-set_other rows h k after (λ e. absurd (omega arith)) ∙ inv.above k (omega arith);
      here = up new ∙ ap (paired m.op) inv.here ∙ paired-take m.op left (lifted m.op h xs) ∙ ap (take (left / 2)) (sym (up xs));
      fits = omega (arith, inv.fits, ap length (up xs), length-paired m.op (lifted m.op h xs));
      same_length = length-set rows h after ∙ inv.same_length;
      within = omega (arith, low, length-set rows h after);
      tall = subst (λ n. 2 ^ n ≤ 2 * c.args.len + 1) next (grow_tall h left c.args.len inv.low c.up-test.true);
      low = subst (λ n. 2 ^ n * (left / 2) ≤ c.args.len) next (grow_low h left c.args.len inv.low);
    }

pub returns-clause-rows : goal.returns-clause-rows
returns-clause-rows g c =
    let m = g.M.Monoid in
    let inv = c.up.invariant in
    let h = c.up.height in
    let xs = first_row c.args.rows.now.items in
    let new = take c.args.len xs in
    let rows = c.up.rows.items in
    let final = c.truncate-2.new.self.items in
    let is : final ≡ take h rows = c.truncate-2.ensures.items in
    let count : length final ≡ h = ap length is ∙ length-take-le h rows inv.within in
    let none : c.up.left ≡ 0 = omega (arith, c.up-test.false) in
    (are_rows m.op final new
    (λ k low. ap (λ (r : List (Vec g.row.M.Denot Global)). row_at r k) is ∙ row_at-take rows h k (omega (arith, low, count)) ∙ inv.below k (omega (arith, low, count)))
    (ap (λ n. lifted m.op n new) count ∙ inv.here ∙ ap (λ n. take n (lifted m.op h xs)) none)
    (subst (λ n. 2 ^ n ≤ 2 * length new + 1) (sym count) (omega (arith, inv.tall, length-take-le c.args.len xs c.requires.within)))).0

pub returns-clause-list : goal.returns-clause-list
returns-clause-list g c =
    let m = g.M.Monoid in
    let inv = c.up.invariant in
    let h = c.up.height in
    let xs = first_row c.args.rows.now.items in
    let new = take c.args.len xs in
    let rows = c.up.rows.items in
    let final = c.truncate-2.new.self.items in
    let is : final ≡ take h rows = c.truncate-2.ensures.items in
    let count : length final ≡ h = ap length is ∙ length-take-le h rows inv.within in
    let none : c.up.left ≡ 0 = omega (arith, c.up-test.false) in
    (are_rows m.op final new
    (λ k low. ap (λ (r : List (Vec g.row.M.Denot Global)). row_at r k) is ∙ row_at-take rows h k (omega (arith, low, count)) ∙ inv.below k (omega (arith, low, count)))
    (ap (λ n. lifted m.op n new) count ∙ inv.here ∙ ap (λ n. take n (lifted m.op h xs)) none)
    (subst (λ n. 2 ^ n ≤ 2 * length new + 1) (sym count) (omega (arith, inv.tall, length-take-le c.args.len xs c.requires.within)))).1

use Rattle.std.proofs.Common.{rules, arith, ◌≡◌, ℕ, suc, ◌+◌, ◌*◌, ◌/◌, ◌<◌, ◌≤◌, ◌^◌, length, ap, ◌∙◌, sym, subst, List, [], ◌++◌, ◌∷◌, below_more, length-append}
use Rattle.std.proofs.lemmas.List.{nil_from_length}
use Rattle.std.proofs.lemmas.Grind.{common_steps}
use Rattle.std.specs.List.{sum_by}
use Rattle.prefix_scan.specs.Rows.{paired, lifted, row_at, first_row}
use Rattle.prefix_scan.proofs.PairLemmas.{lifted-weight, length-paired}
use Rattle.prefix_scan.proofs.RowLemmas.{row_at-more, row_at-before, first_is}
use Rattle.prefix_scan.proofs.HeightLemmas.{grow_tall, grow_low}
use Rattle.prefix_scan.proofs.tree_rows.rows_of.Goals as goal

pub up-init : goal.up-init
up-init g c =
    let none : length c.new-rows.result.items ≡ 0 = ap length c.new-rows.ensures.items in
    let m = g.M.Monoid in
    let n = length c.args.values.items in
    let one : 2 ^ length c.new-rows.result.items ≡ 1 = ap (λ k. 2 ^ k) none in
    record {
      each = λ k low. absurd (omega arith);
      next = sym (ap (λ k. lifted m.op k c.args.values.items) none);
      tall = omega arith;
      low = omega (arith, ap (λ k. k * length c.args.values.items) one);
    }

pub row_above-requires : goal.row_above-requires
row_above-requires g c =
    let m = g.M.Monoid in
    let is = c.deref.ensures.value ∙ c.up.invariant.next in
    omega (arith, lifted-weight g.met.M.Monoid.laws (length c.up.rows.items) c.args.values.items c.requires, ap (sum_by m.weight) is)

pub up-smaller : goal.up-smaller
up-smaller g c =
    let row = c.up.row in
    let some : 0 < length row.items = grind (rules, common_steps, row.ok) in
    let next : c.in_ok-next.next.items ≡ paired g.M.Monoid.op row.items = c.in_ok-next.ensures ∙ ap (paired g.M.Monoid.op) c.deref.ensures.value in
    omega (arith, ap length next, length-paired g.M.Monoid.op row.items)

pub up-preserved : goal.up-preserved
up-preserved g c =
    let m = g.M.Monoid in
    let xs = c.args.values.items in
    let row = c.up.row in
    let rows = c.up.rows.items in
    let n = length rows in
    let inv = c.up.invariant in
    let new = c.push.new.self.items in
    let pushed : new ≡ rows ++ row ∷ [] = c.in_ok-push.ensures.items in
    let count : length new ≡ suc n = ap length pushed ∙ omega (arith, length-append rows (row ∷ [])) in
    let some : 0 < length row.items = grind (rules, common_steps, row.ok) in
    let next : c.in_ok-next.next.items ≡ paired m.op row.items = c.in_ok-next.ensures ∙ ap (paired m.op) c.deref.ensures.value in
    let half : length c.in_ok-next.next.items ≡ length row.items / 2 = ap length next ∙ length-paired m.op row.items in
    let tall = grow_tall n (length row.items) (length xs) inv.low some in
    let low = grow_low n (length row.items) (length xs) inv.low in
    let top : row_at new n ≡ lifted m.op n xs = ap (λ r. row_at r n) pushed ∙ row_at-more rows row ∙ inv.next in
    record {
      each = λ k lower. below_more (λ j. row_at new j ≡ lifted m.op j xs) n (λ j h. ap (λ r. row_at r j) pushed ∙ row_at-before rows row j h ∙ inv.each j h) top k (omega (arith, lower, count));
      next = next ∙ ap (paired m.op) inv.next ∙ sym (ap (λ k. lifted m.op k xs) count);
      tall = subst (λ k. 2 ^ k ≤ 2 * length xs + 1) (sym count) tall;
      low = subst (λ (t : ℕ × ℕ). 2 ^ t.0 * t.1 ≤ length xs) (λ i. (sym count i, sym half i)) low;
    }

pub returns : goal.returns
returns g c =
    let m = g.M.Monoid in
    let xs = c.args.values.items in
    let row = c.up.row in
    let rows = c.up.rows.items in
    let inv = c.up.invariant in
    let none : length row.items ≡ 0 = grind (rules, common_steps, row.ok) in
    let first : first_row rows ≡ xs = first_is m.op xs rows inv.each (ap length (sym inv.next) ∙ none) in
    let done : lifted m.op (length rows) xs ≡ [] = nil_from_length (lifted m.op (length rows) xs) (ap length (sym inv.next) ∙ none) in (
      record {
        each = λ k h. inv.each k h ∙ ap (lifted m.op k) (sym first);
        done = ap (lifted m.op (length rows)) first ∙ done;
        tall = subst (λ (k : List g.row.M.Denot). 2 ^ length rows ≤ 2 * length k + 1) (sym first) inv.tall;
      },
      first,
    )

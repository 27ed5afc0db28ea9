-- How the fold of the first k values is found from row to row.
use Rattle.std.proofs.Common.{◌≡◌, ℕ, ◌+◌, ◌*◌, ◌<◌, ◌≤◌, List, [], length, take, get_or, sum_by, sym, ap, ◌∙◌, refl, arith}
use Rattle.std.proofs.lemmas.List.Sums.{sum_by-take-le, fold_more, sum_by_more}
use Rattle.std.specs.List.{fold}
use Rattle.prefix_scan.specs.Laws.{MonoidLaws}
use Rattle.prefix_scan.specs.Rows.{paired}
use Rattle.prefix_scan.proofs.FoldLemmas.{fold-weight}
use Rattle.prefix_scan.proofs.PairLemmas.{length-paired, paired-weight, fold-paired}

module _ {M : Type 0} {most : ℕ} {empty : M} {op : M → M → M} {weight : M → ℕ} (laws : MonoidLaws most empty op weight) where
  -- the values before the place `at` of a row, with what was joined after them, are the answer
  pub record Reached (row : List M) (at : ℕ) (after answer : M) : Type 0 where
    pub same : answer ≡ op (fold op empty (take at row)) after
    pub fits : weight after + sum_by weight (take at row) ≤ most
    pub within : at ≤ length row
    pub row_fits : sum_by weight row ≤ most

  -- at first nothing was joined, and the answer is the fold of the first row's values before the place
  pub reached_first : (xs : List M) (i : ℕ) → i ≤ length xs → sum_by weight xs ≤ most → Reached xs i empty (fold op empty (take i xs))
  reached_first xs i h w =
      let le = sum_by-take-le weight xs i in
      let none = laws.empty_weight in
      record {
        same = sym (laws.right_identity (fold op empty (take i xs)) (omega (arith, fold-weight laws (take i xs) (omega arith))));
        fits = omega arith;
        within = h;
        row_fits = w;
      }

  -- past the last row no value is left to join
  pub reached_end : (at : ℕ) (after answer : M) → Reached [] at after answer → after ≡ answer
  reached_end at after answer r = let none : at ≡ 0 = omega (arith, r.within) in let f = r.fits in sym (r.same ∙ ap (λ n. op (fold op empty (take n [])) after) none ∙ laws.left_identity after (omega arith))

  -- an even number of values is as many joins in the row above, half the number
  pub reached_even : (row : List M) (at k : ℕ) (after answer : M) → at ≡ 2 * k → Reached row at after answer → Reached (paired op row) k after answer
  reached_even row at k after answer e r =
      let w = r.row_fits in
      let f = r.fits in
      let none = laws.empty_weight in
      let part = sum_by-take-le weight row at in
      let pairs = fold-paired laws empty row k at e r.within (omega arith) in
      let wide = paired-weight laws row w in
      let some = fold-weight laws (take at row) (omega arith) in
      let up = fold-weight laws (take k (paired op row)) (omega (arith, sum_by-take-le weight (paired op row) k)) in
      let same_weight = ap weight pairs in
      record {
        same = r.same ∙ ap (λ x. op x after) pairs;
        fits = omega arith;
        within = omega (arith, length-paired op row, r.within);
        row_fits = omega arith;
      }

  -- of an odd number the last value fits beside what was joined after it
  pub reached_odd-fits : (row : List M) (at k : ℕ) (after answer : M) → at ≡ 2 * k + 1 → Reached row at after answer → weight (get_or row (2 * k) empty) + weight after ≤ most
  reached_odd-fits row at k after answer e r =
      let low : 2 * k < length row = omega (arith, r.within) in
      let part = sum_by_more weight row (2 * k) empty low in
      let part_is : sum_by weight (take at row) ≡ sum_by weight (take (2 * k + 1) row) = ap (λ n. sum_by weight (take n row)) e in
      let f = r.fits in
      omega arith

  -- of an odd number the last value is joined first, and an even number is left
  pub reached_odd : (row : List M) (at k : ℕ) (after answer : M) → at ≡ 2 * k + 1 → Reached row at after answer → Reached (paired op row) k (op (get_or row (2 * k) empty) after) answer
  reached_odd row at k after answer e r =
      let w = r.row_fits in
      let x = get_or row (2 * k) empty in
      let low : 2 * k < length row = omega (arith, r.within) in
      let part = sum_by_more weight row (2 * k) empty low in
      let part_is : sum_by weight (take at row) ≡ sum_by weight (take (2 * k + 1) row) = ap (λ n. sum_by weight (take n row)) e in
      let f = r.fits in
      let le = sum_by-take-le weight row at in
      let more = ap (λ n. fold op empty (take n row)) e ∙ fold_more op empty row (2 * k) empty low in
      let some = fold-weight laws (take (2 * k) row) (omega arith) in
      let joined = laws.op_weight x after (omega arith) in
      reached_even row (2 * k) k (op x after) answer refl record {
        same = r.same ∙ ap (λ y. op y after) more ∙ laws.assoc (fold op empty (take (2 * k) row)) x after (omega arith);
        fits = omega arith;
        within = omega arith;
        row_fits = w;
      }

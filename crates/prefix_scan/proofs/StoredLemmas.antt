-- Prefixes that are kept beside a list.
use Rattle.std.proofs.Common.{◌≡◌, ◌+◌, List, [], ◌∷◌, ◌++◌, length, get_or, ap, ◌∙◌, sym, arith, length-append, below_more, take_all}
use Rattle.std.proofs.lemmas.List.{get_or_append_left}
use Rattle.std.proofs.Math.Seq.{get_or-append_seam}
use Rattle.prefix_scan.specs.Folds.{folded, offset_list, prefix}
use Rattle.prefix_scan.specs.Stored.{AreSums}
use Rattle.prefix_scan.proofs.SumLemmas.{length-offsets, offset_at}

-- the folds before each value, and that of all behind them
pub are_sums : {M : Type 0} (empty : M) (op : M → M → M) (xs : List M) → AreSums empty op xs (offset_list empty op xs ++ folded empty op xs ∷ [])
are_sums empty op xs =
    let before = offset_list empty op xs in
    let whole = folded empty op xs in
    let n : length before ≡ length xs = length-offsets op empty xs in
    record {
      count = length-append before (whole ∷ []) ∙ ap (λ k. k + 1) n;
      each = λ i d h. below_more (λ k. get_or (before ++ whole ∷ []) k d ≡ prefix empty op xs k) (length xs)
          (λ k low. get_or_append_left before (whole ∷ []) d k (omega (arith, n, low)) ∙ offset_at op empty xs k d low)
          (ap (λ k. get_or (before ++ whole ∷ []) k d) (sym n) ∙ get_or-append_seam before whole [] d ∙ ap (λ ys. folded empty op ys) (sym (take_all (length xs) xs (omega arith))))
          i (omega arith);
    }

-- The sum at the first line of each chunk is what is aboard on arrival with the fold of the totals of the chunks before it.
use Rattle.std.proofs.Common.{◌≡◌, ◌∙◌, ℕ, zero, suc, ◌+◌, ◌-◌, ◌*◌, ◌^◌, ◌<◌, ◌≤◌, List, length, map, take, get_or, sum_by, sym, ap, subst, arith}
use Rattle.std.specs.List.{fold, range_with_len}
use Rattle.std.proofs.lemmas.List.{get_or-map, length-map, take_all}
use Rattle.std.proofs.lemmas.List.FromFn.{get_or-map-range_with_len, length-map-range_with_len}
use Rattle.std.proofs.lemmas.List.Sums.{fold_more, sum_by_more}
use Rattle.units_core.specs.Bodies.{Mass}
use Rattle.units_core.specs.declared.frames.Frame.{Frame}
use Rattle.units_core.specs.declared.steps.Step.{Step}
use Rattle.prefix_scan.specs.Cut.{start_of, Divides}
use Rattle.prefix_scan.specs.Folds.{offset_list}
use Rattle.prefix_scan.proofs.CutLemmas.{start_within}
use Rattle.prefix_scan.proofs.SumLemmas.{length-offsets, offset_at}
use Rattle.moment_sums.specs.Sum.{Sum, joined, sum_of}
use Rattle.moment_sums.specs.Kept.{Kept, both_kept, none_kept, size_of, values}
use Rattle.moment_sums.specs.KeptLaws.{kept_laws}
use Rattle.moment_sums.proofs.Bounds.{values_both, values_nothing}
use Rattle.running_sums.specs.Lines.{AreFirstSums, changes_behind, chunk_of, sum_to}
use Rattle.running_sums.proofs.SumLemmas.{changes_size, changes_sum, joined_assoc, joined_nothing, room_behind}

module _ (frames : List Frame) (arrival : List Mass) (steps : List Step) (ends : List ℕ) (len : ℕ) (totals : List Kept)
    (few_frames : length frames ≤ 16) (d : Divides ends len) (few : len ≤ 120001) (long : len ≡ length steps + 1)
    (are : totals ≡ map (λ c. changes_behind frames steps (chunk_of ends c)) (range_with_len 0 (length ends))) where
  abbrev folded_to : ℕ → Kept
  folded_to k = fold both_kept none_kept (take k totals)

  abbrev total_of : ℕ → Kept
  total_of c = changes_behind frames steps (chunk_of ends c)

  count : length totals ≡ length ends
  count = ap length are ∙ length-map-range_with_len total_of 0 (length ends)

  total_at : (c : ℕ) (e : Kept) → c < length ends → get_or totals c e ≡ total_of c
  total_at c e low = ap (λ l. get_or l c e) are ∙ get_or-map-range_with_len total_of 0 (length ends) c c e low (omega arith)

  end_within : (c : ℕ) → c < length ends → get_or ends c 0 ≤ len
  end_within c low = start_within ends len (suc c) d low

  chunk_size : (c : ℕ) → c < length ends → size_of (get_or totals c none_kept) + 2 * start_of ends c ≤ 2 * start_of ends (suc c)
  chunk_size c low =
      let s = start_of ends c in
      let e = get_or ends c 0 in
      let rises : s < e = d.rising c low in
      let within = end_within c low in
      let size = changes_size frames steps s (e - s) (omega (arith, within, few)) in
      omega (arith, ap size_of (total_at c none_kept low), size, rises)

  chunk_sum : (c : ℕ) → c < length ends → joined (sum_to frames arrival steps (start_of ends c)) (values (get_or totals c none_kept)) ≡ sum_to frames arrival steps (start_of ends (suc c))
  chunk_sum c low =
      let s = start_of ends c in
      let e = get_or ends c 0 in
      let rises : s < e = d.rising c low in
      ap (λ t. joined (sum_to frames arrival steps s) (values t)) (total_at c none_kept low)
      ∙ changes_sum frames steps few_frames arrival s (e - s) e (omega (arith, rises))

  -- sizes add up
  sizes_to : (k : ℕ) → k ≤ length ends → sum_by size_of (take k totals) ≤ 2 * start_of ends k
  sizes_to zero h = omega arith
  sizes_to (suc k) h =
      let next : k + 1 ≡ suc k = omega arith in
      let more = sum_by_more size_of totals k none_kept (omega (arith, count)) in
      let here = chunk_size k (omega arith) in
      let so_far = sizes_to k (omega arith) in
      let all : sum_by size_of (take (k + 1) totals) ≤ 2 * start_of ends (suc k) = omega (arith, more, here, so_far) in
      subst (λ n. sum_by size_of (take n totals) ≤ 2 * start_of ends (suc k)) next all

  pub sizes_fit : sum_by size_of totals ≤ 2 ^ 19
  sizes_fit =
      let all = sizes_to (length ends) (omega arith) in
      let whole : take (length ends) totals ≡ totals = take_all (length ends) totals (omega (arith, count)) in
      omega (arith, ap (sum_by size_of) whole, all, d.whole, few)

  folded_size : (k : ℕ) → k ≤ length ends → size_of (folded_to k) ≤ 2 * start_of ends k
  folded_size zero h = omega arith
  folded_size (suc k) h =
      let next : k + 1 ≡ suc k = omega arith in
      let more = fold_more both_kept none_kept totals k none_kept (omega (arith, count)) in
      let here = chunk_size k (omega arith) in
      let so_far = folded_size k (omega arith) in
      let within = end_within k (omega arith) in
      let both = kept_laws.op_weight (folded_to k) (get_or totals k none_kept) (omega (arith, here, so_far, within, few)) in
      let all : size_of (folded_to (k + 1)) ≤ 2 * start_of ends (suc k) = omega (arith, ap size_of more, both, here, so_far) in
      subst (λ n. size_of (folded_to n) ≤ 2 * start_of ends (suc k)) next all

  -- and so do sums
  folded_sum : (k : ℕ) → k ≤ length ends → joined (sum_of frames arrival) (values (folded_to k)) ≡ sum_to frames arrival steps (start_of ends k)
  folded_sum zero h = ap (joined (sum_of frames arrival)) values_nothing ∙ joined_nothing (sum_of frames arrival)
  folded_sum (suc k) h =
      let next : k + 1 ≡ suc k = omega arith in
      let total = get_or totals k none_kept in
      let more = fold_more both_kept none_kept totals k none_kept (omega (arith, count)) in
      ap (λ n. joined (sum_of frames arrival) (values (folded_to n))) (sym next)
      ∙ ap (joined (sum_of frames arrival)) (ap values more ∙ values_both (folded_to k) total)
      ∙ sym (joined_assoc (sum_of frames arrival) (values (folded_to k)) (values total))
      ∙ ap (λ (s : Sum). joined s (values total)) (folded_sum k (omega arith))
      ∙ chunk_sum k (omega arith)

  pub offsets_fit : (c : ℕ) (e : Kept) → c < length ends → size_of (get_or (offset_list none_kept both_kept totals) c e) ≤ 2 ^ 18
  offsets_fit c e low =
      let here = offset_at both_kept none_kept totals c e (omega (arith, count)) in
      let size = folded_size c (omega arith) in
      let within = start_within ends len c d (omega arith) in
      omega (arith, ap size_of here, size, within, few)

  pub offset_count : length (offset_list none_kept both_kept totals) ≡ length ends
  offset_count = length-offsets both_kept none_kept totals ∙ count

  -- what is aboard on arrival with the offset of a chunk and what changes inside it up to a line
  pub offset_sum : (arrived : Kept) → values arrived ≡ sum_of frames arrival → (c k : ℕ) (e : Kept) → c < length ends → start_of ends c ≤ k → k < get_or ends c 0
      → values (both_kept (both_kept arrived (get_or (offset_list none_kept both_kept totals) c e)) (changes_behind frames steps (range_with_len (start_of ends c) (k - start_of ends c))))
      ≡ sum_to frames arrival steps k
  offset_sum arrived aboard c k e low from to =
      let s = start_of ends c in
      let offset = get_or (offset_list none_kept both_kept totals) c e in
      let inside = changes_behind frames steps (range_with_len s (k - s)) in
      let before = offset_at both_kept none_kept totals c e (omega (arith, count, low)) in
      values_both (both_kept arrived offset) inside
      ∙ ap (λ (t : Sum). joined t (values inside))
      (values_both arrived offset ∙ (λ j. joined (aboard j) (values (before j))) ∙ folded_sum c (omega (arith, low)))
      ∙ changes_sum frames steps few_frames arrival s (k - s) k (omega (arith, from))

  pub are_first_sums : (arrived : Kept) → size_of arrived ≤ 30400 → values arrived ≡ sum_of frames arrival
      → (sums : List Kept) → sums ≡ map (both_kept arrived) (offset_list none_kept both_kept totals) → AreFirstSums frames arrival steps ends sums
  are_first_sums arrived few_aboard aboard sums is =
      let before = offset_list none_kept both_kept totals in
      let at : (c : ℕ) (e : Kept) → c < length ends → get_or sums c e ≡ both_kept arrived (folded_to c) = λ c e low.
      ap (λ l. get_or l c e) is
      ∙ get_or-map (both_kept arrived) before c none_kept e (omega (arith, offset_count, low))
      ∙ ap (both_kept arrived) (offset_at both_kept none_kept totals c none_kept (omega (arith, count, low))) in
      record {
        count = ap length is ∙ length-map before (both_kept arrived) ∙ offset_count;
        sum = λ c e low. ap values (at c e low) ∙ values_both arrived (folded_to c) ∙ ap (λ (s : Sum). joined s (values (folded_to c))) aboard ∙ folded_sum c (omega arith);
        size = λ c e low.
            let so_far = folded_size c (omega arith) in
            let within = start_within ends len c d (omega arith) in
            let rises : start_of ends c < get_or ends c 0 = d.rising c low in
            let end = end_within c low in
            let both = kept_laws.op_weight arrived (folded_to c) (omega (arith, few_aboard, so_far, within, few)) in
            room_behind steps (start_of ends c) (size_of (get_or sums c e)) (omega (arith, few, long)) (omega (arith, rises, end, long))
            (omega (arith, ap size_of (at c e low), both, few_aboard, so_far));
      }

-- each chunk takes a line at least
few_to : (ends : List ℕ) (len : ℕ) → Divides ends len → (k : ℕ) → k ≤ length ends → k ≤ start_of ends k
few_to ends len d zero h = omega arith
few_to ends len d (suc k) h =
    let rises : start_of ends k < get_or ends k 0 = d.rising k (omega arith) in
    omega (arith, rises, few_to ends len d k (omega arith))

pub few_chunks : (ends : List ℕ) (len : ℕ) → Divides ends len → length ends ≤ len
few_chunks ends len d = let all = few_to ends len d (length ends) (omega arith) in omega (arith, all, d.whole)

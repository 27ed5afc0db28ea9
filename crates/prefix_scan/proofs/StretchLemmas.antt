-- Rows in which a stretch of values is renewed.
use Rattle.std.proofs.Common.{◌≡◌, ℕ, zero, suc, ◌+◌, ◌-◌, ◌*◌, ◌/◌, ◌<◌, ◌≤◌, List, ◌++◌, length, take, drop, get_or, sym, ap, ◌∙◌, arith, refl, lt_of_not-le}
use Rattle.std.specs.Prelude.{min}
use Rattle.std.proofs.lemmas.List.{ext_get_or, get_or_past, get_or-take, get_or-drop, get_or_append_left, get_or-append_right, length-append, length-take-le, length-drop}
use Rattle.std.proofs.Math.Seq.{take-append_seam}
use mathlib.Core.Logic.{dite}
use native.Mathlib.Decide.{dec_le}
use Rattle.prefix_scan.specs.Rows.{paired, lifted, IsWritten}
use Rattle.prefix_scan.proofs.PairLemmas.{length-paired, paired-at}

-- a row that was written as a whole
pub refilled : {M : Type 0} (n : ℕ) (ws items : List M) → length ws ≡ n → take n (ws ++ drop (length ws) items) ≡ ws
refilled n ws items e = ap (λ m. take m (ws ++ drop (length ws) items)) (sym e) ∙ take-append_seam ws (drop (length ws) items)

module _ {M : Type 0} (op : M → M → M) (d : M) where
  pub length-lifted : (l : ℕ) (xs ys : List M) → length xs ≡ length ys → length (lifted op l xs) ≡ length (lifted op l ys)
  length-lifted zero xs ys e = e
  length-lifted (suc l) xs ys e = length-paired op (lifted op l xs) ∙ ap (λ n. n / 2) (length-lifted l xs ys e) ∙ sym (length-paired op (lifted op l ys))

  -- a pair of the same two values
  paired_same : (xs ys : List M) (k : ℕ) → length xs ≡ length ys → get_or xs (2 * k) d ≡ get_or ys (2 * k) d → get_or xs (suc (2 * k)) d ≡ get_or ys (suc (2 * k)) d
      → get_or (paired op xs) k d ≡ get_or (paired op ys) k d
  paired_same xs ys k long a b =
      dite (dec_le (2 * k + 2) (length xs))
      (λ both. paired-at op d xs k (2 * k) refl (omega arith) ∙ (λ i. op (a i) (b i)) ∙ sym (paired-at op d ys k (2 * k) refl (omega arith)))
      (λ not. let short = lt_of_not-le not in
      get_or_past (paired op xs) k d (omega (arith, length-paired op xs)) ∙ sym (get_or_past (paired op ys) k d (omega (arith, length-paired op ys, long))))

  -- outside of a stretch two rows are the same; so are the rows above them, outside of what the stretch is part of
  module _ (old new : List M) (at len : ℕ) (long : length new ≡ length old) (before : (k : ℕ) → k < at → get_or new k d ≡ get_or old k d) (behind : (k : ℕ) → at + len ≤ k → get_or new k d ≡ get_or old k d) where
    pub before_above : (k : ℕ) → k < at / 2 → get_or (paired op new) k d ≡ get_or (paired op old) k d
    before_above k low = paired_same new old k long (before (2 * k) (omega (arith, low))) (before (suc (2 * k)) (omega (arith, low)))

    pub behind_above : (k : ℕ) → min ((at + len + 1) / 2) (length old / 2) ≤ k → get_or (paired op new) k d ≡ get_or (paired op old) k d
    behind_above k high =
        dite (dec_le (length old / 2) k)
        (λ past. get_or_past (paired op new) k d (omega (arith, past, length-paired op new, long)) ∙ sym (get_or_past (paired op old) k d (omega (arith, past, length-paired op old))))
        (λ not. let inside = lt_of_not-le not in
        paired_same new old k long (behind (2 * k) (omega (arith, high, inside))) (behind (suc (2 * k)) (omega (arith, high, inside))))

    -- nothing above is renewed
    pub same_above : min ((at + len + 1) / 2) (length old / 2) ≤ at / 2 → paired op new ≡ paired op old
    same_above none =
        ext_get_or d (paired op new) (paired op old) (length-paired op new ∙ ap (λ n. n / 2) long ∙ sym (length-paired op old))
        (λ k h. dite (dec_le (at / 2) k)
        (λ high. behind_above k (omega (arith, none, high)))
        (λ not. let low = lt_of_not-le not in before_above k low))

  -- two rows into which the same was written
  pub written : (old values row new : List M) (at len : ℕ) → IsWritten d at len values old row → IsWritten d at len values old new → row ≡ new
  written old values row new at len one other =
      ext_get_or d row new (one.long ∙ sym other.long)
      (λ k h. dite (dec_le (suc k) at)
      (λ low. one.before k (omega (arith, low)) ∙ sym (other.before k (omega (arith, low))))
      (λ not. let high = lt_of_not-le not in
      dite (dec_le (at + len) k)
      (λ past. one.behind k past ∙ sym (other.behind k past))
      (λ not_past. let inside = lt_of_not-le not_past in
      let is : k ≡ at + (k - at) = omega (arith, high) in
      ap (λ n. get_or row n d) is ∙ one.inside (k - at) (omega (arith, high, inside)) ∙ sym (other.inside (k - at) (omega (arith, high, inside))) ∙ ap (λ n. get_or new n d) (sym is))))

  -- the list with a stretch of other values
  module _ (xs vs : List M) (first : ℕ) (within : first + length vs ≤ length xs) where
    long_front : length (take first xs ++ vs) ≡ first + length vs
    long_front = omega (arith, within, length-append (take first xs) vs, length-take-le first xs (omega (arith, within)))

    pub length-with : length (take first xs ++ vs ++ drop (first + length vs) xs) ≡ length xs
    length-with = omega (arith, within, long_front, length-append (take first xs ++ vs) (drop (first + length vs) xs), length-drop (first + length vs) xs)

    pub with_before : (k : ℕ) → k < first → get_or (take first xs ++ vs ++ drop (first + length vs) xs) k d ≡ get_or xs k d
    with_before k low =
        get_or_append_left (take first xs ++ vs) (drop (first + length vs) xs) d k (omega (arith, low, long_front))
        ∙ get_or_append_left (take first xs) vs d k (omega (arith, low, within, length-take-le first xs (omega (arith, within)))) ∙ get_or-take first xs k d low

    pub with_inside : (k : ℕ) → k < length vs → get_or (take first xs ++ vs ++ drop (first + length vs) xs) (first + k) d ≡ get_or vs k d
    with_inside k low =
        get_or_append_left (take first xs ++ vs) (drop (first + length vs) xs) d (first + k) (omega (arith, low, long_front))
        ∙ get_or-append_right (take first xs) vs first (first + k) d (length-take-le first xs (omega (arith, within))) (omega arith)
        ∙ ap (λ n. get_or vs n d) (back first k) where
          back : (a b : ℕ) → a + b - a ≡ b
          back a b = omega arith

    pub with_behind : (k : ℕ) → first + length vs ≤ k → get_or (take first xs ++ vs ++ drop (first + length vs) xs) k d ≡ get_or xs k d
    with_behind k high =
        let n = first + length vs in
        let is : n + (k - n) ≡ k = omega (arith, high) in
        get_or-append_right (take first xs ++ vs) (drop n xs) n k d long_front high ∙ get_or-drop n xs (k - n) d ∙ ap (λ m. get_or xs m d) is

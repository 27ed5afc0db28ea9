-- The sums of each four changes, and lists of changes in which some were set.
use Rattle.std.proofs.Common.{◌≡◌, ◌∙◌, ℕ, zero, suc, ◌+◌, ◌-◌, ◌*◌, ◌/◌, ◌%◌, ◌^◌, ◌<◌, ◌≤◌, List, [], ◌∷◌, ◌++◌, length, take, drop, set, get_or, sum_by, refl, sym, ap, subst, arith, lt_of_not-le, get_or-set_same, get_or-set_other}
use Rattle.std.proofs.lemmas.List.{ext_get_or, get_or-drop, get_or_past, length-set}
use Rattle.std.proofs.lemmas.List.Sums.{sum_by-cons}
use Rattle.std.proofs.Math.Nat.{pow-succ'}
use Rattle.std.proofs.Math.Pow.{pow_mono}
use mathlib.Core.Logic.{dite}
use native.Mathlib.Decide.{dec_le, ℕ_discrete}
use Rattle.prefix_scan.specs.Folds.{prefix}
use Rattle.prefix_scan.specs.Rows.{paired, IsWritten}
use Rattle.prefix_scan.proofs.PairLemmas.{fold-paired, length-paired, paired-at, paired-weight}
use Rattle.moment_sums.specs.Kept.{Kept, both_kept, none_kept, size_of}
use Rattle.moment_sums.specs.KeptLaws.{kept_laws}
use Rattle.running_sums.specs.Fours.{AreOfFour, AreSmall, fours}

pub length-fours : (xs : List Kept) → length (fours xs) ≡ length xs / 4
length-fours xs = omega (arith, length-paired both_kept (paired both_kept xs), length-paired both_kept xs)

-- the sum of a number is that of four changes
abbrev pub four_of : Kept → Kept → Kept → Kept → Kept
four_of a b c d = both_kept (both_kept a b) (both_kept c d)

pub fours-at : (xs : List Kept) (j i : ℕ) → i ≡ 4 * j → i + 3 < length xs
    → get_or (fours xs) j none_kept ≡ four_of (get_or xs i none_kept) (get_or xs (suc i) none_kept) (get_or xs (suc (suc i)) none_kept) (get_or xs (suc (suc (suc i))) none_kept)
fours-at xs j i e h =
    let ps = paired both_kept xs in
    let long = length-paired both_kept xs in
    let low = paired-at both_kept none_kept xs (2 * j) i (omega arith) (omega arith) in
    let high = paired-at both_kept none_kept xs (suc (2 * j)) (suc (suc i)) (omega arith) (omega arith) in
    paired-at both_kept none_kept ps j (2 * j) refl (omega (arith, long)) ∙ (λ k. both_kept (low k) (high k))

-- sums of lists that have the same four changes there are the same
pub fours_same : (xs ys : List Kept) (j : ℕ) → length xs ≡ length ys → ((k : ℕ) → k / 4 ≡ j → get_or xs k none_kept ≡ get_or ys k none_kept)
    → get_or (fours xs) j none_kept ≡ get_or (fours ys) j none_kept
fours_same xs ys j long same =
    dite (dec_le (4 * j + 4) (length xs))
    (λ whole. fours-at xs j (4 * j) refl (omega arith)
    ∙ (λ k. four_of (same (4 * j) (omega arith) k) (same (suc (4 * j)) (omega arith) k) (same (suc (suc (4 * j))) (omega arith) k) (same (suc (suc (suc (4 * j)))) (omega arith) k))
    ∙ sym (fours-at ys j (4 * j) refl (omega arith)))
    (λ not. let short = lt_of_not-le not in
    get_or_past (fours xs) j none_kept (omega (arith, length-fours xs)) ∙ sym (get_or_past (fours ys) j none_kept (omega (arith, length-fours ys, long))))

-- one sum is set, and the others are what they have to be
pub fours_set : (xs ys : List Kept) (j : ℕ) (v : Kept) → length xs ≡ length ys → v ≡ get_or (fours ys) j none_kept
    → ((k : ℕ) → (k / 4 ≡ j → ⊥) → get_or xs k none_kept ≡ get_or ys k none_kept) → set (fours xs) j v ≡ fours ys
fours_set xs ys j v long is same =
    ext_get_or none_kept (set (fours xs) j v) (fours ys) (length-set (fours xs) j v ∙ length-fours xs ∙ ap (λ n. n / 4) long ∙ sym (length-fours ys))
    (λ i h. dite (ℕ_discrete i j)
    (λ here. ap (λ n. get_or (set (fours xs) j v) n none_kept) here
    ∙ get_or-set_same (fours xs) j v none_kept (subst (λ n. n < length (fours xs)) here (subst (λ n. i < n) (length-set (fours xs) j v) h))
    ∙ is ∙ ap (λ n. get_or (fours ys) n none_kept) (sym here))
    (λ other. get_or-set_other (fours xs) j i v none_kept other ∙ fours_same xs ys i long (λ k at. same k (λ e. other (sym at ∙ e)))))

-- the first k sums are of the first 4 k changes
pub fours-prefix : (xs : List Kept) (i : ℕ) → i * 4 ≤ length xs → sum_by size_of xs ≤ 2 ^ 19 → prefix none_kept both_kept (fours xs) i ≡ prefix none_kept both_kept xs (i * 4)
fours-prefix xs i h fits =
    let ps = paired both_kept xs in
    let less = paired-weight kept_laws xs fits in
    let long = length-paired both_kept xs in
    let none = kept_laws.empty_weight in
    sym (fold-paired kept_laws none_kept xs (2 * i) (i * 4) (omega arith) h (omega (arith, fits, none)) ∙ fold-paired kept_laws none_kept ps i (2 * i) refl (omega (arith, long, h)) (omega (arith, fits, less, none)))

pub fours-weight : (xs : List Kept) → sum_by size_of xs ≤ 2 ^ 19 → sum_by size_of (fours xs) ≤ 2 ^ 19
fours-weight xs fits =
    let less = paired-weight kept_laws xs fits in
    let least = paired-weight kept_laws (paired both_kept xs) (omega (arith, less, fits)) in
    omega (arith, less, least, fits)

-- sizes
size_of_four : (a b c d : Kept) → size_of a ≤ 2 → size_of b ≤ 2 → size_of c ≤ 2 → size_of d ≤ 2 → size_of (four_of a b c d) ≤ 8
size_of_four a b c d p q r s =
    let ab = kept_laws.op_weight a b (omega (arith, p, q)) in
    let cd = kept_laws.op_weight c d (omega (arith, r, s)) in
    let all = kept_laws.op_weight (both_kept a b) (both_kept c d) (omega (arith, ab, cd, p, q, r, s)) in
    omega (arith, ab, cd, all, p, q, r, s)

pub of_four : (xs : List Kept) → AreSmall xs → AreOfFour (fours xs)
of_four [] h = tt
of_four (a ∷ []) h = tt
of_four (a ∷ b ∷ []) h = tt
of_four (a ∷ b ∷ c ∷ []) h = tt
of_four (a ∷ b ∷ c ∷ d ∷ xs) h = (size_of_four a b c d h.0 h.1.0 h.1.1.0 h.1.1.1.0, of_four xs h.1.1.1.1)

pub of_four_set : (xs : List Kept) (i : ℕ) (x : Kept) → AreOfFour xs → size_of x ≤ 8 → AreOfFour (set xs i x)
of_four_set [] i x h k = tt
of_four_set (y ∷ ys) zero x h k = (k, h.1)
of_four_set (y ∷ ys) (suc i) x h k = (h.0, of_four_set ys i x h.1 k)

pub of_four_at : (xs : List Kept) (i : ℕ) → AreOfFour xs → size_of (get_or xs i none_kept) ≤ 8
of_four_at [] i h = let none = kept_laws.empty_weight in omega (arith, none)
of_four_at (x ∷ xs) zero h = h.0
of_four_at (x ∷ xs) (suc i) h = of_four_at xs i h.1

pub of_four_sum : (xs : List Kept) → AreOfFour xs → sum_by size_of xs ≤ 8 * length xs
of_four_sum [] h = omega arith
of_four_sum (x ∷ xs) h = omega (arith, sum_by-cons size_of x xs, h.0, of_four_sum xs h.1)

-- the first of some changes, and behind them others
module _ where
  pub mixed_long : (n : ℕ) (ys olds : List Kept) → length olds ≡ length ys → length (take n ys ++ drop n olds) ≡ length ys
  mixed_long zero ys olds h = h
  mixed_long (suc n) [] [] h = refl
  mixed_long (suc n) [] (o ∷ os) h = absurd (omega (arith, h))
  mixed_long (suc n) (y ∷ ys) [] h = absurd (omega (arith, h))
  mixed_long (suc n) (y ∷ ys) (o ∷ os) h = ap suc (mixed_long n ys os (omega (arith, h)))

  pub mixed_low : (n k : ℕ) (ys olds : List Kept) → length olds ≡ length ys → k < n → get_or (take n ys ++ drop n olds) k none_kept ≡ get_or ys k none_kept
  mixed_low zero k ys olds h low = absurd (omega (arith, low))
  mixed_low (suc n) k [] [] h low = refl
  mixed_low (suc n) k [] (o ∷ os) h low = absurd (omega (arith, h))
  mixed_low (suc n) k (y ∷ ys) [] h low = absurd (omega (arith, h))
  mixed_low (suc n) zero (y ∷ ys) (o ∷ os) h low = refl
  mixed_low (suc n) (suc k) (y ∷ ys) (o ∷ os) h low = mixed_low n k ys os (omega (arith, h)) (omega (arith, low))

  pub mixed_high : (n k : ℕ) (ys olds : List Kept) → length olds ≡ length ys → n ≤ k → get_or (take n ys ++ drop n olds) k none_kept ≡ get_or olds k none_kept
  mixed_high zero k ys olds h high = refl
  mixed_high (suc n) zero ys olds h high = absurd (omega (arith, high))
  mixed_high (suc n) (suc k) [] [] h high = refl
  mixed_high (suc n) (suc k) [] (o ∷ os) h high = absurd (omega (arith, h))
  mixed_high (suc n) (suc k) (y ∷ ys) [] h high = absurd (omega (arith, h))
  mixed_high (suc n) (suc k) (y ∷ ys) (o ∷ os) h high = mixed_high n k ys os (omega (arith, h)) (omega (arith, high))

  -- the four of a place are set: from there on the first changes reach to their end
  pub mixed_set : (place : ℕ) (ys olds : List Kept) (v : Kept) → length olds ≡ length ys → v ≡ get_or (fours ys) (place / 4) none_kept
      → set (fours (take place ys ++ drop place olds)) (place / 4) v ≡ fours (take (place / 4 * 4 + 4) ys ++ drop (place / 4 * 4 + 4) olds)
  mixed_set place ys olds v long is =
      let j = place / 4 in
      let end = j * 4 + 4 in
      let before = take place ys ++ drop place olds in
      let after = take end ys ++ drop end olds in
      fours_set before after j v (mixed_long place ys olds long ∙ sym (mixed_long end ys olds long))
      (is ∙ fours_same ys after j (sym (mixed_long end ys olds long)) (λ k at. sym (mixed_low end k ys olds long (omega (arith, at)))))
      (λ k other. dite (dec_le (suc k) place)
      (λ low. mixed_low place k ys olds long (omega (arith, low)) ∙ sym (mixed_low end k ys olds long (omega (arith, low))))
      (λ not. let high = lt_of_not-le not in
      let past : end ≤ k = behind k place other (omega (arith, high)) in
      mixed_high place k ys olds long (omega (arith, high)) ∙ sym (mixed_high end k ys olds long past))) where
        behind : (k place : ℕ) → (k / 4 ≡ place / 4 → ⊥) → place ≤ k → place / 4 * 4 + 4 ≤ k
        behind k place other le = dite (dec_le (place / 4 * 4 + 4) k) (λ h. h) (λ not. let low = lt_of_not-le not in absurd (other (omega (arith, low, le))))

  -- a change that is as it was
  pub mixed_still : (place : ℕ) (ys olds : List Kept) → length olds ≡ length ys → get_or olds place none_kept ≡ get_or ys place none_kept
      → take place ys ++ drop place olds ≡ take (place + 1) ys ++ drop (place + 1) olds
  mixed_still place ys olds long same =
      ext_get_or none_kept (take place ys ++ drop place olds) (take (place + 1) ys ++ drop (place + 1) olds)
      (mixed_long place ys olds long ∙ sym (mixed_long (place + 1) ys olds long))
      (λ k h. dite (dec_le (suc k) place)
      (λ low. mixed_low place k ys olds long (omega (arith, low)) ∙ sym (mixed_low (place + 1) k ys olds long (omega (arith, low))))
      (λ not. let high = lt_of_not-le not in
      dite (ℕ_discrete k place)
      (λ here. mixed_high place k ys olds long (omega (arith, high)) ∙ ap (λ n. get_or olds n none_kept) here ∙ same ∙ ap (λ n. get_or ys n none_kept) (sym here)
      ∙ sym (mixed_low (place + 1) k ys olds long (omega (arith, here))))
      (λ other. let past : place + 1 ≤ k = apart k place other (omega (arith, high)) in
      mixed_high place k ys olds long (omega (arith, high)) ∙ sym (mixed_high (place + 1) k ys olds long past)))) where
        apart : (k place : ℕ) → (k ≡ place → ⊥) → place ≤ k → place + 1 ≤ k
        apart k place other le = dite (dec_le (place + 1) k) (λ h. h) (λ not. let low = lt_of_not-le not in absurd (other (omega (arith, low, le))))

-- how many joins
pub quarter : (n levels : ℕ) → 4 ≤ n → n ≤ 2 ^ levels → (2 ≤ levels) × (n / 4 ≤ 2 ^ (levels - 2))
quarter n zero h k = absurd (omega (arith, h, k))
quarter n (suc zero) h k = absurd (omega (arith, h, k))
quarter n (suc (suc l)) h k =
    let a = pow-succ' 2 (suc l) in
    let b = pow-succ' 2 l in
    (omega arith, let e : l ≡ suc (suc l) - 2 = omega arith in subst (λ m. n / 4 ≤ 2 ^ m) e (omega (arith, a, b, k)))

-- the joins of a prefix: of whole fours, and of the changes behind them
pub prefix_cost : (n k levels old whole added single : ℕ) → k ≤ n → n ≤ 2 ^ levels → ((m : ℕ) → k / 4 < 2 ^ m → whole ≤ old + m) → added ≤ single + k % 4
    → whole + added ≤ old + single + (levels + 1)
prefix_cost n k zero old whole added single within fits few more = omega (arith, within, fits, more, few 0 (omega (arith, within, fits)))
prefix_cost n k (suc zero) old whole added single within fits few more = omega (arith, within, fits, more, few 0 (omega (arith, within, fits)))
prefix_cost n k (suc (suc l)) old whole added single within fits few more =
    let a = pow-succ' 2 (suc l) in
    let b = pow-succ' 2 l in
    dite (dec_le (suc k) (2 ^ suc (suc l)))
    (λ low. omega (arith, more, few l (omega (arith, a, b, low))))
    (λ not. let high = lt_of_not-le not in
    let one : 1 ≤ 2 ^ l = pow_mono (let z : 0 ≤ l = omega arith in z) in
    let all : k ≡ 4 * 2 ^ l = omega (arith, a, b, high, within, fits) in
    omega (arith, more, all, few (suc l) (omega (arith, a, b, all, one))))

-- sizes of lists that are put together
pub of_four_from : (xs : List Kept) → ((k : ℕ) → k < length xs → size_of (get_or xs k none_kept) ≤ 8) → AreOfFour xs
of_four_from [] h = tt
of_four_from (x ∷ xs) h = (h 0 (omega arith), of_four_from xs (λ k low. h (suc k) (omega (arith, low))))

pub of_four_append : (xs ys : List Kept) → AreOfFour xs → AreOfFour ys → AreOfFour (xs ++ ys)
of_four_append [] ys h k = k
of_four_append (x ∷ xs) ys h k = (h.0, of_four_append xs ys h.1 k)

pub of_four_take : (n : ℕ) (xs : List Kept) → AreOfFour xs → AreOfFour (take n xs)
of_four_take zero xs h = tt
of_four_take (suc n) [] h = tt
of_four_take (suc n) (x ∷ xs) h = (h.0, of_four_take n xs h.1)

pub of_four_drop : (n : ℕ) (xs : List Kept) → AreOfFour xs → AreOfFour (drop n xs)
of_four_drop zero xs h = h
of_four_drop (suc n) [] h = tt
of_four_drop (suc n) (x ∷ xs) h = of_four_drop n xs h.1

-- nothing was written yet, and a piece more was written
pub not_written : (at len : ℕ) → len ≡ 0 → (values sums : List Kept) → IsWritten none_kept at len values sums sums
not_written at len none values sums = record { long = refl; inside = λ k h. absurd (omega (arith, none, h)); before = λ k h. refl; behind = λ k h. refl }

pub written_more : (at len more : ℕ) (all old mid new : List Kept) → IsWritten none_kept at len (drop at all) old mid → IsWritten none_kept (at + len) more (drop (at + len) all) mid new
    → IsWritten none_kept at (len + more) (drop at all) old new
written_more at len more all old mid new one other = record {
  long = other.long ∙ one.long;
  inside = λ k h. dite (dec_le (suc k) len)
      (λ low. other.before (at + k) (omega (arith, low)) ∙ one.inside k (omega (arith, low)))
      (λ not. let high = lt_of_not-le not in
      let there : at + k ≡ at + len + (k - len) = omega (arith, high) in
      ap (λ n. get_or new n none_kept) there ∙ other.inside (k - len) (omega (arith, h, high)) ∙ get_or-drop (at + len) all (k - len) none_kept
      ∙ ap (λ n. get_or all n none_kept) (sym there) ∙ sym (get_or-drop at all k none_kept));
  before = λ k h. other.before k (omega (arith, h)) ∙ one.before k h;
  behind = λ k h. other.behind k (omega (arith, h)) ∙ one.behind k (omega (arith, h));
}

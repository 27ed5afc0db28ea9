-- Bytes that are neither the separator nor the release character are passed over.
use Rattle.std.proofs.Common.{◌≡◌, ℕ, zero, suc, ◌+◌, ◌<◌, ◌≤◌, List, [], ◌∷◌, Option, Some, None, Bool, true, false, refl, sym, ap, option_map, length, drop, get_or, arith, nat_eq, ◌==◌}
use Rattle.std.proofs.Common.{take, drop-cons, ◌∙◌, not}
use Rattle.std.proofs.lemmas.List.{drop-drop}
use Rattle.std.proofs.lemmas.Simd.{run_in_chunk_fails}
use Rattle.std.specs.List.{prefix_len}
use Rattle.std.proofs.lemmas.Grind.{common_steps}
use Rattle.memchr.specs.Find.{IsFirstByte, Nowhere, Passes, is_byte2}
use Rattle.edifact_text.specs.Characters.{is_release}
use Rattle.edifact_text.specs.Pieces.{end_from}
use Rattle.edifact_text.proofs.ServedLemmas.{or_off}

-- The byte neither cuts nor releases.
abbrev pub IsQuiet : Option ℕ → ℕ → ℕ → Type 0
IsQuiet r sep b = (is_release r b ≡ false) × (nat_eq b sep ≡ false)

map_more : (n : ℕ) (o : Option ℕ) → option_map (λ k. k + 1) (option_map (λ k. n + k) o) ≡ option_map (λ k. suc n + k) o
map_more n None = refl
map_more n (Some k) = let e : n + k + 1 ≡ suc n + k = omega arith in ap (λ m. Some m) e

map_none : (o : Option ℕ) → option_map (λ k. 0 + k) o ≡ o
map_none None = refl
map_none (Some k) = let e : 0 + k ≡ k = omega arith in ap (λ m. Some m) e

pub passed_over : (r : Option ℕ) (sep n : ℕ) (xs : List ℕ) → n ≤ length xs → ((k : ℕ) → k < n → IsQuiet r sep (get_or xs k 0)) →
    end_from r sep false xs ≡ option_map (λ k. n + k) (end_from r sep false (drop n xs))
passed_over r sep zero xs h quiet = sym (map_none (end_from r sep false xs))
passed_over r sep (suc n) [] h quiet = absurd (omega arith)
passed_over r sep (suc n) (x ∷ xs) h quiet =
    let first = quiet 0 (omega arith) in
    let again = passed_over r sep n xs (omega arith) (λ k less. quiet (suc k) (omega arith)) in
    rw (first.0, first.1, again) (map_more n (end_from r sep false (drop n xs)))

not_true : (b : Bool) → (b ≡ true → ⊥) → b ≡ false
not_true true h = absurd (h refl)
not_true false h = refl

-- What stands beside the separator in the search.
abbrev pub other_of : Option ℕ → ℕ → ℕ
other_of None sep = sep
other_of (Some r) sep = r

quiet_byte : (r : Option ℕ) (sep b : ℕ) → is_byte2 sep (other_of r sep) b ≡ false → IsQuiet r sep b
quiet_byte None sep b h = (refl, (or_off (b == sep) (b == sep) h).0)
quiet_byte (Some r) sep b h = let o = or_off (b == sep) (b == r) h in (o.1, o.0)

none_passes : (r : Option ℕ) (sep n m : ℕ) (xs : List ℕ) → n ≤ length xs → Nowhere (Passes (is_byte2 sep (other_of r sep)) xs) 0 n →
    end_from r sep false xs ≡ option_map (λ k. n + k) (end_from r sep false (drop n xs))
none_passes r sep n m xs h none = passed_over r sep n xs h (λ k less. quiet_byte r sep (get_or xs k 0) (not_true _ (none k (omega arith) less)))

pub up_to_first : (r : Option ℕ) (sep other at : ℕ) (xs : List ℕ) (o : Option ℕ) → other ≡ other_of r sep → o ≡ Some at →
    IsFirstByte (is_byte2 sep other) xs o → end_from r sep false xs ≡ option_map (λ k. at + k) (end_from r sep false (drop at xs))
up_to_first r sep other at xs None is e h = cc
up_to_first r sep other at xs (Some n) is e h =
    let s : n ≡ at = cc in
    let k = rw is at h in
    rw (← s) (none_passes r sep n n xs (omega (arith, k.0.high)) k.0.before)

pub up_to_end : (r : Option ℕ) (sep other : ℕ) (xs : List ℕ) (o : Option ℕ) → other ≡ other_of r sep → o ≡ None →
    IsFirstByte (is_byte2 sep other) xs o →
    end_from r sep false xs ≡ option_map (λ k. length xs + k) (end_from r sep false (drop (length xs) xs))
up_to_end r sep other xs None is e h = none_passes r sep (length xs) 0 xs (omega arith) (rw is at h)
up_to_end r sep other xs (Some n) is e h = cc

-- Before the places of both in a vector stands neither.
pub up_to_near : (r : Option ℕ) (sep other at : ℕ) (xs : List ℕ) → other ≡ other_of r sep → 32 ≤ length xs → at ≤ 32 →
    at ≤ prefix_len (λ b. not (b == sep)) (take 32 xs) → at ≤ prefix_len (λ b. not (b == other)) (take 32 xs) →
    end_from r sep false xs ≡ option_map (λ k. at + k) (end_from r sep false (drop at xs))
up_to_near r sep other at xs is room here h k =
    passed_over r sep at xs (omega arith) (λ j less.
    let e : (get_or xs j 0 == sep) ≡ false = run_in_chunk_fails (λ b. b == sep) xs 0 32 _ 0 room refl j (omega arith) (omega (arith, h, less)) in
    let f : (get_or xs j 0 == other) ≡ false = run_in_chunk_fails (λ b. b == other) xs 0 32 _ 0 room refl j (omega arith) (omega (arith, k, less)) in
    quiet_byte r sep (get_or xs j 0) (rw (← is, e, f) refl))

map_both : (m n : ℕ) (o : Option ℕ) → option_map (λ k. m + k) (option_map (λ k. n + k) o) ≡ option_map (λ k. (m + n) + k) o
map_both m n None = refl
map_both m n (Some k) = let e : m + (n + k) ≡ (m + n) + k = omega arith in ap (λ j. Some j) e

-- Bytes that are passed over, and more behind them.
pub up_to_both : (r : Option ℕ) (sep m n : ℕ) (xs : List ℕ) → end_from r sep false xs ≡ option_map (λ k. m + k) (end_from r sep false (drop m xs)) →
    end_from r sep false (drop m xs) ≡ option_map (λ k. n + k) (end_from r sep false (drop n (drop m xs))) →
    end_from r sep false xs ≡ option_map (λ k. (m + n) + k) (end_from r sep false (drop (m + n) xs))
up_to_both r sep m n xs first second =
    first ∙ ap (option_map (λ k. m + k)) second ∙ map_both m n (end_from r sep false (drop n (drop m xs)))
    ∙ ap (λ l. option_map (λ k. (m + n) + k) (end_from r sep false l)) (drop-drop n m xs)

-- A separator behind bytes that are passed over.
pub ends_at : (r : Option ℕ) (sep at : ℕ) (xs : List ℕ) → at < length xs → get_or xs at 0 ≡ sep → is_release r sep ≡ false →
    end_from r sep false xs ≡ option_map (λ k. at + k) (end_from r sep false (drop at xs)) → end_from r sep false xs ≡ Some at
ends_at r sep at xs here is off passed =
    let same : nat_eq sep sep ≡ true = grind (arith, common_steps) in
    let e : end_from r sep false (drop at xs) ≡ Some 0 = rw (drop-cons xs at 0, is, off, same) refl in
    let f : at + 0 ≡ at = omega arith in
    passed ∙ ap (option_map (λ k. at + k)) e ∙ ap (λ k. Some k) f

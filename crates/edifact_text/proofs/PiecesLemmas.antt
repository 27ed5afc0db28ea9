use Rattle.std.proofs.Common.{◌≡◌, ℕ, zero, ◌-◌, suc, List, [], ◌∷◌, Option, Some, None, Bool, true, false, cond, arith, refl, sym, ap, option_map, ◌+◌, ◌<◌, length, drop, take, add-one, drop-cons, get_or}
use Rattle.std.proofs.lemmas.List.{take_all}
use Rattle.std.proofs.Common.{length-drop}
use Rattle.edifact_text.specs.Pieces.{releases, separates, pieces_from, end_from, with_byte}

map_map : (i j : ℕ) (o : Option ℕ) → j ≡ i + 1 → option_map (λ n. i + n) (option_map (λ n. n + 1) o) ≡ option_map (λ n. j + n) o
map_map i j None h = refl
map_map i j (Some n) h = let e : i + (n + 1) ≡ j + n = omega arith in ap (λ k. Some k) e

-- The index of the first cut, one byte further on.
pub end_next : (r : Option ℕ) (sep : ℕ) (held : Bool) (xs : List ℕ) (i : ℕ) → i < length xs → separates r sep held (get_or xs i 0) ≡ false →
    option_map (λ n. i + n) (end_from r sep held (drop i xs)) ≡ option_map (λ n. (i + 1) + n) (end_from r sep (releases r held (get_or xs i 0))
    (drop (i + 1) xs))
end_next r sep held xs i h off =
    rw (add-one, drop-cons xs i 0, off) (map_map i (suc i) (end_from r sep (releases r held (get_or xs i 0)) (drop (suc i) xs)) (omega arith))

none_step : (b : Bool) (o : Option ℕ) (ps qs : List (List ℕ)) (x : ℕ) (xs : List ℕ) → cond b (Some 0) (option_map (λ n. n + 1) o) ≡ None →
    (o ≡ None → ps ≡ xs ∷ []) → cond b ([] ∷ qs) (with_byte x ps) ≡ (x ∷ xs) ∷ []
none_step true o ps qs x xs h f = cc
none_step false None ps qs x xs h f = rw (f refl) refl
none_step false (Some n) ps qs x xs h f = cc

-- Without a cut there is one piece.
pub cut_none : (r : Option ℕ) (sep : ℕ) (held : Bool) (xs : List ℕ) → end_from r sep held xs ≡ None → pieces_from r sep held xs ≡ xs ∷ []
cut_none r sep held [] h = refl
cut_none r sep held (x ∷ xs) h =
    let again = cut_none r sep (releases r held x) xs in
    none_step (separates r sep held x) (end_from r sep (releases r held x) xs) (pieces_from r sep (releases r held x) xs)
    (pieces_from r sep false xs) x xs h again

some_step : (b : Bool) (o : Option ℕ) (ps : List (List ℕ)) (f : List ℕ → List (List ℕ)) (x : ℕ) (xs : List ℕ) (n : ℕ) →
    cond b (Some 0) (option_map (λ n. n + 1) o) ≡ Some n →
    ((m : ℕ) → o ≡ Some m → ps ≡ take m xs ∷ f (drop (m + 1) xs)) → cond b ([] ∷ f xs) (with_byte x ps) ≡ take n (x ∷ xs) ∷ f (drop (n + 1) (x ∷ xs))
some_step true o ps f x xs n h again = let e : n ≡ 0 = grind arith in rw e refl
some_step false None ps f x xs n h again = cc
some_step false (Some m) ps f x xs n h again =
    let e : n ≡ suc m = grind arith in
    rw (e, again m refl, add-one (suc m), add-one m) refl

-- At a cut, the piece before it and the pieces behind it.
pub cut_some : (r : Option ℕ) (sep : ℕ) (held : Bool) (xs : List ℕ) (n : ℕ) → end_from r sep held xs ≡ Some n →
    pieces_from r sep held xs ≡ take n xs ∷ pieces_from r sep false (drop (n + 1) xs)
cut_some r sep held [] n h = cc
cut_some r sep held (x ∷ xs) n h =
    some_step (separates r sep held x) (end_from r sep (releases r held x) xs) (pieces_from r sep (releases r held x) xs)
    (λ ys. pieces_from r sep false ys) x xs n h (λ m e. cut_some r sep (releases r held x) xs m e)

drop-suc : (n : ℕ) (xs : List ℕ) → drop 1 (drop n xs) ≡ drop (suc n) xs
drop-suc zero xs = refl
drop-suc (suc n) [] = refl
drop-suc (suc n) (x ∷ xs) = drop-suc n xs

pub cut_parts : (r : Option ℕ) (sep : ℕ) (xs : List ℕ) (n : ℕ) (front behind : List ℕ) → end_from r sep false xs ≡ Some n → front ≡ take n xs →
    behind ≡ drop n xs →
    pieces_from r sep false xs ≡ front ∷ pieces_from r sep false (take (length behind - 1) (drop 1 behind))
cut_parts r sep xs n front behind h f b =
    let e : drop (n + 1) xs ≡ drop 1 behind = rw (b, add-one) (sym (drop-suc n xs)) in
    let whole : take (length behind - 1) (drop 1 behind) ≡ drop 1 behind = take_all (length behind - 1) (drop 1 behind) (omega
    (arith, length-drop 1 behind)) in
    rw (whole, f, ← e) (cut_some r sep false xs n h)

with_byte-some : (x : ℕ) (ps : List (List ℕ)) → 0 < length (with_byte x ps)
with_byte-some x [] = omega arith
with_byte-some x (p ∷ ps) = omega arith

at_cond : (b : Bool) (ps qs : List (List ℕ)) → 0 < length qs → 0 < length (cond b ([] ∷ ps) qs)
at_cond true ps qs h = omega arith
at_cond false ps qs h = h

pub some_piece : (r : Option ℕ) (sep : ℕ) (held : Bool) (xs : List ℕ) → 0 < length (pieces_from r sep held xs)
some_piece r sep held [] = omega arith
some_piece r sep held (x ∷ xs) = at_cond (separates r sep held x) (pieces_from r sep false xs) (with_byte x (pieces_from r sep
    (releases r held x) xs)) (with_byte-some x (pieces_from r sep (releases r held x) xs))

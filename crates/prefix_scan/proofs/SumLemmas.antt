-- Sums so far, by place.
use Rattle.std.proofs.Common.{◌≡◌, ℕ, zero, suc, ◌+◌, ◌<◌, List, [], ◌∷◌, length, take, get_or, ap, ◌∙◌, refl, arith}
use Rattle.std.specs.List.{fold, scan}
use Rattle.prefix_scan.specs.Folds.{sums_from}

pub length-sums : {M : Type 0} (op : M → M → M) (a : M) (xs : List M) → length (sums_from op a xs) ≡ length xs
length-sums op a [] = refl
length-sums op a (x ∷ xs) = ap suc (length-sums op (op a x) xs)

at_suc : {M : Type 0} (op : M → M → M) (a : M) (xs : List M) (i : ℕ) (d : M) → i < length xs → get_or (sums_from op a xs) i d ≡ fold op a (take (suc i) xs)
at_suc op a [] i d h = absurd (omega arith)
at_suc op a (x ∷ xs) zero d h = refl
at_suc op a (x ∷ xs) (suc i) d h = at_suc op (op a x) xs i d (omega arith)

pub sums-at : {M : Type 0} (op : M → M → M) (a : M) (xs : List M) (i : ℕ) (d : M) → i < length xs → get_or (sums_from op a xs) i d ≡ fold op a (take (i + 1) xs)
sums-at op a xs i d h = at_suc op a xs i d h ∙ (let e : suc i ≡ i + 1 = omega arith in ap (λ n. fold op a (take n xs)) e)

-- and the sums before each place
pub length-offsets : {M : Type 0} (op : M → M → M) (a : M) (xs : List M) → length (scan op (λ s x. s) a xs) ≡ length xs
length-offsets op a [] = refl
length-offsets op a (x ∷ xs) = ap suc (length-offsets op (op a x) xs)

pub offset_at : {M : Type 0} (op : M → M → M) (a : M) (xs : List M) (i : ℕ) (d : M) → i < length xs → get_or (scan op (λ s x. s) a xs) i d ≡ fold op a (take i xs)
offset_at op a [] i d h = absurd (omega arith)
offset_at op a (x ∷ xs) zero d h = refl
offset_at op a (x ∷ xs) (suc i) d h = offset_at op (op a x) xs i d (omega arith)

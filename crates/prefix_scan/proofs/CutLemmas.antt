-- Ends of equal chunks.
use Rattle.std.proofs.Common.{◌≡◌, ℕ, zero, suc, ◌+◌, ◌-◌, ◌*◌, ◌<◌, ◌≤◌, List, sym, [], ◌∷◌, ◌++◌, length, get_or, min, ap, ◌∙◌, arith, length-append, mul-le-mul_right, below_more, add-mul}
use Rattle.std.proofs.lemmas.List.{get_or_append_left}
use Rattle.std.proofs.Math.Seq.{get_or-append_seam}
use Rattle.prefix_scan.specs.Cut.{start_of, IsRising, Divides, IsEvery}

pub start_of-more : (ends : List ℕ) (k : ℕ) → start_of ends (k + 1) ≡ get_or ends k 0
start_of-more ends k = let e : k + 1 ≡ suc k = omega arith in ap (start_of ends) e

pub times_more : (n m : ℕ) → (n + 1) * m ≡ n * m + m
times_more n m = omega (arith, add-mul n 1 m)

rises : (n len at m : ℕ) (all : List ℕ) → 0 < n → at ≡ m * n → at < len → length all ≡ m + 1 → ((k : ℕ) → k < length all → get_or all k 0 ≡ min ((k + 1) * n) len) → IsRising all
rises n len at m all some is short count each zero h =
    let here = each 0 h in
    let one : (0 + 1) * n ≡ n = omega arith in
    omega arith
rises n len at m all some is short count each (suc k) h =
    let here = each (suc k) h in
    let before = each k (omega arith) in
    let le : k + 1 ≤ m = omega arith in
    let within = mul-le-mul_right n le in
    let next : (suc k + 1) * n ≡ (k + 1) * n + n = omega (arith, times_more (k + 1) n, ap (λ j. j * n) (let e : suc k + 1 ≡ (k + 1) + 1 = omega arith in e)) in
    omega arith

pub every_done : (n len at : ℕ) (ends : List ℕ) → 0 < n → at ≡ length ends * n → at < len → len ≤ at + n → ((k : ℕ) → k < length ends → get_or ends k 0 ≡ (k + 1) * n) → IsEvery n len (ends ++ len ∷ [])
every_done n len at ends some is short near each =
    let all = ends ++ len ∷ [] in
    let m = length ends in
    let count : length all ≡ m + 1 = length-append ends (len ∷ []) in
    let last : get_or all m 0 ≡ len = get_or-append_seam ends len [] 0 in
    let at_each : (k : ℕ) → k < m → get_or all k 0 ≡ (k + 1) * n = λ k h. get_or_append_left ends (len ∷ []) 0 k h ∙ each k h in
    let below_at : (k : ℕ) → k < m → (k + 1) * n ≤ at = λ k h. let le : k + 1 ≤ m = omega arith in let p = mul-le-mul_right n le in omega arith in
    let every_place : (k : ℕ) → k < length all → get_or all k 0 ≡ min ((k + 1) * n) len = λ k h. below_more (λ j. get_or all j 0 ≡ min ((j + 1) * n) len) m
    (λ j low. let x = at_each j low in let y = below_at j low in omega arith)
    (let y = times_more m n in omega arith) k (omega arith) in
    record {
      divides = record {
        some = omega arith;
        rising = rises n len at m all some is short count every_place;
        whole = ap (start_of all) count ∙ start_of-more all m ∙ last;
      };
      each = every_place;
    }

rises_by : (ends : List ℕ) → IsRising ends → (j k last : ℕ) → k + j ≡ last → last ≤ length ends → start_of ends k ≤ start_of ends last
rises_by ends up zero k last e h = let same : k ≡ last = omega arith in let le = ap (start_of ends) same in omega arith
rises_by ends up (suc j) k last e h = let here = up k (omega arith) in let later = rises_by ends up j (suc k) last (omega arith) h in omega arith

-- a chunk begins where an earlier one does or later
pub rises_to : (ends : List ℕ) (k last : ℕ) → IsRising ends → k ≤ last → last ≤ length ends → start_of ends k ≤ start_of ends last
rises_to ends k last up le h = rises_by ends up (last - k) k last (omega arith) h

-- where a chunk begins or ends, the list hasn't ended before
pub start_within : (ends : List ℕ) (len k : ℕ) → Divides ends len → k ≤ length ends → start_of ends k ≤ len
start_within ends len k d h = let w = d.whole in let r = rises_to ends k (length ends) d.rising h (omega arith) in omega arith

-- the last chunk begins within a list that the cuts divide, or that is one shorter
pub last_start_within : (ends : List ℕ) (len n : ℕ) → Divides ends len → len ≤ n + 1 → start_of ends (length ends - 1) ≤ n
last_start_within ends len n d h =
    let last = length ends - 1 in
    let some = d.some in
    let rise = d.rising last (omega arith) in
    let count : length ends ≡ last + 1 = omega arith in
    let top = sym (start_of-more ends last) ∙ ap (start_of ends) (sym count) ∙ d.whole in
    omega arith

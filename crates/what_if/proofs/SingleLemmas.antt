-- A step that comes in or goes away: the sums in front of it, and the sums that are left again.
use Rattle.std.proofs.Common.{◌≡◌, ◌∙◌, ℕ, zero, suc, ◌+◌, ◌-◌, ◌/◌, ◌<◌, ◌≤◌, List, [], ◌∷◌, ◌++◌, length, map, take, drop, get_or, lt_of_not-le, refl, sym, ap, subst, arith}
use Rattle.std.proofs.lemmas.List.{ext_get_or, get_or-drop, get_or-take, get_or_append_left, length-map, take-map}
use Rattle.std.proofs.Math.Seq.{take-append_seam}
use mathlib.Core.Logic.{dite}
use native.Mathlib.Decide.{dec_le}
use Rattle.units_core.specs.declared.frames.Frame.{Frame}
use Rattle.units_core.specs.declared.steps.Step.{Step}
use Rattle.prefix_scan.specs.Counted.{Counted}
use Rattle.prefix_scan.specs.Rows.{paired, IsWritten}
use Rattle.prefix_scan.proofs.EndLemmas.{paired-take}
use Rattle.moment_sums.specs.Kept.{Kept, both_kept, none_kept}
use Rattle.moment_sums.specs.KeptLaws.{kept_laws}
use Rattle.lift_sequence.specs.Sequence.{SequenceRecord}
use Rattle.port_call.specs.Grounds.{GroundRecord}
use Rattle.running_sums.specs.Fours.{AreOfFour, change_of, fours}
use Rattle.what_if.specs.Sessions.{IsSummed}
use Rattle.running_sums.proofs.FourLemmas.{length-fours, of_four_append, of_four_take}

-- the sums of the first changes
fours_front : (xs : List Kept) (i : ℕ) → fours (take i xs) ≡ take (i / 2 / 2) (fours xs)
fours_front xs i = ap (paired both_kept) (paired-take both_kept i xs) ∙ paired-take both_kept (i / 2) (paired both_kept xs)

pub front_same : (frames : List Frame) (old new : List Step) (i k : ℕ) → take i new ≡ take i old → k < i / 4
    → get_or (fours (map (change_of frames) new)) k none_kept ≡ get_or (fours (map (change_of frames) old)) k none_kept
front_same frames old new i k same low =
    let xs = map (change_of frames) old in
    let ys = map (change_of frames) new in
    let inside : k < i / 2 / 2 = omega (arith, low) in
    let fronts : take i ys ≡ take i xs = take-map (change_of frames) i new ∙ ap (map (change_of frames)) same ∙ sym (take-map (change_of frames) i old) in
    sym (get_or-take (i / 2 / 2) (fours ys) k none_kept inside)
    ∙ ap (λ l. get_or l k none_kept) (sym (fours_front ys i) ∙ ap fours fronts ∙ fours_front xs i)
    ∙ get_or-take (i / 2 / 2) (fours xs) k none_kept inside

-- the sums of a list with room for one more are those before, in front
pub front_kept : (xs : List Kept) (x : Kept) (n k : ℕ) → k < n → k < length xs → get_or (take n (xs ++ x ∷ [])) k none_kept ≡ get_or xs k none_kept
front_kept xs x n k low inside = get_or-take n (xs ++ x ∷ []) k none_kept low ∙ get_or_append_left xs (x ∷ []) none_kept k inside

pub small_front : (xs : List Kept) (n : ℕ) → AreOfFour xs → AreOfFour (take n (xs ++ none_kept ∷ []))
small_front xs n h =
    let none = kept_laws.empty_weight in
    of_four_take n (xs ++ none_kept ∷ []) (of_four_append xs (none_kept ∷ []) h (omega (arith, none), tt))

-- and it is left again
take_take : {X : Type 0} (n m : ℕ) (xs : List X) → n ≤ m → take n (take m xs) ≡ take n xs
take_take zero m xs h = refl
take_take (suc n) zero xs h = absurd (omega (arith, h))
take_take (suc n) (suc m) [] h = refl
take_take (suc n) (suc m) (x ∷ xs) h = ap (λ l. x ∷ l) (take_take n m xs (omega (arith, h)))

pub left_again : (xs : List Kept) (x : Kept) (m n : ℕ) → length xs ≡ n → n ≤ m → take n (take m (xs ++ x ∷ [])) ≡ xs
left_again xs x m n is le = take_take n m (xs ++ x ∷ []) le ∙ ap (λ k. take k (xs ++ x ∷ [])) (sym is) ∙ take-append_seam xs (x ∷ [])

-- all sums behind some were renewed, and those are what they have to be
pub all_renewed : (ys old after : List Kept) (four end : ℕ) → length old ≡ length ys → length ys ≤ end → IsWritten none_kept four (end - four) (drop four ys) old after
    → ((k : ℕ) → k < four → get_or old k none_kept ≡ get_or ys k none_kept) → after ≡ ys
all_renewed ys old after four end long within wrote before =
    ext_get_or none_kept after ys (wrote.long ∙ long)
    (λ k h. dite (dec_le (suc k) four)
    (λ low. wrote.before k (omega (arith, low)) ∙ before k (omega (arith, low)))
    (λ not. let high = lt_of_not-le not in
    let is : four + (k - four) ≡ k = omega (arith, high) in
    let less : length after ≡ length ys = wrote.long ∙ long in
    ap (λ n. get_or after n none_kept) (sym is) ∙ wrote.inside (k - four) (omega (arith, h, high, within, less)) ∙ get_or-drop four ys (k - four) none_kept ∙ ap (λ n. get_or ys n none_kept) is))

-- the sums behind a step that came in or went away were made anew, and those in front of it stayed
pub renewed_behind : (frames : List Frame) (old new : List Step) (i n : ℕ) → take i new ≡ take i old → length new / 4 ≡ n → (ready after : List Kept) → length ready ≡ n
    → ((k : ℕ) → k < i / 4 → get_or ready k none_kept ≡ get_or (fours (map (change_of frames) old)) k none_kept)
    → IsWritten none_kept (i / 4) (n - i / 4) (drop (i / 4) (fours (map (change_of frames) new))) ready after
    → after ≡ fours (map (change_of frames) new)
renewed_behind frames old new i n front long ready after is before wrote =
    let ys = map (change_of frames) new in
    let many : length (fours ys) ≡ n = length-fours ys ∙ ap (λ m. m / 4) (length-map new (change_of frames)) ∙ long in
    all_renewed (fours ys) ready after (i / 4) n (is ∙ sym many) (omega (arith, many)) wrote (λ k low. before k low ∙ sym (front_same frames old new i k front low))

-- a list is as it was when the step didn't come in and the room for its sum was let go
pub as_before : (base : GroundRecord) (sequence now : SequenceRecord) (sums longer shorter : Counted Kept) (m n : ℕ) → IsSummed base sequence sums → now ≡ sequence
    → longer.values ≡ take m (sums.values ++ none_kept ∷ []) → shorter.values ≡ take n longer.values → length sums.values ≡ n → n ≤ m → IsSummed base now shorter
as_before base sequence now sums longer shorter m n summed still long short many less =
    let is : shorter.values ≡ sums.values = short ∙ ap (take n) long ∙ left_again sums.values none_kept m n many less in
    subst (λ s. IsSummed base s shorter) (sym still) (record { legal = summed.legal; steps = summed.steps; changes = is ∙ summed.changes })

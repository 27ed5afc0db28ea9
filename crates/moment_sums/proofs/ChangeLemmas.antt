-- What a body changes of a sum.
use Rattle.std.proofs.Common.{◌≡◌, ◌≢◌, ◌∙◌, ℕ, ◌+◌, ◌*◌, ◌^◌, ◌<◌, ◌≤◌, List, [], ◌∷◌, length, map, set, get_or-set_other, below_more, slice_get, Option, None, Some, ℤ, pos, ◌+ℤ◌, ◌*ℤ◌, neg_ℤ, Bool, true, false, unsigned_abs, refl, sym, ap, arith, to_z, of_z, to_z-of_z, FitsSigned, lt_of_not-le}
use Rattle.std.specs.Int.{w64, w128}
use Rattle.std.proofs.lemmas.Int.{fits_signed_from_abs}
use Rattle.std.proofs.lemmas.Option.{slice_get_past}
use mathlib.Core.Logic.{dite}
use native.Mathlib.Decide.{dec_le}
use Rattle.units_core.specs.Bodies.{Mass}
use Rattle.units_core.specs.Interpolation.{at, IsWithin}
use Rattle.units_core.specs.declared.frames.Frame.{Frame}
use Rattle.std.specs.List.{range_with_len}
use Rattle.std.specs.Option.{option_to_list}
use Rattle.std.proofs.lemmas.List.FromFn.{get_or-map-range_with_len, length-map-range_with_len}
use Rattle.units_core.proofs.Signed.{signed_arith, one_part}
use Rattle.units_core.specs.declared.steps.Step.{Step}
use Rattle.prefix_scan.specs.Laws.{most_parts}
use Rattle.moment_sums.specs.Changes.{AreShared, change_in, change_of, signed}
use Rattle.moment_sums.specs.Kept.{IsKept, Kept, added, bodies_of, both_kept, kept_of, none_kept, size_of, values}
use Rattle.moment_sums.specs.KeptLaws.{kept_laws, length-added, nothing_plus, plus_nothing}
use Rattle.moment_sums.specs.Shares.{moment_aft, weight_aft}
use Rattle.moment_sums.specs.Sum.{Weight, MomentX, MomentY, MomentZ, Surface, WeightAft, MomentAft, Sum, at_frame, changed_by, in_option, joined, nothing, of_body}
use Rattle.moment_sums.proofs.KeptLemmas.{at_places, kept_size, kept_values}
use Rattle.moment_sums.proofs.PlaceLemmas.{at_added, same_places}
use Rattle.moment_sums.proofs.StepLemmas.{one_body}

abbrev IsStored : Kept → Type 0
IsStored t = IsKept t.kg t.x t.y t.z t.fsm t.weights_aft t.moments_aft t.parts

-- a number that was changed, read back from its bits
pub change_read : (taken : Bool) (number part r n s : ℤ) → FitsSigned w128 number → FitsSigned w64 part → FitsSigned w128 r → r ≡ to_z w128 (of_z w128 number) +ℤ signed taken (to_z w64 (of_z w64 part))
    → number ≡ n → part ≡ s → to_z w128 (of_z w128 r) ≡ n +ℤ signed taken s
change_read taken number part r n s f g h e is of = to_z-of_z h ∙ e ∙ (λ i. (to_z-of_z f ∙ is) i +ℤ signed taken ((to_z-of_z g ∙ of) i))

pub mass_fits : (z : ℤ) (m : ℕ) → unsigned_abs z ≤ m → m < 2 ^ 63 → FitsSigned w64 z
mass_fits z m h k = fits_signed_from_abs w64 z (omega arith)

-- the same of a mass
pub mass_read : (taken : Bool) (number part r n s : ℤ) → FitsSigned w64 number → FitsSigned w64 part → FitsSigned w64 r → r ≡ to_z w64 (of_z w64 number) +ℤ signed taken (to_z w64 (of_z w64 part))
    → number ≡ n → part ≡ s → to_z w64 (of_z w64 r) ≡ n +ℤ signed taken s
mass_read taken number part r n s f g h e is of = to_z-of_z h ∙ e ∙ (λ i. (to_z-of_z f ∙ is) i +ℤ signed taken ((to_z-of_z g ∙ of) i))

pub nothing_changed : (taken : Bool) → signed taken (pos 0) ≡ pos 0
nothing_changed true = refl
nothing_changed false = refl

-- one more place is changed, and those behind it are as they were
pub set_left : (start ns : List ℤ) (k : ℕ) (v : ℤ) → k < length ns → ((j : ℕ) → k ≤ j → at ns j ≡ at start j) → (j : ℕ) → k + 1 ≤ j → at (set ns k v) j ≡ at start j
set_left start ns k v inside rest = λ j more. let ne : j ≢ k = omega arith in rw get_or-set_other (rest j (omega arith))

pub more_small : (f : ℕ → ℤ) (most k : ℕ) → ((j : ℕ) → j < k → unsigned_abs (f j) ≤ most) → unsigned_abs (f k) ≤ most → (j : ℕ) → j < k + 1 → unsigned_abs (f j) ≤ most
more_small f most k small one = below_more _ _ small one

-- where a body has no share, the number stays as it is
pub stays : (taken : Bool) (start ns : List ℤ) (f : ℕ → ℤ) (k : ℕ) → at ns k ≡ at start k → f k ≡ pos 0
    → ((j : ℕ) → j < k → at ns j ≡ at start j +ℤ signed taken (f j)) → (j : ℕ) → j < k + 1 → at ns j ≡ at start j +ℤ signed taken (f j)
stays taken start ns f k same none done =
    below_more _ _ done (same ∙ sym (plus_nothing (at start k)) ∙ ap (λ z. at start k +ℤ z) (sym (ap (signed taken) none ∙ nothing_changed taken)))

-- the shares at all frames are added; at the places behind them there is none
pub all_shared : (share : ℤ → Mass → ℤ) (most : ℕ) (taken : Bool) (frames all : List Frame) (b : Mass) (old new : List ℤ) (n : ℕ) → frames ≡ all → length frames ≤ n → length new ≡ 16
    → ((k : ℕ) → k < n → at new k ≡ at old k +ℤ signed taken (at_frame share (slice_get frames k) b))
    → ((k : ℕ) → k < n → unsigned_abs (at_frame share (slice_get frames k) b) ≤ most)
    → ((k : ℕ) → n ≤ k → at new k ≡ at old k) → AreShared share most taken all b old new
all_shared share most taken frames all b old new n same few long done small rest = rw (← same) record {
  places = long;
  each = λ k. dite (dec_le n k)
      (λ past. rest k past ∙ sym (plus_nothing (at old k)) ∙ ap (λ z. at old k +ℤ z) (sym (ap (signed taken) (none k past) ∙ nothing_changed taken)))
      (λ not. done k (lt_of_not-le not));
  small = λ k. dite (dec_le n k)
      (λ past. rw (none k past) (omega arith))
      (λ not. small k (lt_of_not-le not));
} where
  none : (k : ℕ) → n ≤ k → at_frame share (slice_get frames k) b ≡ pos 0
  none k past = ap (λ (o : Option Frame). at_frame share o b) (slice_get_past frames k (omega arith))

-- a body that adds up, and the places of its shares
none_past : (taken : Bool) (share : ℤ → Mass → ℤ) (frames : List Frame) (b : Mass) → length frames ≤ 16 → (i : ℕ) → 16 ≤ i → signed taken (at_frame share (slice_get frames i) b) ≡ pos 0
none_past taken share frames b few i past = ap (λ (o : Option Frame). signed taken (at_frame share o b)) (slice_get_past frames i (omega arith)) ∙ nothing_changed taken

signed_small : (taken : Bool) (z : ℤ) (m : ℕ) → unsigned_abs z ≤ m → unsigned_abs (signed taken z) ≤ 1 * m
signed_small false z m h = omega (arith, h)
signed_small true z m h = omega (arith, signed_arith, one_part z, one_part (neg_ℤ z), h)

row_small : (taken : Bool) (share : ℤ → Mass → ℤ) (frames : List Frame) (b : Mass) (m : ℕ) → length frames ≤ 16 → ((i : ℕ) → unsigned_abs (at_frame share (slice_get frames i) b) ≤ m)
    → IsWithin (1 * m) (map (λ i. signed taken (at_frame share (slice_get frames i) b)) (range_with_len 0 16))
row_small taken share frames b m few small i = rw (at_places (λ k. signed taken (at_frame share (slice_get frames k) b)) (none_past taken share frames b few) i) (signed_small taken _ m (small i))

-- what one body changes is kept as a sum of one part
pub change_kept : (taken : Bool) (frames : List Frame) (b : Mass) → length frames ≤ 16 → unsigned_abs (pos b.kg) ≤ 10 ^ 9
    → unsigned_abs (pos b.kg *ℤ b.place.x) ≤ 10 ^ 15 → unsigned_abs (pos b.kg *ℤ b.place.y) ≤ 10 ^ 15 → unsigned_abs (pos b.kg *ℤ b.place.z) ≤ 10 ^ 15 → unsigned_abs b.fsm ≤ 10 ^ 12
    → ((i : ℕ) → unsigned_abs (at_frame weight_aft (slice_get frames i) b) ≤ 10 ^ 9) → ((i : ℕ) → unsigned_abs (at_frame moment_aft (slice_get frames i) b) ≤ 2 * 10 ^ 15)
    → IsStored (kept_of (change_of taken frames b) 1)
change_kept taken frames b few kg x y z fsm weights moments = record {
  few = omega arith;
  kg_within = signed_small taken (pos b.kg) (10 ^ 9) kg;
  x_within = signed_small taken (pos b.kg *ℤ b.place.x) (10 ^ 15) x;
  y_within = signed_small taken (pos b.kg *ℤ b.place.y) (10 ^ 15) y;
  z_within = signed_small taken (pos b.kg *ℤ b.place.z) (10 ^ 15) z;
  fsm_within = signed_small taken b.fsm (10 ^ 12) fsm;
  weights_within = row_small taken weight_aft frames b (10 ^ 9) few weights;
  moments_within = row_small taken moment_aft frames b (2 * 10 ^ 15) few moments;
  weights_places = length-map-range_with_len (λ i. change_of taken frames b (WeightAft i)) 0 16;
  moments_places = length-map-range_with_len (λ i. change_of taken frames b (MomentAft i)) 0 16;
}

-- a row that is changed place by place is the row with the changes added
pub changed_row : (old new : List ℤ) (f : ℕ → ℤ) → length old ≡ 16 → length new ≡ 16 → ((i : ℕ) → at new i ≡ at old i +ℤ f i) → new ≡ added old (map f (range_with_len 0 16))
changed_row old new f long same each =
    let places = length-map-range_with_len f 0 16 in
    same_places new (added old (map f (range_with_len 0 16))) (same ∙ sym (length-added 16 old (map f (range_with_len 0 16)) long places))
    (λ i low. each i ∙ ap (λ z. at old i +ℤ z) (sym (get_or-map-range_with_len f 0 16 i i (pos 0) (omega (arith, low, same)) (omega arith))) ∙ sym (at_added old (map f (range_with_len 0 16)) i))

added_maps : {X : Type 0} (f g : X → ℤ) (xs : List X) → added (map f xs) (map g xs) ≡ map (λ x. f x +ℤ g x) xs
added_maps f g [] = refl
added_maps f g (x ∷ xs) = λ j. (f x +ℤ g x) ∷ added_maps f g xs j

kept_joined : (f g : Sum) (m n : ℕ) → both_kept (kept_of f m) (kept_of g n) ≡ kept_of (joined f g) (m + n)
kept_joined f g m n = λ j. record {
  kg = f Weight +ℤ g Weight;
  x = f MomentX +ℤ g MomentX;
  y = f MomentY +ℤ g MomentY;
  z = f MomentZ +ℤ g MomentZ;
  fsm = f Surface +ℤ g Surface;
  weights_aft = added_maps (λ i. f (WeightAft i)) (λ i. g (WeightAft i)) (range_with_len 0 16) j;
  moments_aft = added_maps (λ i. f (MomentAft i)) (λ i. g (MomentAft i)) (range_with_len 0 16) j;
  parts = m + n;
}

pub size_more : (s : Kept) (f : Sum) (n : ℕ) → size_of s + n ≤ most_parts → size_of (both_kept s (kept_of f n)) ≡ size_of s + n
size_more s f n h =
    let size = kept_size f n in
    let both = kept_laws.op_weight s (kept_of f n) (omega (arith, h, size)) in
    omega (arith, size, both)

-- two changes one behind the other are one
pub two_changes : (s : Kept) (f g all : Sum) (m n : ℕ) → size_of s + (m + n) ≤ most_parts → joined f g ≡ all → both_kept (both_kept s (kept_of f m)) (kept_of g n) ≡ both_kept s (kept_of all (m + n))
two_changes s f g all m n h is =
    let a = kept_size f m in
    let b = kept_size g n in
    kept_laws.assoc s (kept_of f m) (kept_of g n) (omega (arith, h, a, b))
    ∙ ap (both_kept s) (kept_joined f g m n ∙ ap (λ e. kept_of e (m + n)) is)

-- no change
pub no_change : (s : Kept) (f : Sum) → size_of s ≤ most_parts → f ≡ nothing → s ≡ both_kept s (kept_of f 0)
no_change s f h is = sym (ap (λ e. both_kept s (kept_of e 0)) is ∙ kept_laws.right_identity s h)

pub change_of_none : (taken : Bool) (frames : List Frame) → change_in taken frames None ≡ nothing
change_of_none taken frames = λ i c. nothing_changed taken i

pub change_of_some : (taken : Bool) (frames : List Frame) (b : Mass) → change_of taken frames b ≡ change_in taken frames (Some b)
change_of_some taken frames b = λ i c. signed taken (one_body frames b (of_body frames b) refl i c)

pub change_of_step : (frames : List Frame) (s : Step) → joined (change_in true frames s.out) (change_in false frames s.put) ≡ changed_by frames s
change_of_step frames s = λ i c. by (in_option frames s.out c) (in_option frames s.put c) i where
  by : (x y : ℤ) → neg_ℤ x +ℤ y ≡ y +ℤ neg_ℤ x
  by x y = omega (arith, signed_arith)

-- a body's values as they are kept, where it is put in or taken out
pub one_kept : (taken : Bool) (frames : List Frame) (b : Mass) (n : ℕ) → length frames ≤ 16 → values (kept_of (change_of taken frames b) n) ≡ change_of taken frames b
one_kept taken frames b n few = kept_values (change_of taken frames b) n (none_past taken weight_aft frames b few) (none_past taken moment_aft frames b few)

pub body_kept : (frames : List Frame) (b : Mass) (n : ℕ) → length frames ≤ 16 → values (kept_of (of_body frames b) n) ≡ of_body frames b
body_kept frames b n few = one_kept false frames b n few

pub joined_nothing : (s f : Sum) → f ≡ nothing → s ≡ joined s f
joined_nothing s f is = (λ i c. sym (plus_nothing (s c)) i) ∙ ap (joined s) (sym is)

-- what is put in less what is taken out, in two changes
pub joined_step : (frames : List Frame) (s : Step) (sum : Sum) → joined (joined sum (change_in true frames s.out)) (change_in false frames s.put) ≡ joined sum (changed_by frames s)
joined_step frames s sum = (λ i c. plus_assoc (sum c) (change_in true frames s.out c) (change_in false frames s.put c) i) ∙ ap (joined sum) (change_of_step frames s) where
  plus_assoc : (x y z : ℤ) → (x +ℤ y) +ℤ z ≡ x +ℤ (y +ℤ z)
  plus_assoc x y z = omega (arith, signed_arith)

-- where there was nothing before
pub added_to_nothing : (s : Sum) → (n : ℕ) → n ≤ most_parts → both_kept none_kept (kept_of s n) ≡ kept_of s n
added_to_nothing s n few = kept_laws.left_identity (kept_of s n) (let size = kept_size s n in omega (arith, size, few))

pub nothing_joined : (s : Sum) → joined nothing s ≡ s
nothing_joined s = λ i c. nothing_plus (s c) i

pub few_bodies : (s : Step) → bodies_of s ≤ 2
few_bodies s = both s.out s.put where
  both : (a b : Option Mass) → length (option_to_list a) + length (option_to_list b) ≤ 2
  both None None = omega arith
  both None (Some b) = omega arith
  both (Some a) None = omega arith
  both (Some a) (Some b) = omega arith

-- The first value that none is worse than is what joining from the end of a list gives. So the worst
-- of a list is that of its parts, joined.
use Rattle.std.proofs.Common.{◌≡◌, ◌∙◌, ℕ, pos, ◌≤ℤ◌, Bool, true, false, not, ◌&&◌, cond, List, [], ◌∷◌, ◌++◌, find, Option, None, Some, refl, sym, ap, subst}
use Rattle.std.specs.List.{list_all}
use Rattle.units_core.specs.Ratio.{Ratio}
use Rattle.fractions.specs.Order.{is_below}
use Rattle.fractions.proofs.OrderLemmas.{below_chain, below_not_back, below_not_self}
use Rattle.worst_values.specs.Lowest.{lowest}
use Rattle.worst_values.specs.Worst.{Candidate, Safety, is_worse, joined, none_worse, worse_of, worst_of}
use Rattle.worst_values.proofs.LowestTerms.{lowest_positive}

-- the order of safeties, by whether each is beyond and by its ratio
abbrev pub worse : Bool → Ratio → Bool → Ratio → Bool
worse b r c s = cond b (cond c (is_below r s) true) (cond c false (is_below r s))

pub never_self : (a : Safety) → is_worse a a ≡ false
never_self a = by a.beyond where
  by : (b : Bool) → worse b (lowest a.by) b (lowest a.by) ≡ false
  by true = below_not_self (lowest a.by)
  by false = below_not_self (lowest a.by)

back : (b c : Bool) (r s : Ratio) → worse b r c s ≡ true → worse c s b r ≡ false
back true true r s h = below_not_back r s h
back true false r s h = refl
back false true r s h = (cc)
back false false r s h = below_not_back r s h

chain : (b c d : Bool) (x a z : Ratio) → pos 1 ≤ℤ x.bottom → pos 1 ≤ℤ a.bottom → pos 1 ≤ℤ z.bottom → worse b x c a ≡ false → worse c a d z ≡ false → worse b x d z ≡ false
chain true true true x a z p q r h k = below_chain z a x r q p k h
chain true true false x a z p q r h k = (cc)
chain true false d x a z p q r h k = (cc)
chain false true true x a z p q r h k = refl
chain false true false x a z p q r h k = (cc)
chain false false true x a z p q r h k = refl
chain false false false x a z p q r h k = below_chain z a x r q p k h

pub never_back : (a b : Safety) → is_worse a b ≡ true → is_worse b a ≡ false
never_back a b h = back a.beyond b.beyond (lowest a.by) (lowest b.by) h

-- x isn't worse than a, nor a than b: so x isn't worse than b
pub no_worse_on : (x a b : Safety) → is_worse x a ≡ false → is_worse a b ≡ false → is_worse x b ≡ false
no_worse_on x a b h k = chain x.beyond a.beyond b.beyond (lowest x.by) (lowest a.by) (lowest b.by) (lowest_positive x.by) (lowest_positive a.by) (lowest_positive b.by) h k

pub worse_on : (c b a : Safety) → is_worse c b ≡ true → is_worse b a ≡ true → is_worse c a ≡ true
worse_on c b a h k = by (is_worse c a) refl where
  by : (t : Bool) → is_worse c a ≡ t → t ≡ true
  by true e = refl
  by false e = (cc (no_worse_on b c a (never_back c b h) e, k))

-- joined from the end
abbrev worst_by : List Candidate → Option Candidate
worst_by [] = None
worst_by (x ∷ xs) = joined (Some x) (worst_by xs)

-- joins may be grouped in any way
worse_of_three : (a b c : Candidate) → worse_of (worse_of a b) c ≡ worse_of a (worse_of b c)
worse_of_three a b c = by (is_worse b.safety a.safety) (is_worse c.safety b.safety) refl refl where
  by : (s t : Bool) → is_worse b.safety a.safety ≡ s → is_worse c.safety b.safety ≡ t → worse_of (worse_of a b) c ≡ worse_of a (worse_of b c)
  by true true e f =
      let far = worse_on c.safety b.safety a.safety f e in
      ap (λ (k : Bool). worse_of (cond k b a) c) e ∙ ap (λ (k : Bool). cond k c b) f ∙ sym (ap (λ (k : Bool). worse_of a (cond k c b)) f ∙ ap (λ (k : Bool). cond k c a) far)
  by true false e f =
      ap (λ (k : Bool). worse_of (cond k b a) c) e ∙ ap (λ (k : Bool). cond k c b) f ∙ sym (ap (λ (k : Bool). worse_of a (cond k c b)) f ∙ ap (λ (k : Bool). cond k b a) e)
  by false true e f = ap (λ (k : Bool). worse_of (cond k b a) c) e ∙ sym (ap (λ (k : Bool). worse_of a (cond k c b)) f)
  by false false e f =
      let near = no_worse_on c.safety b.safety a.safety f e in
      ap (λ (k : Bool). worse_of (cond k b a) c) e ∙ ap (λ (k : Bool). cond k c a) near ∙ sym (ap (λ (k : Bool). worse_of a (cond k c b)) f ∙ ap (λ (k : Bool). cond k b a) e)

pub joined_none : (o : Option Candidate) → joined o None ≡ o
joined_none None = refl
joined_none (Some x) = refl

pub joined_three : (x y z : Option Candidate) → joined (joined x y) z ≡ joined x (joined y z)
joined_three None y z = refl
joined_three (Some a) None z = refl
joined_three (Some a) (Some b) None = refl
joined_three (Some a) (Some b) (Some c) = ap (λ (w : Candidate). Some w) (worse_of_three a b c)

by_append : (xs ys : List Candidate) → worst_by (xs ++ ys) ≡ joined (worst_by xs) (worst_by ys)
by_append [] ys = refl
by_append (x ∷ xs) ys = ap (joined (Some x)) (by_append xs ys) ∙ sym (joined_three (Some x) (worst_by xs) (worst_by ys))

-- where none is worse than one, none is worse than what this isn't worse than
none_on : (xs : List Candidate) (v x : Candidate) → none_worse xs v ≡ true → is_worse v.safety x.safety ≡ false → none_worse xs x ≡ true
none_on [] v x h k = refl
none_on (y ∷ ys) v x h k = by (λ h. none_on ys v x h k) (is_worse y.safety v.safety) refl (h) where
  by : (none_worse ys v ≡ true → none_worse ys x ≡ true) → (b : Bool) → is_worse y.safety v.safety ≡ b → (not (is_worse y.safety v.safety) && none_worse ys v) ≡ true
      → (not (is_worse y.safety x.safety) && none_worse ys x) ≡ true
  by rest true e h = (cc (ap (λ (b : Bool). not b && none_worse ys v) e, h))
  by rest false e h =
      let all : none_worse ys v ≡ true = sym (ap (λ (b : Bool). not b && none_worse ys v) e) ∙ h in
      λ j. not (no_worse_on y.safety v.safety x.safety e k j) && rest all j

empty_by : (xs : List Candidate) → worst_by xs ≡ None → xs ≡ []
empty_by [] e = refl
empty_by (x ∷ xs) e = by (worst_by xs) e where
  by : (o : Option Candidate) → joined (Some x) o ≡ None → x ∷ xs ≡ []
  by None e = (cc)
  by (Some v) e = (cc)

and_false : (b : Bool) → (b && false) ≡ false
and_false true = refl
and_false false = refl

-- which of two candidates their worse one is
module _ (x v w : Candidate) where
  second : is_worse v.safety x.safety ≡ true → joined (Some x) (Some v) ≡ Some w → v ≡ w
  second g e = let is : Some v ≡ Some w = sym (ap (λ (b : Bool). Some (cond b v x)) g) ∙ e in (cc)

  first : is_worse v.safety x.safety ≡ false → joined (Some x) (Some v) ≡ Some w → x ≡ w
  first g e = let is : Some x ≡ Some w = sym (ap (λ (b : Bool). Some (cond b v x)) g) ∙ e in (cc)

-- none is worse than what joining gives
none_step : (x : Candidate) (xs : List Candidate) (w : Candidate) → ((v : Candidate) → worst_by xs ≡ Some v → none_worse xs v ≡ true)
    → joined (Some x) (worst_by xs) ≡ Some w → none_worse (x ∷ xs) w ≡ true
none_step x xs w rest e = by (worst_by xs) refl e where
  by : (o : Option Candidate) → worst_by xs ≡ o → joined (Some x) o ≡ Some w → none_worse (x ∷ xs) w ≡ true
  by None f e =
      let same : x ≡ w = (cc) in
      ap (λ (l : List Candidate). not (is_worse x.safety w.safety) && none_worse l w) (empty_by xs f)
      ∙ ap (λ (k : Candidate). not (is_worse k.safety w.safety) && true) same ∙ ap (λ b. not b && true) (never_self w.safety)
  by (Some v) f e = pick (is_worse v.safety x.safety) refl where
    pick : (b : Bool) → is_worse v.safety x.safety ≡ b → none_worse (x ∷ xs) w ≡ true
    pick true g = subst (λ (k : Candidate). none_worse (x ∷ xs) k ≡ true) (second x v w g e) (λ j. not (never_back v.safety x.safety g j) && rest v f j)
    pick false g = subst (λ (k : Candidate). none_worse (x ∷ xs) k ≡ true) (first x v w g e) (λ j. not (never_self x.safety j) && none_on xs v x (rest v f) g j)

none_by : (xs : List Candidate) (w : Candidate) → worst_by xs ≡ Some w → none_worse xs w ≡ true
none_by [] w e = (cc)
none_by (x ∷ xs) w e = none_step x xs w (none_by xs) e

-- one that it is worse than has a worse one
fails_step : (y : Candidate) (ys : List Candidate) (w x : Candidate) → ((v : Candidate) → worst_by ys ≡ Some v → is_worse v.safety x.safety ≡ true → none_worse ys x ≡ false)
    → joined (Some y) (worst_by ys) ≡ Some w → is_worse w.safety x.safety ≡ true → none_worse (y ∷ ys) x ≡ false
fails_step y ys w x rest e h = by (worst_by ys) refl e where
  own : y ≡ w → none_worse (y ∷ ys) x ≡ false
  own same = ap (λ (b : Bool). not b && none_worse ys x) (ap (λ (k : Candidate). is_worse k.safety x.safety) same ∙ h)

  by : (o : Option Candidate) → worst_by ys ≡ o → joined (Some y) o ≡ Some w → none_worse (y ∷ ys) x ≡ false
  by None f e = let same : y ≡ w = (cc) in own same
  by (Some v) f e = pick (is_worse v.safety y.safety) refl where
    pick : (b : Bool) → is_worse v.safety y.safety ≡ b → none_worse (y ∷ ys) x ≡ false
    pick true g =
        let same = second y v w g e in
        ap (λ (b : Bool). not (is_worse y.safety x.safety) && b) (rest v f (ap (λ (k : Candidate). is_worse k.safety x.safety) same ∙ h)) ∙ and_false (not (is_worse y.safety x.safety))
    pick false g = own (first y v w g e)

fails_by : (xs : List Candidate) (w x : Candidate) → worst_by xs ≡ Some w → is_worse w.safety x.safety ≡ true → none_worse xs x ≡ false
fails_by [] w x e h = (cc)
fails_by (y ∷ ys) w x e h = fails_step y ys w x (λ v. fails_by ys v x) e h

-- so a test that it passes, and each that it is worse than fails, finds it
find_step : (p : Candidate → Bool) (x : Candidate) (xs : List Candidate) (w : Candidate) → (worst_by xs ≡ Some w → find p xs ≡ Some w)
    → joined (Some x) (worst_by xs) ≡ Some w → p w ≡ true → ((k : Candidate) → is_worse w.safety k.safety ≡ true → p k ≡ false) → find p (x ∷ xs) ≡ Some w
find_step p x xs w rest e here before = by (worst_by xs) refl e where
  own : x ≡ w → find p (x ∷ xs) ≡ Some w
  own same = ap (λ (b : Bool). cond b (Some x) (find p xs)) (ap p same ∙ here) ∙ ap (λ (k : Candidate). Some k) same

  by : (o : Option Candidate) → worst_by xs ≡ o → joined (Some x) o ≡ Some w → find p (x ∷ xs) ≡ Some w
  by None f e = let same : x ≡ w = (cc) in own same
  by (Some v) f e = pick (is_worse v.safety x.safety) refl where
    pick : (b : Bool) → is_worse v.safety x.safety ≡ b → find p (x ∷ xs) ≡ Some w
    pick true g =
        let same = second x v w g e in
        ap (λ (b : Bool). cond b (Some x) (find p xs)) (before x (ap (λ (k : Candidate). is_worse k.safety x.safety) (sym same) ∙ g)) ∙ rest (f ∙ ap (λ (k : Candidate). Some k) same)
    pick false g = own (first x v w g e)

find_by : (p : Candidate → Bool) (xs : List Candidate) (w : Candidate) → worst_by xs ≡ Some w → p w ≡ true → ((k : Candidate) → is_worse w.safety k.safety ≡ true → p k ≡ false) → find p xs ≡ Some w
find_by p [] w e here before = (cc)
find_by p (x ∷ xs) w e here before = find_step p x xs w (λ f. find_by p xs w f here before) e here before

worst_is : (xs : List Candidate) → worst_of xs ≡ worst_by xs
unfolding worst_of
worst_is xs = by (worst_by xs) refl where
  by : (o : Option Candidate) → worst_by xs ≡ o → find (none_worse xs) xs ≡ o
  by None f = ap (λ (l : List Candidate). find (none_worse l) l) (empty_by xs f)
  by (Some w) f = find_by (none_worse xs) xs w f (none_by xs w f) (λ k. fails_by xs w k f)

-- the worst of two parts is that of their worst ones
pub worst_append : (xs ys : List Candidate) → worst_of (xs ++ ys) ≡ joined (worst_of xs) (worst_of ys)
worst_append xs ys = worst_is (xs ++ ys) ∙ by_append xs ys ∙ (λ j. joined (sym (worst_is xs) j) (sym (worst_is ys) j))

pub worst_one : (x : Candidate) → worst_of (x ∷ []) ≡ Some x
worst_one x = worst_is (x ∷ [])

pub worst_none : worst_of [] ≡ None
worst_none = worst_is []

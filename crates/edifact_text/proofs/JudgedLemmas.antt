-- Steps of judging a list of segments.
use Rattle.std.proofs.Common.{◌≡◌, ℕ, List, [], ◌∷◌, ◌++◌, Option, Some, None, Result, Ok, Err, Bool, true, false, not, cond, refl, codes, ap, ◌∙◌}
use Rattle.edifact_text.specs.declared.faults.EdiFault.{EdiFault}
use Rattle.edifact_text.specs.declared.faults.EdiCode.{EdiCode}
use Rattle.edifact_text.specs.declared.faults.EdiCode.TheVariants.{Truncated}
use Rattle.edifact_text.specs.declared.faults.Kind.{Kind}
use Rattle.edifact_text.specs.declared.service.Service.{Service}
use Rattle.edifact_text.specs.Interchange.{Parts}
use Rattle.edifact_text.specs.Rows.{is_text, Rows, row_of, first_of, is_closed, is_tag, ends_with}
use Rattle.edifact_text.specs.Reading.{row, fault, ◌>>=◌, Stretch, segment_of, as_result, judged}
use Rattle.edifact_text.proofs.RowLemmas.{is_the_text}

-- binds
pub bind_step : {A B : Type 0} (w : Result Unit EdiFault) (x : A) (r : A → Result Unit EdiFault) (k : A → Result B EdiFault) →
    ((w >>= λ _. Ok x) >>= λ y. (r y >>= λ _. k y)) ≡ ((w >>= λ _. r x) >>= λ _. k x)
bind_step (Ok u) x r k = refl
bind_step (Err e) x r k = refl

pub bind_assoc : {A B C : Type 0} (m : Result A EdiFault) (f : A → Result B EdiFault) (g : B → Result C EdiFault) →
    ((m >>= f) >>= g) ≡ (m >>= λ x. (f x >>= g))
bind_assoc (Ok u) f g = refl
bind_assoc (Err e) f g = refl

pub bind_same : {A B : Type 0} (m : Result A EdiFault) (f g : A → Result B EdiFault) → ((x : A) → m ≡ Ok x → f x ≡ g x) → (m >>= f) ≡ (m >>= g)
bind_same (Ok x) f g h = h x refl
bind_same (Err e) f g h = refl

pub by_row : {B : Type 0} (o : Option EdiCode) (place : ℕ) (f g : Result B EdiFault) → (o ≡ None → f ≡ g) →
    (as_result o place >>= λ _. f) ≡ (as_result o place >>= λ _. g)
by_row None place f g h = h refl
by_row (Some c) place f g h = refl

-- tags
pub ends_snoc : (tag : List ℕ) (xs : List Parts) (x : Parts) → ends_with tag (xs ++ x ∷ []) ≡ is_tag x tag
ends_snoc tag [] x = refl
ends_snoc tag (y ∷ []) x = refl
ends_snoc tag (y ∷ z ∷ more) x = ends_snoc tag (z ∷ more) x

pub other_text : (xs a b : List ℕ) → is_text xs a ≡ true → is_text a b ≡ false → is_text xs b ≡ false
other_text xs a b h d = ap (λ ys. is_text ys b) (is_the_text xs a h) ∙ d

pub unb_unz : is_text (codes "UNB") (codes "UNZ") ≡ false
unfolding is_text
unb_unz = refl

pub unh_unz : is_text (codes "UNH") (codes "UNZ") ≡ false
unfolding is_text
unh_unz = refl

pub unt_unz : is_text (codes "UNT") (codes "UNZ") ≡ false
unfolding is_text
unt_unz = refl

-- rows that don't apply
abbrev pub NoneApplies : Rows → Type 0
NoneApplies [] = Unit {0}
NoneApplies (row ∷ more) = (row.0 ≡ false) × NoneApplies more

off_step : (b : Bool) (code : EdiCode) (more : Rows) → cond b (Some code) (first_of more) ≡ None → (first_of more ≡ None → NoneApplies more) →
    (b ≡ false) × NoneApplies more
off_step true code more h again = cc
off_step false code more h again = (refl, again h)

pub none_applies : (rows : Rows) → first_of rows ≡ None → NoneApplies rows
none_applies [] h = tt
none_applies ((b, code) ∷ more) h = off_step b code more h (none_applies more)

pub not_false : (b : Bool) → not b ≡ false → b ≡ true
not_false true h = refl
not_false false h = cc

-- what is judged at an interchange that isn't closed
pub open_step : (kind : Kind) (sv : Service) (len : ℕ) (before : List Parts) (s t : Stretch) (more : List Stretch) → is_closed before ≡ false →
    judged kind sv len before (s ∷ t ∷ more) ≡ (as_result (row_of kind before (segment_of sv s.bytes)) s.place >>= λ _. judged kind sv len
    (before ++ segment_of sv s.bytes ∷ []) (t ∷ more))
open_step kind sv len before s t more h = rw h refl

pub open_end : (kind : Kind) (sv : Service) (len : ℕ) (before : List Parts) (s : Stretch) → is_closed before ≡ false →
    judged kind sv len before (s ∷ []) ≡ fault Truncated len
open_end kind sv len before s h = rw h refl

-- Segments to which no row applies.
use Rattle.std.proofs.Common.{◌≡◌, ℕ, ◌⊎◌, inl, inr, List, [], ◌∷◌, ◌++◌, None, Bool, true, false, refl, sym, ap, ◌∙◌, append_assoc, subst, codes}
use Rattle.std.proofs.lemmas.List.{map-append}
use Rattle.edifact_text.specs.declared.faults.Kind.{Kind}
use Rattle.edifact_text.specs.Interchange.{Placed}
use Rattle.edifact_text.specs.Rows.{row_of, is_closed, is_tag, ends_with}
use Rattle.edifact_text.specs.Faults.{parts_of, AreClean}
use Rattle.edifact_text.proofs.JudgedLemmas.{ends_snoc}
use Rattle.edifact_text.proofs.StageLemmas.{header_open, message_open, inside_open}

not_empty : (b : List Placed) (y : Placed) (c : List Placed) → [] ≡ b ++ y ∷ c → ⊥
not_empty [] y c h = cc
not_empty (z ∷ b) y c h = cc

-- Where one of the segments stands, if the last is set apart.
one_of : (xs : List Placed) (x : Placed) (b : List Placed) (y : Placed) (c : List Placed) → xs ++ x ∷ [] ≡ b ++ y ∷ c →
    ((b ≡ xs) × (y ≡ x)) ⊎ ((d : List Placed) × (xs ≡ b ++ y ∷ d))
one_of [] x [] y c h = let e : y ≡ x = cc in inl (refl, e)
one_of [] x (z ∷ b) y c h = let e : [] ≡ b ++ y ∷ c = cc in absurd (not_empty b y c e)
one_of (w ∷ xs) x [] y c h = let e : w ≡ y = cc in inr (xs, ap (λ v. v ∷ xs) e)
one_of (w ∷ xs) x (z ∷ b) y c h =
    let e : z ≡ w = cc in
    let f : xs ++ x ∷ [] ≡ b ++ y ∷ c = cc in
    elim (one_of xs x b y c f) [
      | inl k ↦ let g : z ∷ b ≡ w ∷ xs = cc in inl (g, k.1)
      | inr k ↦ let m : xs ≡ b ++ y ∷ k.0 = k.1 in let g : w ∷ xs ≡ z ∷ (b ++ y ∷ k.0) = cc in inr (k.0, g)
    ]

pub parts_snoc : (xs : List Placed) (x : Placed) → parts_of (xs ++ x ∷ []) ≡ parts_of xs ++ x.parts ∷ []
parts_snoc xs x = map-append (λ (s : Placed). s.parts) xs (x ∷ [])

pub clean_none : (kind : Kind) → AreClean kind []
clean_none kind b s c h = absurd (not_empty b s c h)

clean_at : (kind : Kind) (xs : List Placed) (x : Placed) → AreClean kind xs → is_closed (parts_of xs) ≡ false →
    row_of kind (parts_of xs) x.parts ≡ None →
    (b : List Placed) (y : Placed) → ((b ≡ xs) × (y ≡ x)) ⊎ ((d : List Placed) × (xs ≡ b ++ y ∷ d)) → (is_closed (parts_of b) ≡ false) ×
    (row_of kind (parts_of b) y.parts ≡ None)
clean_at kind xs x c off none b y (inl k) = (
  ap (λ (zs : List Placed). is_closed (parts_of zs)) k.0 ∙ off,
  ap (λ (zs : List Placed). row_of kind (parts_of zs) y.parts) k.0 ∙ (ap (λ
      (z : Placed). row_of kind (parts_of xs) z.parts) k.1 ∙ none),
)
clean_at kind xs x c off none b y (inr k) = c b y k.0 k.1

-- One more segment to which no row applies.
pub clean_more : (kind : Kind) (xs : List Placed) (x : Placed) → AreClean kind xs → is_closed (parts_of xs) ≡ false →
    row_of kind (parts_of xs) x.parts ≡ None → AreClean kind (xs ++ x ∷ [])
clean_more kind xs x c off none b y d h = clean_at kind xs x c off none b y (one_of xs x b y d h)

-- The last of some segments.
pub record Last (xs : List Placed) : Type 0 where
  pub front : List Placed
  pub last : Placed
  pub are : xs ≡ front ++ last ∷ []

pub last_of : (x : Placed) (xs : List Placed) → Last (x ∷ xs)
last_of x [] = record { front = []; last = x; are = refl }
last_of x (y ∷ ys) = let l = last_of y ys in record { front = x ∷ l.front; last = l.last; are = ap (λ zs. x ∷ zs) l.are }

pub ends_last : (tag : List ℕ) (xs : List Placed) (x : Placed) → ends_with tag (parts_of (xs ++ x ∷ [])) ≡ is_tag x.parts tag
ends_last tag xs x = ap (ends_with tag) (parts_snoc xs x) ∙ ends_snoc tag (parts_of xs) x.parts

-- Clean segments that the interchange trailer ends are two headers, a body and two trailers.
pub record Enveloped (segments : List Placed) : Type 0 where
  pub unb : Placed
  pub unh : Placed
  pub body : List Placed
  pub unt : Placed
  pub unz : Placed
  pub are : segments ≡ unb ∷ unh ∷ body ++ unt ∷ unz ∷ []
  pub message_ends : is_tag unt.parts (codes "UNT") ≡ true
  pub interchange_ends : is_tag unz.parts (codes "UNZ") ≡ true

with_trailer : (kind : Kind) (a b : Placed) (init : List Placed) (z : Placed) → ends_with (codes "UNT") (parts_of init) ≡ true →
    is_tag z.parts (codes "UNZ") ≡ true → Enveloped (a ∷ b ∷ (init ++ z ∷ []))
with_trailer kind a b [] z h k = cc
with_trailer kind a b (c ∷ more) z h k =
    let l = last_of c more in
    record {
      unb = a;
      unh = b;
      body = l.front;
      unt = l.last;
      unz = z;
      are = ap (λ zs. a ∷ b ∷ (zs ++ z ∷ [])) l.are ∙ ap (λ zs. a ∷ b ∷ zs) (append_assoc l.front (l.last ∷ []) (z ∷ []));
      message_ends = sym (ends_last (codes "UNT") l.front l.last) ∙ (ap (λ (zs : List Placed). ends_with (codes "UNT") (parts_of zs)) (sym l.are)
          ∙ h);
      interchange_ends = k;
    }

at_closed : (kind : Kind) (a b : Placed) (init : List Placed) (z : Placed) (x : Bool) → ends_with (codes "UNT") (parts_of init) ≡ x →
    row_of kind (parts_of (a ∷ b ∷ init)) z.parts ≡ None →
    is_tag z.parts (codes "UNZ") ≡ true → Enveloped (a ∷ b ∷ (init ++ z ∷ []))
at_closed kind a b init z true e h k = with_trailer kind a b init z e k
at_closed kind a b init z false e h k = let f = inside_open kind a.parts b.parts (parts_of init) z.parts e h in cc

pub enveloped : (kind : Kind) (segments : List Placed) → AreClean kind segments → is_closed (parts_of segments) ≡ true → Enveloped segments
enveloped kind [] c h = cc
enveloped kind (a ∷ []) c h = let f = header_open kind a.parts (c [] a [] refl).1 in cc
enveloped kind (a ∷ b ∷ []) c h = let f = message_open kind a.parts b.parts (c (a ∷ []) b [] refl).1 in cc
enveloped kind (a ∷ b ∷ d ∷ more) c h =
    let l = last_of d more in
    let whole : a ∷ b ∷ d ∷ more ≡ (a ∷ b ∷ l.front) ++ l.last ∷ [] = ap (λ zs. a ∷ b ∷ zs) l.are in
    let none = (c (a ∷ b ∷ l.front) l.last [] whole).1 in
    let ends = sym (ends_last (codes "UNZ") (a ∷ b ∷ l.front) l.last) ∙ (ap (λ (zs : List Placed). is_closed (parts_of zs)) (sym whole) ∙ h) in
    subst Enveloped (sym whole) (at_closed kind a b l.front l.last (ends_with (codes "UNT") (parts_of l.front)) refl none ends)

-- What can be relied on of service characters that serve.
use Rattle.std.proofs.Common.{◌≡◌, ℕ, ◌⊎◌, inl, inr, Bool, true, false, cond, ◌||◌, ◌==◌, Option, Some, None, refl, sym, ap, ◌∙◌, arith}
use Rattle.std.proofs.lemmas.Grind.{common_steps}
use Rattle.edifact_text.specs.declared.service.Service.{Service}
use Rattle.edifact_text.specs.Characters.{is_release, is_blank, is_plain, is_unfit, is_bad_release, is_bad_service, release_of, default_service}
use Rattle.edifact_text.specs.Spelling.{Apart}

pub record Served (sv : Service) : Type 0 where
  pub apart : Apart sv
  pub release : (b : ℕ) → is_blank b ≡ true → is_release sv.release b ≡ false
  pub terminator : (b : ℕ) → is_blank b ≡ true → (b == sv.terminator) ≡ false

abbrev pub Blank : ℕ → Type 0
Blank b = (b ≡ 13) ⊎ ((b ≡ 10) ⊎ ((b ≡ 9) ⊎ (b ≡ 32)))

pub same_number : (a b : ℕ) → (a == b) ≡ true → a ≡ b
same_number a b h = grind (arith, common_steps, h)

blank_step : (x y z w : Bool) (b : ℕ) → (b == 13) ≡ x → (b == 10) ≡ y → (b == 9) ≡ z → (b == 32) ≡ w → (x || y || z || w) ≡ true → Blank b
blank_step true y z w b e f g k h = inl (same_number b 13 e)
blank_step false true z w b e f g k h = inr (inl (same_number b 10 f))
blank_step false false true w b e f g k h = inr (inr (inl (same_number b 9 g)))
blank_step false false false true b e f g k h = inr (inr (inr (same_number b 32 k)))
blank_step false false false false b e f g k h = cc

pub blank_is : (b : ℕ) → is_blank b ≡ true → Blank b
blank_is b h = blank_step (b == 13) (b == 10) (b == 9) (b == 32) b refl refl refl refl h

pub or_off : (a b : Bool) → (a || b) ≡ false → (a ≡ false) × (b ≡ false)
or_off true b h = cc
or_off false b h = (refl, h)

swapped_off : (a b : ℕ) → (a == b) ≡ false → (b == a) ≡ false
swapped_off a b h = grind (arith, common_steps, h)

-- no character that serves is a blank
plain_blank : (a b : ℕ) → Blank b → b ≡ a → is_unfit a ≡ true
plain_blank a b (inl h) e = let k : a ≡ 13 = sym e ∙ h in ap is_unfit k
plain_blank a b (inr (inl h)) e = let k : a ≡ 10 = sym e ∙ h in ap is_unfit k
plain_blank a b (inr (inr (inl h))) e = let k : a ≡ 9 = sym e ∙ h in ap is_unfit k
plain_blank a b (inr (inr (inr h))) e = let k : a ≡ 32 = sym e ∙ h in ap is_unfit k

apart_by : (a b : ℕ) (x : Bool) → (b == a) ≡ x → (b ≡ a → is_unfit a ≡ true) → is_unfit a ≡ false → (b == a) ≡ false
apart_by a b true e h k = let u = h (same_number b a e) in cc
apart_by a b false e h k = e

no_blank : (a b : ℕ) → is_blank b ≡ true → is_unfit a ≡ false → (b == a) ≡ false
no_blank a b h k = apart_by a b (b == a) refl (plain_blank a b (blank_is b h)) k

-- a release character that was set
release_unfit : (byte r : ℕ) (x : Bool) → (byte == 32) ≡ x → Some r ≡ cond x None (Some byte) → is_plain r ≡ false → is_unfit r ≡ false
release_unfit byte r true e h k = cc
release_unfit byte r false e h k = let d : r ≡ byte = cc in rw (k, d, e) refl

at_release : (sv : Service) (byte : ℕ) (o : Option ℕ) → o ≡ release_of byte → is_bad_release sv o ≡ false → (b : ℕ) →
    (is_blank b ≡ true → is_release o b ≡ false)
    × (b ≡ sv.component → is_release o b ≡ false) × (b ≡ sv.element → is_release o b ≡ false) × (b ≡ sv.terminator → is_release o b ≡ false)
at_release sv byte None e h b = ((λ _. refl), (λ _. refl), (λ _. refl), (λ _. refl))
at_release sv byte (Some r) e h b =
    let t = or_off (is_plain r || r == sv.component || r == sv.element) (r == sv.terminator) h in
    let l = or_off (is_plain r || r == sv.component) (r == sv.element) t.0 in
    let c = or_off (is_plain r) (r == sv.component) l.0 in (
      (λ k. no_blank r b k (release_unfit byte r (byte == 32) refl e c.0)),
      (λ k. let d : (b == r) ≡ false = rw k (swapped_off r sv.component c.1) in d),
      (λ k. let d : (b == r) ≡ false = rw k (swapped_off r sv.element l.1) in d),
      (λ k. let d : (b == r) ≡ false = rw k (swapped_off r sv.terminator t.1) in d),
    )

pub served : (sv : Service) (byte : ℕ) → sv.release ≡ release_of byte → is_bad_service sv ≡ false → Served sv
served sv byte e h =
    let g = or_off (is_unfit sv.component || is_unfit sv.element || is_unfit sv.terminator || sv.component == sv.element || sv.component == sv.terminator || sv.element == sv.terminator) (is_bad_release sv sv.release) h in
    let et = or_off (is_unfit sv.component || is_unfit sv.element || is_unfit sv.terminator || sv.component == sv.element || sv.component == sv.terminator) (sv.element == sv.terminator) g.0 in
    let ct = or_off (is_unfit sv.component || is_unfit sv.element || is_unfit sv.terminator || sv.component == sv.element)
    (sv.component == sv.terminator) et.0 in
    let ce = or_off (is_unfit sv.component || is_unfit sv.element || is_unfit sv.terminator) (sv.component == sv.element) ct.0 in
    let t = or_off (is_unfit sv.component || is_unfit sv.element) (is_unfit sv.terminator) ce.0 in
    record {
      apart = record {
        component = (at_release sv byte sv.release e g.1 sv.component).1 refl;
        element = (at_release sv byte sv.release e g.1 sv.element).2 refl;
        terminator = (at_release sv byte sv.release e g.1 sv.terminator).3 refl;
        component_element = ce.1;
        component_terminator = ct.1;
        element_terminator = et.1;
      };
      release = λ b k. (at_release sv byte sv.release e g.1 b).0 k;
      terminator = λ b k. no_blank sv.terminator b k t.1;
    }

pub served_default : Served default_service
served_default = served default_service 63 refl refl

-- What can be relied on where the service characters serve: no letter or digit is one of them.
use Rattle.std.proofs.Common.{◌≡◌, ℕ, Bool, true, false, not, ◌||◌, ◌==◌, Option, Some, None, refl, sym, ap, ◌∙◌}
use Rattle.edifact_text.specs.declared.service.Service.{Service}
use Rattle.edifact_text.specs.Characters.{is_release, is_plain, is_unfit, is_bad_release, is_bad_service, serves}
use Rattle.edifact_text.specs.Spelling.{is_service}
use Rattle.edifact_text.specs.Views.{is_capital}
use Rattle.edifact_text.proofs.ServedLemmas.{same_number, or_off}

apart_by : (a b : ℕ) (x : Bool) → (b == a) ≡ x → is_plain b ≡ true → is_plain a ≡ false → (b == a) ≡ false
apart_by a b true e h k =
    let s = same_number b a e in
    let u : is_plain a ≡ true = ap is_plain (sym s) ∙ h in cc
apart_by a b false e h k = e

plain_apart : (a b : ℕ) → is_plain b ≡ true → is_plain a ≡ false → (b == a) ≡ false
plain_apart a b h k = apart_by a b (b == a) refl h k

unfit_apart : (a b : ℕ) → is_plain b ≡ true → is_unfit a ≡ false → (b == a) ≡ false
unfit_apart a b h k = plain_apart a b h (or_off (is_plain a) (a == 32) k).0

release_apart : (sv : Service) (o : Option ℕ) (b : ℕ) → is_plain b ≡ true → is_bad_release sv o ≡ false → is_release o b ≡ false
release_apart sv None b h k = refl
release_apart sv (Some r) b h k =
    let t = or_off (is_plain r || r == sv.component || r == sv.element) (r == sv.terminator) k in
    let e = or_off (is_plain r || r == sv.component) (r == sv.element) t.0 in
    plain_apart r b h (or_off (is_plain r) (r == sv.component) e.0).0

pub record Parted (sv : Service) : Type 0 where
  pub component : is_unfit sv.component ≡ false
  pub element : is_unfit sv.element ≡ false
  pub terminator : is_unfit sv.terminator ≡ false
  pub release : is_bad_release sv sv.release ≡ false
  pub separators : (sv.component == sv.element) ≡ false

off : (b : Bool) → not b ≡ true → b ≡ false
off true h = cc
off false h = refl

pub parted : (sv : Service) → serves sv ≡ true → Parted sv
unfolding serves
parted sv fit =
    let h : is_bad_service sv ≡ false = off (is_bad_service sv) fit in
    let g = or_off (is_unfit sv.component || is_unfit sv.element || is_unfit sv.terminator || sv.component == sv.element || sv.component == sv.terminator || sv.element == sv.terminator) (is_bad_release sv sv.release) h in
    let et = or_off (is_unfit sv.component || is_unfit sv.element || is_unfit sv.terminator || sv.component == sv.element || sv.component == sv.terminator) (sv.element == sv.terminator) g.0 in
    let ct = or_off (is_unfit sv.component || is_unfit sv.element || is_unfit sv.terminator || sv.component == sv.element)
    (sv.component == sv.terminator) et.0 in
    let ce = or_off (is_unfit sv.component || is_unfit sv.element || is_unfit sv.terminator) (sv.component == sv.element) ct.0 in
    let t = or_off (is_unfit sv.component || is_unfit sv.element) (is_unfit sv.terminator) ce.0 in
    let c = or_off (is_unfit sv.component) (is_unfit sv.element) t.0 in
    record { component = c.0; element = c.1; terminator = t.1; release = g.1; separators = ce.1 }

pub plain_apart_of : (sv : Service) (b : ℕ) → serves sv ≡ true → is_plain b ≡ true →
    (is_release sv.release b ≡ false) × ((b == sv.element) ≡ false) × ((b == sv.component) ≡ false)
plain_apart_of sv b h k =
    let p = parted sv h in
    (release_apart sv sv.release b k p.release, unfit_apart sv.element b k p.element, unfit_apart sv.component b k p.component)

pub plain_ordinary : (sv : Service) (b : ℕ) → serves sv ≡ true → is_plain b ≡ true → is_service sv b ≡ false
plain_ordinary sv b h k =
    let p = parted sv h in
    rw (
      release_apart sv sv.release b k p.release,
      unfit_apart sv.component b k p.component,
      unfit_apart sv.element b k p.element,
      unfit_apart sv.terminator b k p.terminator,
    ) refl

swapped : (a b : ℕ) (x : Bool) → (a == b) ≡ x → (b == a) ≡ false → (a == b) ≡ false
swapped a b true e h = let s = same_number a b e in let t : (b == a) ≡ (a == b) = rw s refl in cc
swapped a b false e h = e

-- Neither the terminator nor the element separator releases.
apart_of : (sv : Service) (o : Option ℕ) → is_bad_release sv o ≡ false →
    (is_release o sv.terminator ≡ false) × (is_release o sv.element ≡ false) × (is_release o sv.component ≡ false)
apart_of sv None h = (refl, refl, refl)
apart_of sv (Some r) h =
    let t = or_off (is_plain r || r == sv.component || r == sv.element) (r == sv.terminator) h in
    let e = or_off (is_plain r || r == sv.component) (r == sv.element) t.0 in
    let c = or_off (is_plain r) (r == sv.component) e.0 in
    (swapped sv.terminator r _ refl t.1, swapped sv.element r _ refl e.1, swapped sv.component r _ refl c.1)

pub ends_apart : (sv : Service) → serves sv ≡ true →
    (is_release sv.release sv.terminator ≡ false) × (is_release sv.release sv.element ≡ false) × (is_release sv.release sv.component ≡ false)
ends_apart sv h = apart_of sv sv.release (parted sv h).release

capital_in : (d c l r n t : Bool) → c ≡ true → (d || c || l || r || n || t) ≡ true
capital_in true c l r n t h = refl
capital_in false true l r n t h = refl
capital_in false false l r n t h = cc

pub capital_plain : (b : ℕ) → is_capital b ≡ true → is_plain b ≡ true
capital_plain b h = capital_in _ _ _ _ _ _ h

pub capital_ordinary : (sv : Service) (b : ℕ) → serves sv ≡ true → is_capital b ≡ true → is_service sv b ≡ false
capital_ordinary sv b h k = plain_ordinary sv b h (capital_plain b k)

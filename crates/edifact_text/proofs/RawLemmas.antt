-- A component that isn't cut, byte by byte.
use Rattle.std.proofs.Common.{◌≡◌, ℕ, List, [], ◌∷◌, Option, Some, None, true, false, refl, ◌==◌}
use Rattle.edifact_text.specs.declared.service.Ends.{Ends}
use Rattle.edifact_text.specs.declared.service.Service.{Service}
use Rattle.edifact_text.specs.Characters.{is_release}
use Rattle.edifact_text.specs.Pieces.{pieces, with_byte, literal}
use Rattle.edifact_text.specs.Views.{front, up_to, is_end, leading_component}
use Rattle.edifact_text.proofs.ServedLemmas.{or_off}
use Rattle.std.specs.Prelude.{slice_index_or}

pub first_with : (b : ℕ) (ps : List (List ℕ)) → slice_index_or (with_byte b ps) 0 [] ≡ b ∷ slice_index_or ps 0 []
first_with b [] = refl
first_with b (p ∷ ps) = refl

module _ (r : Option ℕ) where
  pub front_byte : (sep b : ℕ) (bs : List ℕ) → is_release r b ≡ false → (b == sep) ≡ false → front r sep (b ∷ bs) ≡ b ∷ front r sep bs
  front_byte sep b bs h k = rw (h, k) (first_with b (pieces r sep bs))

  pub at_byte : (ends : Option Ends) (b : ℕ) (bs : List ℕ) → is_release r b ≡ false → is_end ends b ≡ false →
      literal r (up_to r ends (b ∷ bs)) ≡ b ∷ literal r (up_to r ends bs)
  at_byte None b bs h k = rw h refl
  at_byte (Some e) b bs h k =
      let o = or_off (b == e.element) (b == e.component) k in
      rw (front_byte e.element b bs h o.0, front_byte e.component b (front r e.element bs) h o.1, h) refl

next_with : (b : ℕ) (ps : List (List ℕ)) → slice_index_or (with_byte b ps) 1 [] ≡ slice_index_or ps 1 []
next_with b [] = refl
next_with b (p ∷ ps) = refl

-- A byte that neither releases nor separates belongs to the leading component.
pub leading_first : (sv : Service) (b : ℕ) (bs : List ℕ) → is_release sv.release b ≡ false → (b == sv.element) ≡ false → (b == sv.component) ≡ false →
    leading_component sv 0 (b ∷ bs) ≡ b ∷ leading_component sv 0 bs
leading_first sv b bs h k m =
    rw (front_byte sv.release sv.element b bs h k, front_byte sv.release sv.component b (front sv.release sv.element bs) h m) refl

pub leading_second : (sv : Service) (b : ℕ) (bs : List ℕ) → is_release sv.release b ≡ false → (b == sv.element) ≡ false → (b == sv.component) ≡ false →
    leading_component sv 1 (b ∷ bs) ≡ leading_component sv 1 bs
leading_second sv b bs h k m =
    rw (front_byte sv.release sv.element b bs h k, h, m) (next_with b (pieces sv.release sv.component (front sv.release sv.element bs)))

-- At a component separator the first ends and the second begins.
pub leading_ends : (sv : Service) (b : ℕ) (bs : List ℕ) → is_release sv.release b ≡ false → (b == sv.element) ≡ false → (b == sv.component) ≡ true →
    (leading_component sv 0 (b ∷ bs) ≡ []) × (leading_component sv 1 (b ∷ bs) ≡ leading_component sv 0 bs)
leading_ends sv b bs h k m = rw (front_byte sv.release sv.element b bs h k, h, m) (refl, refl)

-- The document of `ship.toml`, and an array of values as a list.
use Rattle.std.proofs.Common.{◌≡◌, ℕ, List, [], ◌∷◌, length, ◌<◌, ◌≤◌, nat_le, true, false, Some, None, Ok, Err, IsUtf8, refl, arith, inl, inr}
use Rattle.std.proofs.lemmas.Bool.{cases_Bool}
use Rattle.std.proofs.lemmas.Str.{IsUtf8-from_is_utf8, is_utf8-from_IsUtf8}
use Rattle.std.specs.Str.{is_utf8}
use Rattle.toml.specs.Data.{Members}
use Rattle.toml.specs.Parse.{parse_document}
use Rattle.toml.specs.View.{items_view}
use Rattle.toml.specs.declared.value.Value.{Value}
use Rattle.ship_profile.specs.declared.faults.ProfileFault.TheVariants.{BadToml}
use Rattle.ship_profile.specs.Keys.{items_in, document_of, document_in}

pub items_length : (vs : List Value) → length (items_in (items_view vs)) ≡ length vs
items_length [] = refl
items_length (v ∷ vs) = grind (arith, items_length vs)

-- a text that is a document, and one that is none
is_document : (text : List ℕ) (ms : Members) → length text ≤ 1048576 → IsUtf8 text × (parse_document text ≡ Some ms) → document_of text ≡ Some ms
is_document text ms short h = let fits : nat_le (length text) 1048576 ≡ true = grind (arith, short) in rw (fits, is_utf8-from_IsUtf8 text h.0) h.1

not_document : (text : List ℕ) → length text ≤ 1048576 → (IsUtf8 text → parse_document text ≡ None) → document_of text ≡ None
not_document text short h =
    let fits : nat_le (length text) 1048576 ≡ true = grind (arith, short) in
    elim (cases_Bool (is_utf8 text)) [
      | inl utf8 ↦ rw (fits, utf8) (h (IsUtf8-from_is_utf8 text utf8))
      | inr other ↦ rw (fits, other) refl
    ]

pub document_in-long : (text : List ℕ) → 1048576 < length text → document_in text ≡ Err BadToml
document_in-long text long = let more : nat_le (length text) 1048576 ≡ false = grind (arith, long) in rw more refl

pub document_in-some : (text : List ℕ) (ms : Members) → length text ≤ 1048576 → IsUtf8 text × (parse_document text ≡ Some ms) → document_in text ≡ Ok ms
document_in-some text ms short h = rw (is_document text ms short h) refl

pub document_in-none : (text : List ℕ) → length text ≤ 1048576 → (IsUtf8 text → parse_document text ≡ None) → document_in text ≡ Err BadToml
document_in-none text short h = rw (not_document text short h) refl

-- What a shelf holds under a number, and what one more publication makes of its trails.
use Rattle.std.proofs.Common.{◌≡◌, ℕ, List, [], ◌∷◌, ◌++◌, Some, refl, sym, ap, ◌∙◌, subst, suc, map, option_map, slice_get, length, Option, All}
use Rattle.std.proofs.lemmas.Option.{slice_get-map, slice_get_within, get_or_from_slice_get}
use Rattle.std.proofs.lemmas.List.Elements.{All-get_or, All-push}
use Rattle.std.proofs.lemmas.List.{map-append}
use Rattle.lift_sequence.specs.declared.operations.Op.{Op}
use Rattle.port_call.specs.Grounds.{GroundRecord}
use Rattle.view_session.specs.declared.shelves.Kept.{Kept}
use Rattle.view_session.specs.Kept.{kept_of}
use Rattle.view_session.specs.Shelves.{IsOpened, KeptRecord, ShelfRecord, published}
use Rattle.view_session.specs.Trails.{IsTrail, Leads, TriedRecord}
use Rattle.view_session.proofs.TrailLemmas.{leads_of}

-- the list of a place has the number behind it
pub published_at : (items : List Kept) (number place : ℕ) (k : Kept) → number ≡ suc place → slice_get items place ≡ Some k →
    published (map kept_of items) number ≡ Some (kept_of k)
published_at items number place k is here = ap (published (map kept_of items)) is ∙ slice_get-map kept_of items place ∙ ap (option_map kept_of) here

-- its lines lead to it
pub trail_at : (base : GroundRecord) (from : List Op) (items : List Kept) (place : ℕ) (k : Kept) → slice_get items place ≡ Some k →
    All (λ x. Leads base from x.lines x.ops) (map kept_of items) → Leads base from (kept_of k).lines (kept_of k).ops
trail_at base from items place k here all =
    let found : slice_get (map kept_of items) place ≡ Some (kept_of k) = slice_get-map kept_of items place ∙ ap (option_map kept_of) here in
    subst
    (λ (x : KeptRecord). Leads base from x.lines x.ops)
    (get_or_from_slice_get (map kept_of items) place (kept_of k) (kept_of k) found)
    (All-get_or (λ (x : KeptRecord). Leads base from x.lines x.ops) (map kept_of items) place (kept_of k) (slice_get_within (map kept_of items) place (kept_of k) found) all)

-- one more list, whose lines lead to it
pub trails_on : (base : GroundRecord) (from : List Op) (items items' : List Kept) (k : Kept) → items' ≡ items ++ k ∷ [] →
    All (λ x. Leads base from x.lines x.ops) (map kept_of items) → Leads base from (kept_of k).lines (kept_of k).ops →
    All (λ x. Leads base from x.lines x.ops) (map kept_of items')
trails_on base from items items' k more all lead =
    subst
    (All (λ (x : KeptRecord). Leads base from x.lines x.ops))
    (sym (ap (map kept_of) more ∙ map-append kept_of items (k ∷ [])))
    (All-push (λ (x : KeptRecord). Leads base from x.lines x.ops) (map kept_of items) (kept_of k) all lead)

-- copies of a session's list and of its lines are led to as it is
pub copies_led : (base : GroundRecord) (from : List Op) (t : TriedRecord) (lines : List (List ℕ)) (ops : List Op) →
    base ≡ t.session.base → lines ≡ t.lines → ops ≡ t.session.ops → IsTrail from t → Leads base from lines ops
copies_led base from t lines ops b l o h = rw b (rw l (rw o (leads_of t.session.base from t.lines t.session.ops t.session.past h)))

-- the only publication of a shelf
pub opened_last : (before shelf : ShelfRecord) (k : KeptRecord) (number : ℕ) (tried : TriedRecord) → before.kept ≡ [] → shelf.kept ≡ before.kept ++ k ∷ []
    → number ≡ length shelf.kept → IsOpened shelf (published shelf.kept number) (Some tried) → IsOpened shelf (Some k) (Some tried)
opened_last before shelf k number tried none more is opened =
    let one : shelf.kept ≡ k ∷ [] = more ∙ ap (λ (ks : List KeptRecord). ks ++ k ∷ []) none in
    let first : number ≡ 1 = is ∙ ap (λ (ks : List KeptRecord). length ks) one in
    subst (λ (o : Option KeptRecord). IsOpened shelf o (Some tried)) (λ i. published (one i) (first i)) opened

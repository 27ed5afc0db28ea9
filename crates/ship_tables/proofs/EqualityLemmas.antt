-- Two lists that are kept side by side: the entries that they make are equal to those of two others where both lists are.
use Rattle.std.proofs.Common.{◌≡◌, ◌∙◌, ◌↔◌, IsTrue, Bool, false, ℕ, List, [], ◌∷◌, length, map, zip, refl, sym, ap, arith}
use Rattle.std.proofs.lemmas.Bool.{both_ways}
use Rattle.std.proofs.lemmas.Slice.Zip.{firsts-zip, seconds-zip}
use Rattle.ship_tables.specs.Record.{TankTable, tanks_by}

pub zip_parts : {K P : Type 0} (ks ls : List K) (ps qs : List P) → length ps ≡ length ks → length qs ≡ length ls
    → zip ks ps ≡ zip ls qs → (ks ≡ ls) × (ps ≡ qs)
zip_parts ks ls ps qs m n e = (
  sym (firsts-zip ks ps m) ∙ (ap (map (λ p. p.0)) e ∙ firsts-zip ls qs n),
  sym (seconds-zip ks ps m) ∙ (ap (map (λ p. p.1)) e ∙ seconds-zip ls qs n),
)

tanks_by-parts : (names : List (List ℕ)) (tables : List TankTable) → length names ≡ length tables
    → (map (λ t. t.name) (tanks_by names tables) ≡ names) × (map (λ t. t.rows) (tanks_by names tables) ≡ tables)
tanks_by-parts [] [] e = (refl, refl)
tanks_by-parts [] (t ∷ tables) e = absurd (omega arith)
tanks_by-parts (n ∷ names) [] e = absurd (omega arith)
tanks_by-parts (n ∷ names) (t ∷ tables) e =
    let more = tanks_by-parts names tables (omega arith) in
    (ap (λ ns. n ∷ ns) more.0, ap (λ ts. t ∷ ts) more.1)

pub tanks_parts : (ns ms : List (List ℕ)) (ts us : List TankTable) → length ns ≡ length ts → length ms ≡ length us
    → tanks_by ns ts ≡ tanks_by ms us → (ns ≡ ms) × (ts ≡ us)
tanks_parts ns ms ts us m n e =
    let here = tanks_by-parts ns ts m in
    let there = tanks_by-parts ms us n in
    (sym here.0 ∙ (ap (map (λ t. t.name)) e ∙ there.0), sym here.1 ∙ (ap (map (λ t. t.rows)) e ∙ there.1))

-- a test of the first lists that failed, and one of the second lists behind one of the first that passed
module _ {A B C : Type 0} (join : A → B → C) {a b : A} {x y : B} (parts : join a x ≡ join b y → (a ≡ b) × (x ≡ y)) where
  pub firsts_decide : (r : Bool) → r ≡ false → IsTrue r ↔ (a ≡ b) → IsTrue r ↔ (join a x ≡ join b y)
  firsts_decide r f h = (λ t. absurd (both_ways r f t), λ e. h.1 (parts e).0)

  pub seconds_decide : (r : Bool) → a ≡ b → IsTrue r ↔ (x ≡ y) → IsTrue r ↔ (join a x ≡ join b y)
  seconds_decide r e h = (λ t i. join (e i) (h.0 t i), λ f. h.1 (parts f).1)

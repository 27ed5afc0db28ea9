-- Items that a test tells apart where they differ in one of their parts.
use Rattle.std.proofs.Common.{◌≡◌, Bool, ◌&&◌, nat_eq, ap}
use Rattle.std.specs.Prelude.{Decides}
use Rattle.std.specs.Cmp.{unsigned_Decides}
use Rattle.std.specs.Cmp.Lexicographic.{bytes_decides}
use Rattle.std.specs.Str.{bytes_eq}
use Rattle.std.proofs.lemmas.Bool.Decides.{Decides-and, Decides-like}
use Rattle.units_core.specs.Cells.{cell_eq}
use Rattle.units_core.specs.Equality.{cells_exact}
use Rattle.stow_messages.specs.declared.items.Item.{Item}

abbrev item_eq : Item → Item → Bool
item_eq a b = cell_eq a.cell b.cell && (bytes_eq a.id.items b.id.items && nat_eq a.kg b.kg)

pub items_exact : (a b : Item) → Decides (item_eq a b) (a ≡ b)
items_exact a b =
    Decides-like _ (λ p i. record { cell = p.0 i; id = record { items = p.1.0 i }; kg = p.1.1 i })
    (λ e. (ap (λ t. t.cell) e, (ap (λ t. t.id.items) e, ap (λ t. t.kg) e)))
    (Decides-and _ _ (cells_exact a.cell b.cell) (Decides-and _ _ (bytes_decides a.id.items b.id.items) (unsigned_Decides a.kg b.kg)))

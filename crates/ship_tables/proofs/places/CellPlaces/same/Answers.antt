use Rattle.std.proofs.Common.{zip, rules}
use Rattle.ship_tables.proofs.EqualityLemmas.{zip_parts, firsts_decide, seconds_decide}
use Rattle.ship_tables.proofs.places.CellPlaces.same.Goals as goal

pub returns-then-same_items : goal.returns-then-same_items
returns-then-same_items c =
    let parts = zip_parts c.self.inside.cells c.other.inside.cells c.self.inside.places.items c.other.inside.places.items c.self.invariant c.other.invariant in
    rw (← c.self.view_is, ← c.other.view_is) (seconds_decide zip parts _ (search rules) (search rules))

pub returns-else-same_items : goal.returns-else-same_items
returns-else-same_items c =
    let parts = zip_parts c.self.inside.cells c.other.inside.cells c.self.inside.places.items c.other.inside.places.items c.self.invariant c.other.invariant in
    rw (← c.self.view_is, ← c.other.view_is) (firsts_decide zip parts _ (search rules) (search rules))

use Rattle.std.proofs.Common.{◌∙◌, rules}
use Rattle.std.proofs.lemmas.List.{length-map}
use Rattle.ship_tables.specs.Record.{tanks_by}
use Rattle.ship_tables.proofs.EqualityLemmas.{tanks_parts, firsts_decide, seconds_decide}
use Rattle.ship_tables.proofs.tanks.Tanks.same.Goals as goal

pub returns-then-same_rows : goal.returns-then-same_rows
returns-then-same_rows c =
    let names = length-map c.self.inside.names.keys (λ v. v.items) ∙ c.self.invariant.0 in
    let others = length-map c.other.inside.names.keys (λ v. v.items) ∙ c.other.invariant.0 in
    let parts = tanks_parts _ _ c.self.inside.tables.items c.other.inside.tables.items names others in
    rw (← c.self.view_is, ← c.other.view_is) (seconds_decide tanks_by parts _ (search rules) (search rules))

pub returns-else-same_rows : goal.returns-else-same_rows
returns-else-same_rows c =
    let names = length-map c.self.inside.names.keys (λ v. v.items) ∙ c.self.invariant.0 in
    let others = length-map c.other.inside.names.keys (λ v. v.items) ∙ c.other.invariant.0 in
    let parts = tanks_parts _ _ c.self.inside.tables.items c.other.inside.tables.items names others in
    rw (← c.self.view_is, ← c.other.view_is) (firsts_decide tanks_by parts _ (search rules) (search rules))

use Rattle.std.proofs.Common.{◌∙◌, length, sym, rules, ◌≡◌}
use Rattle.std.proofs.lemmas.List.{length-map}
use Rattle.ship_tables.proofs.NameLemmas.{tanks_by-length}
use Rattle.ship_tables.proofs.tanks.Tanks.len.Goals as goal

pub returns : goal.returns
returns c =
    let tables : c.len.result ≡ length c.self.inside.tables.items = search rules in
    rw (← c.self.view_is) (tables ∙ sym (tanks_by-length _ c.self.inside.tables.items (length-map c.self.inside.names.keys (λ v. v.items) ∙ c.self.invariant.0)))

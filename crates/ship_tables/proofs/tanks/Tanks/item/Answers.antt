use Rattle.std.proofs.Common.{◌≡◌, ◌∙◌, sym, slice_get, rules}
use Rattle.std.proofs.lemmas.List.{length-map}
use Rattle.ship_tables.specs.Record.{filling_in}
use Rattle.ship_tables.proofs.NameLemmas.{tanks_by-filling}
use Rattle.ship_tables.proofs.tanks.Tanks.item.Goals as goal

pub returns-clause-value : goal.returns-clause-value
returns-clause-value c =
    let filling : c.filling_of.result ≡ filling_in c.args.kg (slice_get c.self.inside.tables.items c.args.tank) = search rules in
    rw (← c.self.view_is)
    (filling ∙ sym (tanks_by-filling c.args.kg c.args.tank _ c.self.inside.tables.items (length-map c.self.inside.names.keys (λ v. v.items) ∙ c.self.invariant.0)))

use Rattle.std.proofs.Common.{◌≡◌, ◌∙◌, Some, None, sym}
use Rattle.std.proofs.lemmas.List.{length-map}
use Rattle.std.specs.List.{position}
use Rattle.std.specs.Str.{bytes_eq}
use Rattle.ship_tables.proofs.NameLemmas.{position-map, tanks_by-position}
use Rattle.ship_tables.proofs.tanks.Tanks.number.Goals as goal

pub returns-in_err-number : goal.returns-in_err-number
returns-in_err-number c =
    let none : position (λ k. bytes_eq c.args.name.now k.items) c.self.inside.names.keys ≡ None = sym c.get_index_of.ensures.index ∙ c.in_err-number.was in
    rw (← c.self.view_is)
    (c.from_residual.ensures ∙ sym (tanks_by-position (bytes_eq c.args.name.now) _ c.self.inside.tables.items (length-map c.self.inside.names.keys (λ v. v.items) ∙ c.self.invariant.0)
    ∙ (position-map (bytes_eq c.args.name.now) _ c.self.inside.names.keys ∙ none)))

pub returns : goal.returns
returns c =
    let found : position (λ k. bytes_eq c.args.name.now k.items) c.self.inside.names.keys ≡ Some c.in_ok-number.number = sym c.get_index_of.ensures.index ∙ c.in_ok-number.was in
    rw (← c.self.view_is)
    (sym (tanks_by-position (bytes_eq c.args.name.now) _ c.self.inside.tables.items (length-map c.self.inside.names.keys (λ v. v.items) ∙ c.self.invariant.0)
    ∙ (position-map (bytes_eq c.args.name.now) _ c.self.inside.names.keys ∙ found)))

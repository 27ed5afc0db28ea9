use Rattle.std.proofs.Common.{◌≡◌, ◌∙◌, Some, None, sym}
use Rattle.std.specs.List.{position}
use Rattle.std.specs.Str.{bytes_eq}
use Rattle.ship_tables.proofs.NameLemmas.{position-map, ended_rows-none, ended_rows-found}
use Rattle.ship_tables.proofs.reading.row_count.Goals as goal

pub returns-in_err-number : goal.returns-in_err-number
returns-in_err-number c =
    let none : position (λ k. bytes_eq c.args.name.now k.items) c.args.names.now.keys ≡ None = sym c.get_index_of.ensures.index ∙ c.in_err-number.was in
    c.from_residual.ensures ∙ sym (ended_rows-none _ c.args.name.now c.args.ended.now c.args.rows.now c.requires (position-map (bytes_eq c.args.name.now) _ c.args.names.now.keys ∙ none))

pub returns : goal.returns
returns c =
    let found : position (λ k. bytes_eq c.args.name.now k.items) c.args.names.now.keys ≡ Some c.in_ok-number.number = sym c.get_index_of.ensures.index ∙ c.in_ok-number.was in
    c.rows_of.ensures ∙ sym (ended_rows-found _ c.args.name.now c.args.ended.now c.args.rows.now c.requires c.in_ok-number.number (position-map (bytes_eq c.args.name.now) _ c.args.names.now.keys ∙ found))

use Rattle.std.proofs.Common.{◌≡◌, ◌∙◌, length, ap, sym, rules}
use Rattle.std.proofs.lemmas.List.{length-map}
use Rattle.ship_tables.specs.Record.{place_at}
use Rattle.ship_tables.proofs.places.gather.Goals as goal

pub invariant_of-result : goal.invariant_of-result
invariant_of-result c =
    let copied : c.in_ok-cells.cells.items ≡ c.args.cells.now = search rules in
    ap length c.in_ok-places.ensures.ok
    ∙ (length-map c.args.rows.now place_at
    ∙ (sym c.requires.size ∙ (sym (ap length copied) ∙ sym (ap length c.in_ok-cells-2.ensures))))

use Rattle.std.proofs.Common.{◌≡◌, ◌++◌, ◌∷◌, [], ◌+◌, sym, rules}
use Rattle.std.proofs.lemmas.List.{map-append}
use Rattle.ship_tables.specs.Record.{numbers_of}
use Rattle.ship_tables.proofs.ReadLemmas.{columns_from-push}
use Rattle.ship_tables.proofs.curves.gather.Goals as goal

pub loop-curve-preserved : goal.loop-curve-preserved
loop-curve-preserved c =
    let push : c.push.new.self.items ≡ c.loop-curve.columns.items ++ c.in_ok-column.column ∷ [] = search rules in
    let column : c.in_ok-column.column.items ≡ numbers_of (1 + c.loop-curve.curve) c.args.rows.now = search rules in
    rw (push, map-append (λ v. v.items) c.loop-curve.columns.items (c.in_ok-column.column ∷ []), c.loop-curve.invariant, column)
    (sym (columns_from-push 1 c.loop-curve.curve c.args.rows.now))

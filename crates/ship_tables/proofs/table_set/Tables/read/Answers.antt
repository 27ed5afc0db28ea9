use Rattle.std.proofs.lemmas.Result.{err_from_is_err_and}
use Rattle.ship_tables.specs.Record.{texts_of}
use Rattle.ship_tables.proofs.MeaningLemmas.{set-sound, set-stop}
use Rattle.ship_tables.proofs.WrittenLemmas.{set-written}
use Rattle.ship_tables.proofs.table_set.Tables.read.Goals as goal

pub returns-in_err-least_gm-clause-refused : goal.returns-in_err-least_gm-clause-refused
returns-in_err-least_gm-clause-refused c =
    let levers = rw c.levers_layout.ensures at c.in_ok-levers.ensures.ok in
    let p = err_from_is_err_and c.from_residual-in_err-least_gm.result c.from_residual-in_err-least_gm.ensures.1 in
    rw (p.1, p.2) (λ m.
    set-stop c.args.extent c.args.stations (texts_of c.args.texts.now) _ _ _ _ _ _ c.in_ok-cells.ensures.ok c.in_ok-hydro.ensures.ok levers c.in_ok-bonjean.ensures.ok c.in_ok-tanks.ensures.ok
    (c.in_err-least_gm.ensures.refused m))

pub invariant_of-result : goal.invariant_of-result
invariant_of-result c =
    let levers = rw c.levers_layout.ensures at c.in_ok-levers.ensures.ok in
    let sound = set-sound c.args.extent c.args.stations (texts_of c.args.texts.now) _ c.in_ok-cells.ensures.ok c.in_ok-hydro.ensures.ok levers c.in_ok-bonjean.ensures.ok c.in_ok-tanks.ensures.ok c.in_ok-least_gm.ensures.ok in
    sound.tables

pub returns-clause-meaning : goal.returns-clause-meaning
returns-clause-meaning c =
    let levers = rw c.levers_layout.ensures at c.in_ok-levers.ensures.ok in
    set-sound c.args.extent c.args.stations (texts_of c.args.texts.now) _ c.in_ok-cells.ensures.ok c.in_ok-hydro.ensures.ok levers c.in_ok-bonjean.ensures.ok c.in_ok-tanks.ensures.ok c.in_ok-least_gm.ensures.ok

pub returns-clause-written : goal.returns-clause-written
returns-clause-written c =
    let levers = rw c.levers_layout.ensures at c.in_ok-levers.ensures.ok in
    set-written c.args.extent c.args.stations (texts_of c.args.texts.now) _ c.in_ok-cells.ensures.ok c.in_ok-hydro.ensures.ok levers c.in_ok-bonjean.ensures.ok c.in_ok-tanks.ensures.ok c.in_ok-least_gm.ensures.ok

use Rattle.std.proofs.Common.{◌∙◌}
use Rattle.std.proofs.lemmas.Result.{err_from_is_err_and}
use Rattle.csv_text.proofs.ReadingLemmas.{gave_one, gave_none}
use Rattle.units_core.proofs.OutcomeLemmas.{lift_ok, lift_err}
use Rattle.ship_tables.proofs.OutcomeLemmas.{in_turn-more, in_turn-stop}
use Rattle.ship_tables.proofs.ReadLemmas.{under-stop, under-end}
use Rattle.ship_tables.specs.Tables.{form_of, added}
use Rattle.ship_tables.proofs.reading.read_rest.Goals as goal

pub loop-gathered-preserved : goal.loop-gathered-preserved
loop-gathered-preserved c = record {
  gathered = c.in_ok-add_row.ensures.gathered;
  rest = λ rest has.
      let left = c.loop-gathered.invariant.rest rest has in
      let gave = gave_one _ _ _ _ c.if-branch.true (c.in_ok-found_record.ensures.ok left.0 left.1) in
      (gave.0, gave.2, left.2 ∙ in_turn-more (added (form_of c.args.layout.now)) _ _ _ _ _ gave.1 c.in_ok-add_row.ensures.ok);
}

pub returns-in_err-add_row-clause-refused : goal.returns-in_err-add_row-clause-refused
returns-in_err-add_row-clause-refused c =
    let p = err_from_is_err_and c.from_residual-in_err-add_row.result c.from_residual-in_err-add_row.ensures.1 in
    rw (p.1, p.2) (λ m rest has.
    let left = c.loop-gathered.invariant.rest rest has in
    let gave = gave_one _ _ _ _ c.if-branch.true (c.in_ok-found_record.ensures.ok left.0 left.1) in
    under-stop (form_of c.args.layout.now) _ _ _ left.2 _ (in_turn-stop (added (form_of c.args.layout.now)) _ _ _ _ _ gave.1 (c.in_err-add_row.ensures.refused m)))

pub returns-clause-ok : goal.returns-clause-ok
returns-clause-ok c =
    lift_ok c.finish.result c.finish.ensures.ok (λ g h rest has.
    let left = c.loop-gathered.invariant.rest rest has in
    let gave = gave_none _ _ _ _ c.if-branch.false (c.in_ok-found_record.ensures.ok left.0 left.1) in
    under-end (form_of c.args.layout.now) _ _ _ left.2 gave ∙ h)

pub returns-clause-refused : goal.returns-clause-refused
returns-clause-refused c =
    lift_err c.finish.result c.finish.ensures.refused (λ e h m rest has.
    let left = c.loop-gathered.invariant.rest rest has in
    let gave = gave_none _ _ _ _ c.if-branch.false (c.in_ok-found_record.ensures.ok left.0 left.1) in
    under-end (form_of c.args.layout.now) _ _ _ left.2 gave ∙ h)

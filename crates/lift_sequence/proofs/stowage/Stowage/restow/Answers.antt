use Rattle.std.proofs.Common.{◌≡◌, ◌∙◌, Option, Some, None, ap, sym}
use Rattle.std.specs.Option.{option_or}
use Rattle.std.proofs.lemmas.Result.{err_from_is_err_and}
use Rattle.units_core.specs.declared.cells.Cell.{Cell}
use Rattle.ship_profile.specs.Record.{place_of}
use Rattle.lift_sequence.specs.declared.containers.Container.{Container}
use Rattle.lift_sequence.specs.Aboard.{Aboard, cargo_in, with_cell}
use Rattle.lift_sequence.specs.Bodies.{body_in, cell_body}
use Rattle.lift_sequence.specs.Legal.{stand_fault, take_fault}
use Rattle.lift_sequence.proofs.States.{put_back, restow_legal, restow_refused}
use Rattle.lift_sequence.proofs.stowage.Stowage.restow.Goals as goal

-- What is aboard is the same once there is room: so is what stood in the cell, and what is left when that is taken out.
stood : (at roomy : Aboard) (cell : Cell) (c : Container) → roomy ≡ at → roomy.cells cell ≡ Some c → at.cells cell ≡ Some c
stood at roomy cell c same h = ap (λ (a : Aboard). a.cells cell) (sym same) ∙ h

emptied : (at roomy next : Aboard) (cell : Cell) → roomy ≡ at → next ≡ with_cell roomy cell None → next ≡ with_cell at cell None
emptied at roomy next cell same h = h ∙ ap (λ (a : Aboard). with_cell a cell None) same

pub returns-in_err-out-clause-refused : goal.returns-in_err-out-clause-refused
returns-in_err-out-clause-refused c =
    let p = err_from_is_err_and c.from_residual-in_err-out.result c.from_residual-in_err-out.ensures.1 in
    let ship = c.args.profile.now in
    let at = cargo_in c.args.self.now in
    rw (p.1, p.2) (λ m.
    ap (λ o. option_or o (stand_fault ship (with_cell at c.args.from None) c.args.to))
    (ap (λ (a : Aboard). take_fault ship a c.args.from c.args.id.now) (sym c.make_room.ensures.same) ∙ c.in_err-out.ensures.refused))

pub returns-in-Ok-clause-legal : goal.returns-in-Ok-clause-legal
returns-in-Ok-clause-legal c =
    let ship = c.args.profile.now in
    let left = emptied (cargo_in c.args.self.now) _ _ c.args.from c.make_room.ensures.same c.in_ok-out.ensures.aboard in
    restow_legal _ _
    (ap (λ (a : Aboard). take_fault ship a c.args.from c.args.id.now) (sym c.make_room.ensures.same) ∙ c.in_ok-out.ensures.legal)
    (ap (λ (a : Aboard). stand_fault ship a c.args.to) (sym left) ∙ c.in-Ok.ensures.legal)

pub returns-in-Ok-clause-aboard : goal.returns-in-Ok-clause-aboard
returns-in-Ok-clause-aboard c =
    let at = cargo_in c.args.self.now in
    let there = stood at _ c.args.from c.in_ok-out.container c.make_room.ensures.same c.in_ok-out.ensures.container in
    let left = emptied at _ _ c.args.from c.make_room.ensures.same c.in_ok-out.ensures.aboard in
    c.put.ensures ∙ ap (λ (a : Aboard). with_cell a c.args.to (Some c.in_ok-out.container)) left
    ∙ ap (λ (w : Option Container). with_cell (with_cell at c.args.from None) c.args.to w) (sym there)

pub returns-in-Ok-clause-step : goal.returns-in-Ok-clause-step
returns-in-Ok-clause-step c =
    let ship = c.args.profile.now in
    let at = cargo_in c.args.self.now in
    let there = stood at _ c.args.from c.in_ok-out.container c.make_room.ensures.same c.in_ok-out.ensures.container in
    let out : Some c.in_ok-out.out ≡ cell_body ship at c.args.from =
    sym c.in_ok-out.ensures.body ∙ ap (λ (a : Aboard). cell_body ship a c.args.from) c.make_room.ensures.same in
    let put : Some c.body_of-put.result ≡ body_in (place_of ship c.args.to) (at.cells c.args.from) =
    ap (λ b. Some b) c.body_of-put.ensures ∙ (λ i. body_in (sym c.in-Ok.ensures.place i) (sym there i)) in
    λ i. record { out = out i; put = put i }

pub returns-in-Err-clause-refused : goal.returns-in-Err-clause-refused
returns-in-Err-clause-refused c m =
    let ship = c.args.profile.now in
    let left = emptied (cargo_in c.args.self.now) _ _ c.args.from c.make_room.ensures.same c.in_ok-out.ensures.aboard in
    restow_refused _ _ _
    (ap (λ (a : Aboard). take_fault ship a c.args.from c.args.id.now) (sym c.make_room.ensures.same) ∙ c.in_ok-out.ensures.legal)
    (ap (λ (a : Aboard). stand_fault ship a c.args.to) (sym left) ∙ c.in-Err.ensures.refused)

-- what was taken out is back
pub returns-in-Err-clause-same : goal.returns-in-Err-clause-same
returns-in-Err-clause-same c =
    let at = cargo_in c.args.self.now in
    let there = stood at _ c.args.from c.in_ok-out.container c.make_room.ensures.same c.in_ok-out.ensures.container in
    let left = emptied at _ _ c.args.from c.make_room.ensures.same c.in_ok-out.ensures.aboard in
    c.put-in-Err.ensures ∙ ap (λ (a : Aboard). with_cell a c.args.from (Some c.in_ok-out.container)) left
    ∙ put_back at c.args.from c.in_ok-out.container there

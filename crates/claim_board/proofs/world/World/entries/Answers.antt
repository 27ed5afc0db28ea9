use Rattle.std.proofs.Common.{ap, ◌∙◌, map, reverse}
use Rattle.claim_board.specs.declared.workers.Worker.{Worker}
use Rattle.claim_board.specs.Board.{State, entries_at}
use Rattle.claim_board.specs.Views.{hand_of}
use Rattle.claim_board.proofs.Applies.{entries_some, entries_none}
use Rattle.claim_board.proofs.world.World.entries.Goals as goal

pub returns-in-Some : goal.returns-in-Some
returns-in-Some c =
    let found = c.in-Some.ensures.lookup in
    let workers = c.deref.ensures.value in
    c.as_slice.ensures.value
    ∙ ap (λ (w : Worker). w.entries.items) found.1
    ∙ entries_some c.deref.result.now c.from.result c.in-Some.worker.now found.3.0
    ∙ (λ i. reverse (entries_at (map hand_of (workers i)) (c.from.ensures i)))
    ∙ ap (λ (s : State). reverse (entries_at s.hands c.args.worker)) c.self.view_is

pub returns-in-None : goal.returns-in-None
returns-in-None c =
    let workers = c.deref.ensures.value in
    entries_none c.deref.result.now c.from.result c.in-None.ensures.lookup.3
    ∙ (λ i. reverse (entries_at (map hand_of (workers i)) (c.from.ensures i)))
    ∙ ap (λ (s : State). reverse (entries_at s.hands c.args.worker)) c.self.view_is

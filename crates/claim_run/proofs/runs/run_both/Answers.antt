use Rattle.std.proofs.Common.{rules, arith, ℕ, ◌≡◌, ◌<◌, ◌≤◌, ap, length, subst, sym}
use Rattle.claim_board.specs.Claims.{IsLeastFound}
use Rattle.claim_run.specs.Shared.{scout_in}
use Rattle.claim_run.proofs.Filling.{right_none}
use Rattle.claim_run.proofs.Gathering.{each_number}
use Rattle.claim_run.proofs.Finding.{least_found}
use Rattle.claim_run.proofs.runs.run_both.Goals as goal

pub gather-requires-clause-slots : goal.gather-requires-clause-slots
gather-requires-clause-slots g c κs within =
    let made = c.in_ok-slots.ensures in
    let slots = c.in_ok-slots.slots in
    let pieces = c.in_ok-board.ensures.board.1 in
    let count : length slots.items ≡ c.in_ok-board.board.pieces = omega (arith, made.count, slots.ok, pieces) in
    (count, right_none (g.J.Job.value c.args.job.now) slots.items 0 (λ k d h. made.none k d (omega (arith, h, count, pieces))))

pub values_in_slots-requires-clause-full : goal.values_in_slots-requires-clause-full
values_in_slots-requires-clause-full g c κs within k low =
    let pieces = c.in_ok-board.board.pieces in
    let hand = c.in_ok-hand.hand in
    let there : k < pieces = omega (arith, low, c.gather.ensures.slots.0) in
    c.in_ok-hand.ensures.filled k there (each_number pieces c.close-next.result.0 hand.seat.me.0.entries c.close-next.ensures.once c.in_ok-hand.ensures.over.past k there)

pub returns-clause-least : goal.returns-clause-least
returns-clause-least g c =
    let board = c.in_ok-board.board in
    let scout = scout_in board in
    let made = c.in_ok-board.ensures.board in
    let begin = g.S.Scout.begins scout in
    let find = g.S.Scout.finds scout in
    let r = c.close-next.result.1 in
    let most : board.pieces ≤ g.S.Scout.pieces scout = subst (λ p. p ≤ g.S.Scout.pieces scout) (sym made.1) (subst (λ t. c.args.pieces ≤ g.S.Scout.pieces t) (sym made.0) c.requires.0) in
    let laws = g.met.S.Scout g.world.𝓛 g.world.𝓜 g.world.𝓡 ((λ s x. x), (λ x. x), (λ x. x), λ x. x) in
    let found = least_found begin find board.pieces c.close-next.result.0 r c.in_ok-hand.hand.seat.me.0.entries c.close-next.ensures c.in_ok-hand.ensures.over
    (λ k step low there. (laws.within scout k step (omega (arith, low, most)) there).0) in
    subst (λ (t : _). IsLeastFound r (g.S.Scout.finds t) c.args.pieces) made.0 (subst (λ p. IsLeastFound r find p) made.1 found)

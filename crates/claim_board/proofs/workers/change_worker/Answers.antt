use Rattle.std.proofs.Common.{arith, ◌≡◌, ◌-◌, ◌+◌, ◌∙◌, ap, sym, length, reverse}
use Rattle.claim_board.specs.Board.{put_newest}
use Rattle.claim_board.proofs.Applies.{last_put}
use Rattle.claim_board.proofs.workers.change_worker.Goals as goal

pub returns-then-count-gt0-clause-hand : goal.returns-then-count-gt0-clause-hand
returns-then-count-gt0-clause-hand c =
    let xs = c.args.worker.now.entries.items in
    let last : (c.len-count.result - 1) + 1 ≡ length xs = omega (arith, c.if-count-gt0.true, c.len-count.ensures, c.args.worker.now.entries.ok) in
    ap (λ es. record { entries = es; status = c.args.outcome.status }) (last_put c.args.outcome.newest xs (c.len-count.result - 1) last ∙ ap (λ b. put_newest b c.args.outcome.newest (reverse xs)) (sym c.if-outcome.false))

use Rattle.std.proofs.Common.{rules, refl, arith, ap, sym, Some, ◌∙◌, ◌≡◌, ◌≤◌}
use Rattle.claim_board.specs.Entries.{fresh, with_look}
use Rattle.claim_run.specs.Views.{least_of}
use Rattle.claim_run.specs.Shared.{tail}
use Rattle.claim_run.proofs.Moves.{posts_step}
use Rattle.claim_run.proofs.Words.{least_is}
use Rattle.claim_run.proofs.shared_board.SharedBoard.post.Goals as goal

pub fetch_min-requires : goal.fetch_min-requires
fetch_min-requires g c =
    let key = c.args.self.now.table.shared.key in
    let me = c.args.hand.now.seat.me in
    let begin = g.S.Scout.begins key.scout.value in
    let k = c.args.number in
    let told = c.requires.told in
    let found = ap (λ s. g.S.Scout.finds s k) told ∙ c.requires.found.0 in
    let starts : begin k ≤ c.args.least = omega (arith, ap (λ s. g.S.Scout.begins s k) told, c.requires.found.1) in
    (c.requires.seat, search rules, posts_step begin (g.S.Scout.finds key.scout.value) key.pieces key.workers _ _ me (with_look (least_of c.args.least) (fresh k)) (tail me.0.entries) c.from.result c.requires.looked.newest refl (found ∙ ap Some (sym c.from.ensures)) (λ l there. omega (arith, least_is c.args.least l there, starts)) (omega arith) c.requires.looked.staffed)

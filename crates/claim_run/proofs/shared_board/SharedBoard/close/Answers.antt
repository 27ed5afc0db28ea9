use Rattle.std.proofs.Common.{arith, ap, subst, ◌∙◌, ◌≡◌, ◌<◌, ◌∷◌, []}
use Rattle.std.specs.Prelude.{slice_index}
use Rattle.claim_board.specs.Rule.{IsKept}
use Rattle.claim_run.specs.Views.{least_of}
use Rattle.claim_run.proofs.Closing.{alone, first_is, second_is, word_read}
use Rattle.claim_run.proofs.shared_board.SharedBoard.close.Goals as goal

pub returns : goal.returns
returns g c =
    let board = c.args.self in
    let key = board.table.shared.key in
    let begin = g.S.Scout.begins key.scout.value in
    let find = g.S.Scout.finds key.scout.value in
    let last = c.close_with-closed.ensures.values.2 in
    let es = c.args.hand.seat.me.0.entries in
    let next = ap (λ l. slice_index l 0) last.2 ∙ first_is _ _ c.word-next.ensures in
    let least : slice_index last.0.words 1 ≡ c.word-least.result = ap (λ l. slice_index l 1) last.2 ∙ second_is _ _ c.word-least.ensures in
    let kept = alone begin find key.pieces key.workers last.0 c.args.hand.seat.id c.args.hand.seat.me.0 last.1.0 last.1.1 c.requires.all in
    let named = subst (λ n. IsKept begin find key.pieces n (least_of c.word-least.result) (es ∷ [])) next
    (subst (λ n. IsKept begin find key.pieces (slice_index last.0.words 0) (least_of n) (es ∷ [])) least kept) in
    let here = subst (λ n. IsKept begin find n c.word-next.result (least_of c.word-least.result) (es ∷ [])) board.told named in
    let laws = g.met.S.Scout g.world.𝓛 g.world.𝓜 g.world.𝓡 ((λ s x. x), (λ x. x), (λ x. x), λ x. x) in
    let read = word_read begin find board.pieces c.word-next.result c.word-least.result es c.step_in.result here
    (λ k step low there. (laws.within key.scout.value k step (omega (arith, low, c.requires.within)) there).1) c.step_in.ensures in
    subst (λ o. IsKept begin find board.pieces c.word-next.result o (es ∷ [])) read here

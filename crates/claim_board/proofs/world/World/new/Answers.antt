use Rattle.std.proofs.Common.{rules, arith, ◌≡◌, ◌∙◌, ap, sym, subst, List, length, None}
use Rattle.std.proofs.lemmas.List.{length-map, length-replicate}
use Rattle.claim_board.specs.Board.{Hand, board, idle}
use Rattle.claim_board.specs.Views.{FollowsRule}
use Rattle.claim_board.specs.Views.{hand_of}
use Rattle.claim_board.proofs.Turns.{first_rule}
use Rattle.claim_board.proofs.world.World.new.Goals as goal

pub invariant_of-result : goal.invariant_of-result
invariant_of-result c =
    let hands = c.in_ok-workers.ensures.hands in
    let ws = c.in_ok-workers.workers.items in
    let begins = c.extend_from_slice.new.self.items in
    let found = c.extend_from_slice-2.new.self.items in
    let count : length ws ≡ c.args.workers = sym (length-map ws hand_of) ∙ ap length hands ∙ length-replicate c.args.workers idle in
    let same : begins ≡ c.args.begins.now = search rules in
    let size = ap length same in
    record {
      rule = subst (λ (hs : List Hand). FollowsRule (board begins found 0 None hs)) (sym hands) (first_rule c.args.workers begins found);
      few = omega (arith, c.requires);
      room = λ k d low. let r = c.in_ok-workers.ensures.room k d (omega (arith, c.in_ok-workers.workers.ok)) in omega (arith, r);
    }

use Rattle.claim_board.proofs.Tells.{fair, least_posted, skips_right}
use Rattle.claim_run.proofs.Moves.{next_le}
use Rattle.claim_run.proofs.laws.every_state_is_right.Goals as goal

pub returns : goal.returns
returns c begin find pieces workers s rule = record {
  numbers = fair begin find pieces rule.kept;
  least = least_posted begin find pieces rule.kept;
  skips = skips_right begin find pieces rule.kept;
  most = next_le begin find pieces workers s rule;
}

use Rattle.std.proofs.Common.{ℕ, List, Option, sym, subst, arith}
use Rattle.std.proofs.lemmas.List.{length-replicate}
use Rattle.claim_board.specs.Board.{found_of, after_all, first_state, idle}
use Rattle.std.specs.Prelude.{slice_index, length}
use Rattle.claim_board.specs.Claims.{IsProblem}
use Rattle.claim_board.proofs.Turns.{all_keep, first_rule}
use Rattle.claim_board.proofs.Tells.{fair, least_posted, skips_right}
use Rattle.claim_board.proofs.Answered.{all_same, answered}
use Rattle.claim_board.proofs.laws.for_every_run.Goals as goal

pub returns-clause-numbers : goal.returns-clause-numbers
returns-clause-numbers c workers begins found events =
    let s = after_all events (first_state workers begins found) in
    fair (slice_index s.begins) (found_of s.found) (length s.begins) (all_keep events (first_state workers begins found) (first_rule workers begins found)).kept

pub returns-clause-least : goal.returns-clause-least
returns-clause-least c workers begins found events =
    let s = after_all events (first_state workers begins found) in
    least_posted (slice_index s.begins) (found_of s.found) (length s.begins) (all_keep events (first_state workers begins found) (first_rule workers begins found)).kept

pub returns-clause-skips : goal.returns-clause-skips
returns-clause-skips c workers begins found events =
    let s = after_all events (first_state workers begins found) in
    skips_right (slice_index s.begins) (found_of s.found) (length s.begins) (all_keep events (first_state workers begins found) (first_rule workers begins found)).kept

pub returns-clause-done : goal.returns-clause-done
returns-clause-done c workers begins found events problem some done =
    let s = after_all events (first_state workers begins found) in
    let same = all_same events (first_state workers begins found) in
    answered s (all_keep events (first_state workers begins found) (first_rule workers begins found))
    (subst (λ (p : List ℕ × List (Option ℕ)). IsProblem p.0 p.1) (λ i. (sym same.begins i, sym same.found i)) problem)
    (omega (arith, same.staffed, length-replicate workers idle))
    done

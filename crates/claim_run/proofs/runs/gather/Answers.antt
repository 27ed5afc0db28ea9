use Rattle.std.proofs.Common.{rules, arith, ℕ, List, ◌≡◌, ◌+◌, ◌++◌, ◌<◌, ◌∙◌, ap, sym, subst, inr, length, vec_len}
use Rattle.std.specs.Prelude.{IfOk}
use Rattle.std.proofs.lemmas.Grind.{common_steps}
use Rattle.claim_board.specs.Entries.{Each, numbers, is}
use Rattle.claim_run.specs.Shared.{scout_in}
use Rattle.claim_run.specs.Runs.{IsDoneBy, AreOver}
use Rattle.claim_run.proofs.Gathering.{gift_each, gift_over, gift_numbers, over_append, filled_on}
use Rattle.claim_run.proofs.runs.gather.Goals as goal

pub place-requires-clause-given : goal.place-requires-clause-given
place-requires-clause-given g c κs within =
    let board = c.args.board.now in
    let value = g.J.Job.value c.args.job.now in
    let first : IfOk c.in-Some.first (λ done. IsDoneBy g.S.Scout.begins g.S.Scout.finds g.J.Job.value board c.args.job.now done) = let h = c.requires.each 0 c.in-Some.first in grind (rules, common_steps) in
    let one = subst (λ r. IfOk r (λ done. IsDoneBy g.S.Scout.begins g.S.Scout.finds g.J.Job.value board c.args.job.now done)) c.in_ok-hand.was first in
    subst (λ n. Each (λ (p : ℕ × g.row.J-Out.Denot). (p.0 < n) × (p.1 ≡ value p.0)) c.in_ok-hand.field-0.values.items) (sym c.requires.slots.0) (gift_each _ _ value _ _ _ one.all)

pub loop-gift-init : goal.loop-gift-init
loop-gift-init g c =
    let board = c.args.board.now in
    let value = g.J.Job.value c.args.job.now in
    let first : IfOk c.in-Some.first (λ done. IsDoneBy g.S.Scout.begins g.S.Scout.finds g.J.Job.value board c.args.job.now done) = let h = c.requires.each 0 c.in-Some.first in grind (rules, common_steps) in
    let one = subst (λ r. IfOk r (λ done. IsDoneBy g.S.Scout.begins g.S.Scout.finds g.J.Job.value board c.args.job.now done)) c.in_ok-hand.was first in
    let placed = c.place.ensures in
    let count : length c.place.new.slots.items ≡ board.pieces = placed.same_length ∙ c.requires.slots.0 in
    record {
      table = one.table;
      count = (let w = one.one in grind (rules, common_steps));
      each = λ k d low. let h = c.requires.each (k + 1) d in grind (rules, common_steps);
      over = gift_over _ _ value _ _ _ one.all;
      same_length = count;
      right = placed.right;
      filled = λ k low some. placed.filled k (omega (arith, low, count)) (inr (omega (arith, some, gift_numbers _ _ value _ _ _ one.all k low)));
    }

pub join-requires-clause-seats : goal.join-requires-clause-seats
join-requires-clause-seats g c κs within =
    let inv = c.loop-gift.invariant in
    let step = c.in-Some-gift.ensures.steps in
    let next : IfOk c.in-Some-gift.gift (λ done. IsDoneBy g.S.Scout.begins g.S.Scout.finds g.J.Job.value c.args.board.now c.args.job.now done) = let each = inv.each 0 c.in-Some-gift.gift in grind rules in
    let one = subst (λ r. IfOk r (λ done. IsDoneBy g.S.Scout.begins g.S.Scout.finds g.J.Job.value c.args.board.now c.args.job.now done)) c.in_ok-other.was next in
    (inv.table, one.table, one.slots)

pub place-requires-in-loop-gift-clause-given : goal.place-requires-in-loop-gift-clause-given
place-requires-in-loop-gift-clause-given g c κs within =
    let inv = c.loop-gift.invariant in
    let value = g.J.Job.value c.args.job.now in
    let step = c.in-Some-gift.ensures.steps in
    let next : IfOk c.in-Some-gift.gift (λ done. IsDoneBy g.S.Scout.begins g.S.Scout.finds g.J.Job.value c.args.board.now c.args.job.now done) = let each = inv.each 0 c.in-Some-gift.gift in grind rules in
    let one = subst (λ r. IfOk r (λ done. IsDoneBy g.S.Scout.begins g.S.Scout.finds g.J.Job.value c.args.board.now c.args.job.now done)) c.in_ok-other.was next in
    subst (λ n. Each (λ (p : ℕ × g.row.J-Out.Denot). (p.0 < n) × (p.1 ≡ value p.0)) c.in_ok-other.field-0.values.items) (sym inv.same_length) (gift_each _ _ value _ _ _ one.all)

pub loop-gift-preserved : goal.loop-gift-preserved
loop-gift-preserved g c =
    let inv = c.loop-gift.invariant in
    let board = c.args.board.now in
    let value = g.J.Job.value c.args.job.now in
    let begin = g.S.Scout.begins (scout_in board) in
    let find = g.S.Scout.finds (scout_in board) in
    let step = c.in-Some-gift.ensures.steps in
    let next : IfOk c.in-Some-gift.gift (λ done. IsDoneBy g.S.Scout.begins g.S.Scout.finds g.J.Job.value board c.args.job.now done) = let each = inv.each 0 c.in-Some-gift.gift in grind rules in
    let one = subst (λ r. IfOk r (λ done. IsDoneBy g.S.Scout.begins g.S.Scout.finds g.J.Job.value board c.args.job.now done)) c.in_ok-other.was next in
    let both = ap (λ m. m.0.workers) c.join.ensures.both in
    let put = ap (λ m. m.0.entries) c.join.ensures.both in
    let was = c.loop-gift.hand.seat.me.0.entries in
    let more = c.in_ok-other.field-0.hand.seat.me.0.entries in
    let placed = c.place-in-loop-gift.ensures in
    let count : length c.place-in-loop-gift.new.slots.items ≡ board.pieces = placed.same_length ∙ inv.same_length in
    record {
      table = c.join.ensures.seat.0 ∙ inv.table;
      count = (let w = one.one in let n = inv.count in grind (rules, common_steps));
      each = λ k d low. let h = inv.each (k + 1) d in grind rules;
      over = subst (AreOver begin find board.pieces) (sym put) (over_append begin find board.pieces was more inv.over (gift_over _ _ value _ _ _ one.all));
      same_length = count;
      right = placed.right;
      filled = λ k low some.
          let joined : 0 < numbers (is k) (was ++ more) = omega (arith, some, ap (numbers (is k)) put) in
          filled_on board.pieces was more c.in_ok-other.field-0.values.items c.loop-gift.slots.items c.place-in-loop-gift.new.slots.items
          (gift_numbers _ _ value _ _ _ one.all) inv.filled (λ j h. placed.filled j (omega (arith, h, count))) k low joined;
    }

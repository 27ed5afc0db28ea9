use Rattle.std.proofs.Common.{rules, arith, ◌≡◌, ℕ, ◌<◌, ◌∙◌, ◌++◌, ap, sym, subst, List, ◌∷◌, []}
use Rattle.claim_board.specs.declared.entries.Entry.{Entry}
use Rattle.claim_board.specs.Entries.{Each, total}
use Rattle.claim_board.proofs.Sums.{total-append, each_append}
use Rattle.claim_run.specs.Hands.{entries_with, TookTurn}
use Rattle.claim_run.specs.Shared.{scout_in}
use Rattle.claim_run.specs.Runs.{IsOver, AreValues}
use Rattle.claim_run.proofs.work.work.Goals as goal

pub next-preserved : goal.next-preserved
next-preserved g c =
    let inv = c.next.invariant in
    let board = c.args.board.now in
    let begin = g.S.Scout.begins (scout_in board) in
    let find = g.S.Scout.finds (scout_in board) in
    let value = g.J.Job.value c.args.job.now in
    let t = c.in-Some-turn.ensures in
    let new = c.turn.new.hand in
    let k = c.in-Some-turn.k in
    let was = entries_with c.next.hand.pending c.next.hand.seat.me.0.entries in
    let now = entries_with new.pending new.seat.me.0.entries in
    let took = subst (λ (s : _). TookTurn (g.S.Scout.begins s) (g.S.Scout.finds s) k was now) (sym c.requires.knows.told) t.some.1 in
    let low : k < board.pieces = t.some.0 in
    let pushed : c.push.new.self.items ≡ c.next.values.items ++ (k, c.in_ok-piece-in-Some-turn.field-0) ∷ [] = c.in_ok-push-in-Some-turn.ensures.items in
    let gift : ℕ × g.row.J-Out.Denot = (k, c.in_ok-piece-in-Some-turn.field-0) in
    record {
      seat = (c.turn.ensures.seat.0 ∙ inv.seat.0, c.turn.ensures.seat.1 ∙ inv.seat.1, c.turn.ensures.seat.2 ∙ inv.seat.2);
      free = t.free;
      settles = t.settles;
      over = subst (Each (IsOver begin find board.pieces)) (sym took.1) (record { low = (let n = took.2 in omega arith); end = took.3 }, inv.over);
      values = subst (AreValues value board.pieces now) (sym pushed) (subst (λ (l : List Entry). AreValues value board.pieces l (c.next.values.items ++ gift ∷ [])) (sym took.1) (record {
        each = each_append (λ (p : ℕ × g.row.J-Out.Denot). (p.0 < board.pieces) × (p.1 ≡ value p.0)) c.next.values.items (gift ∷ []) inv.values.each ((low, c.in_ok-piece-in-Some-turn.ensures), tt);
        numbers = λ f. omega (arith, inv.values.numbers f, total-append (λ (p : ℕ × g.row.J-Out.Denot). f p.0) c.next.values.items (gift ∷ []), ap f took.2);
      }));
    }

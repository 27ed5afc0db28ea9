use Rattle.std.proofs.Common.{rules, arith, ◌≡◌, ◌++◌, ◌∙◌, ap}
use Rattle.claim_board.specs.declared.entries.Entry.{Entry}
use Rattle.claim_board.specs.Entries.{is_post, numbers, posts}
use Rattle.claim_board.proofs.Sums.{total-append}
use Rattle.claim_run.specs.Hands.{entries_with}
use Rattle.claim_run.specs.Board.{entries_of}
use Rattle.claim_run.proofs.Turning.{same_numbers}
use Rattle.claim_run.proofs.Told.{entries_append, same_posts}
use Rattle.claim_run.proofs.board.Board.join.Goals as goal

pub returns-clause-numbers : goal.returns-clause-numbers
returns-clause-numbers g c f =
    let h = c.args.hand.now in
    let o = c.args.other in
    let new = c.join.new.hand in
    let put = ap (λ m. m.0.entries) c.join.ensures.both in
    omega (
      arith,
      same_numbers f new.pending new.seat.me.0.entries,
      ap (numbers f) put,
      total-append (λ (e : Entry). f e.number) h.seat.me.0.entries o.seat.me.0.entries,
      same_numbers f h.pending h.seat.me.0.entries,
      same_numbers f o.pending o.seat.me.0.entries,
    )

pub returns-clause-posts : goal.returns-clause-posts
returns-clause-posts g c l =
    let scout = c.args.self.now.inner.table.shared.key.scout.value in
    let begin = g.S.Scout.begins scout in
    let find = g.S.Scout.finds scout in
    let h = c.args.hand.now in
    let o = c.args.other in
    let new = c.join.new.hand in
    let es = h.seat.me.0.entries in
    let fs = o.seat.me.0.entries in
    let put = ap (λ m. m.0.entries) c.join.ensures.both in
    let is : entries_of new ≡ entries_of h ++ fs = ap (λ k. entries_with k new.seat.me.0.entries) c.join.ensures.seat.1 ∙ ap (entries_with h.pending) put ∙ entries_append begin find h.pending es fs c.requires.hand.own.settles in
    omega (arith, ap (posts l) is, total-append (λ (e : Entry). is_post l e.stage) (entries_of h) fs, same_posts begin find l o.pending fs c.requires.other.own.settles)

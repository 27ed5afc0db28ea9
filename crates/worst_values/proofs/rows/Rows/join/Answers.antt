use Rattle.std.proofs.Common.{◌≡◌, ◌∙◌, ◌<◌, ◌≤◌, ℕ, ap, arith}
use Rattle.worst_values.specs.Worst.{joined}
use Rattle.worst_values.specs.Rows.{row_of}
use borrow.Author.Count.{below_more}
use Rattle.worst_values.proofs.rows.Rows.join.Goals as goal

pub loop-row-preserved : goal.loop-row-preserved
loop-row-preserved c =
    let inv = c.loop-row.invariant in
    let row = c.loop-row.row in
    let old = c.args.self.now in
    let behind = c.args.behind.now in
    let own : row ≤ row = omega arith in
    record {
      length = c.note.ensures.length ∙ inv.length;
      done = below_more (λ (j : ℕ). row_of c.note.new.self j ≡ joined (row_of old j) (row_of behind j)) row
          (λ j low. c.note.ensures.others j (λ e. (omega (arith, low, e))) ∙ inv.done j low)
          (c.note.ensures.here ∙ (λ i. joined (inv.rest row own i) (c.get.ensures i)));
      rest = λ j high. c.note.ensures.others j (λ e. (omega (arith, high, e))) ∙ inv.rest j (omega (arith, high));
    }

pub returns-clause-each : goal.returns-clause-each
returns-clause-each c = λ j low. c.loop-row.invariant.done j (omega (arith, low, c.loop-row-test.false))

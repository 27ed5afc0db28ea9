use Rattle.std.proofs.Common.{◌≡◌, ◌∙◌, ◌≤◌, ℕ, arith}
use Rattle.criteria.specs.Exact.{condition_by}
use Rattle.worst_values.specs.Limits.{candidates_of, limit_of}
use Rattle.worst_values.specs.Rows.{row_of}
use Rattle.worst_values.specs.Worst.{joined, worst_of}
use borrow.Author.Count.{below_more}
use Rattle.worst_values.proofs.walks.note_condition.Goals as goal

pub loop-row-preserved : goal.loop-row-preserved
loop-row-preserved c =
    let inv = c.loop-row.invariant in
    let row = c.loop-row.row in
    let old = c.args.rows.now in
    let ship = c.args.profile.now.ship in
    let own : row ≤ row = omega arith in
    record {
      length = c.note_limit.ensures.length ∙ inv.length;
      done = λ y are.
          below_more (λ (j : ℕ). row_of c.note_limit.new.rows j ≡ joined (row_of old j) (worst_of (candidates_of ship (condition_by c.args.exact.now y c.args.strains.now) (limit_of j) c.args.step))) row
          (λ j low. c.note_limit.ensures.others j (λ e. (omega (arith, low, e))) ∙ inv.done y are j low)
          (c.note_limit.ensures.here y are ∙ (λ i. joined (inv.rest row own i) (worst_of (candidates_of ship (condition_by c.args.exact.now y c.args.strains.now) (limit_of row) c.args.step))));
      rest = λ j high. c.note_limit.ensures.others j (λ e. (omega (arith, high, e))) ∙ inv.rest j (omega (arith, high));
    }

pub returns-clause-each : goal.returns-clause-each
returns-clause-each c = λ y are j low. c.loop-row.invariant.done y are j (omega (arith, low, c.loop-row-test.false))

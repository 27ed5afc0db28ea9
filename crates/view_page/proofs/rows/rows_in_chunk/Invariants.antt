use Rattle.port_call.specs.Views.{case_in_view}
use Rattle.seq_report.specs.Sums.{IsSumAt}
use Rattle.view_page.proofs.rows.rows_in_chunk.Given as goal

abbrev pub invariant-loop-k : goal.invariant-loop-k
invariant-loop-k l = IsSumAt (case_in_view l.case) l.k l.sum

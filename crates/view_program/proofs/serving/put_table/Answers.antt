use Rattle.port_call.specs.Views.{case_in_view}
use Rattle.view_program.proofs.ShownLemmas.{table_written}
use Rattle.view_program.proofs.serving.put_table.Goals as goal

pub returns-in-Ok-put-2-clause-shown : goal.returns-in-Ok-put-2-clause-shown
returns-in-Ok-put-2-clause-shown g c =
    table_written c.args.line.form (case_in_view c.args.lines.now.case) (g.O.Write.contents c.args.out.now) (g.O.Write.contents c.put.new.out) (g.O.Write.contents c.write_lines.new.out)
    (g.O.Write.contents c.put-2.new.out) c.as_str.result.now c.as_str-2.result.now c.in-Ok-write_lines.first c.in-Ok-put.ensures.put c.in-Ok-write_lines.ensures c.in-Ok-put-2.ensures.put

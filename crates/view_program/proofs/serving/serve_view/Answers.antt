use Rattle.std.proofs.Common.{◌∙◌, sym, arith}
use Rattle.view_program.proofs.ShownLemmas.{at_least, not_refusal, refused_by, shown_by}
use Rattle.view_program.proofs.serving.serve_view.Goals as goal

pub returns-in-Ok-clause-shown : goal.returns-in-Ok-clause-shown
returns-in-Ok-clause-shown g c few =
    shown_by (g.R.Readers.known c.args.files.now) c.in-Ok.status (g.O.Write.contents c.args.out.now) (g.O.Write.contents c.run_words.new.out) few c.in-Ok.ensures.answered

pub returns-in-Ok-clause-refused : goal.returns-in-Ok-clause-refused
returns-in-Ok-clause-refused g c two =
    refused_by (g.R.Readers.known c.args.files.now) c.in-Ok.status (g.O.Write.contents c.args.out.now) (g.O.Write.contents c.run_words.new.out) two c.in-Ok.ensures.answered

pub returns-in-Err-clause-shown : goal.returns-in-Err-clause-shown
returns-in-Err-clause-shown g c few = absurd (omega (arith, at_least c.in-Err.stop, c.report_stop.ensures, few))

pub returns-in-Err-clause-refused : goal.returns-in-Err-clause-refused
returns-in-Err-clause-refused g c two = absurd (not_refusal c.in-Err.stop c.in-Err.ensures.stopped (sym c.report_stop.ensures ∙ two))

pub returns-in-Err-clause-quiet : goal.returns-in-Err-clause-quiet
returns-in-Err-clause-quiet g c few = absurd (omega (arith, at_least c.in-Err.stop, c.report_stop.ensures, few))

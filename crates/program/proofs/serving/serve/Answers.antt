use Rattle.std.proofs.Common.{map, ◌∙◌, sym, arith}
use Rattle.program.proofs.StopLemmas.{at_least, refusal}
use Rattle.program.proofs.serving.serve.Goals as goal

pub returns-in-Err-clause-told : goal.returns-in-Err-clause-told
returns-in-Err-clause-told g c few = absurd (omega (arith, at_least c.in-Err.stop, c.report_stop.ensures, few))

pub returns-in-Err-clause-left : goal.returns-in-Err-clause-left
returns-in-Err-clause-left g c many = (c.in-Err.stop, sym c.report_stop.ensures, c.in-Err.ensures.stopped, c.in-Err.ensures.left)

pub returns-in-Err-clause-refused : goal.returns-in-Err-clause-refused
returns-in-Err-clause-refused g c two =
    refusal (g.R.Readers.known c.args.files.now) (map (λ w. w.now) c.args.words.now) c.in-Err.stop (sym c.report_stop.ensures ∙ two) c.in-Err.ensures.stopped

pub returns-in-Err-clause-quiet : goal.returns-in-Err-clause-quiet
returns-in-Err-clause-quiet g c few = absurd (omega (arith, at_least c.in-Err.stop, c.report_stop.ensures, few))

use Rattle.std.proofs.Common.{sym}
use Rattle.worst_values.proofs.FirstLemmas.{alike_pass}
use Rattle.worst_values.proofs.stretches.first_in.Goals as goal

pub returns-in-None : goal.returns-in-None
returns-in-None c = sym (alike_pass c.args.stretch.now.unmet c.args.stretch.now.lines c.args.line (sym c.in-None.ensures))

use Rattle.std.proofs.Common.{rules}
use Rattle.std.proofs.lemmas.Result.{IfErr-weaker, IfOk-weaker}
use Rattle.program.proofs.serving.run_line.Goals as goal

pub returns-clause-told : goal.returns-clause-told
returns-clause-told g c = IfOk-weaker c.line_to-status.result _ _ (λ status told. (told.0, told.1, search rules)) c.line_to-status.ensures.told

pub returns-clause-left : goal.returns-clause-left
returns-clause-left g c = IfErr-weaker c.line_to-status.result _ _ (λ stop left. (left.0, left.1, search rules)) c.line_to-status.ensures.left

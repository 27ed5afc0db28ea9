use Rattle.std.proofs.Common.{inl, map, refl}
use Rattle.std.proofs.lemmas.Result.{IfErr-weaker, IfOk-weaker}
use Rattle.program.proofs.StopLemmas.{left_by_line, no_line, of_line}
use Rattle.seq_report.proofs.WrittenLemmas.{nothing}
use Rattle.program.proofs.serving.run_words.Goals as goal

pub returns-in-Ok-clause-told : goal.returns-in-Ok-clause-told
returns-in-Ok-clause-told g c =
    IfOk-weaker c.run_line.result _ _ (λ status told. (told.0, (c.in-Ok.line, c.in-Ok.ensures.ok, told.1), told.2)) c.run_line.ensures.told

pub returns-in-Ok-clause-stopped : goal.returns-in-Ok-clause-stopped
returns-in-Ok-clause-stopped g c =
    IfErr-weaker c.run_line.result _ _ (of_line (g.R.Readers.known c.args.files.now) (map (λ w. w.now) c.args.words.now) c.in-Ok.line c.in-Ok.ensures.ok) c.run_line.ensures.stopped

pub returns-in-Ok-clause-left : goal.returns-in-Ok-clause-left
returns-in-Ok-clause-left g c =
    IfErr-weaker c.run_line.result _ _ (left_by_line (g.R.Readers.known c.args.files.now) (map (λ w. w.now) c.args.words.now) c.in-Ok.line c.in-Ok.ensures.ok _ _) c.run_line.ensures.left

pub returns-in-Err-clause-left : goal.returns-in-Err-clause-left
returns-in-Err-clause-left g c = nothing _ _ _ refl (inl (no_line c.in-Err.fault _ c.from.ensures))

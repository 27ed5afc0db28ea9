use Rattle.std.proofs.Common.{string_bytes}
use Rattle.what_if.specs.Bases.{report_on}
use Rattle.program.proofs.TrialLemmas.{of_edits, of_read, tried_in}
use Rattle.program.proofs.trials.try_edits.Goals as goal

pub returns-clause-tried : goal.returns-clause-tried
returns-clause-tried c =
    tried_in c.args.inputs.now c.args.file.now c.in-Ok.session c.try_all.new.session c.in-Ok-read.edits (string_bytes c.in_ok-answers.answers)
    c.in-Ok.ensures.read c.in-Ok.ensures.new.0 c.in-Ok-read.ensures.ok
    c.in_ok-answers.ensures.base c.in_ok-answers.ensures.lists c.in_ok-answers.ensures.answers

pub returns-in-Err-clause-stopped : goal.returns-in-Err-clause-stopped
returns-in-Err-clause-stopped c =
    of_read c.args.inputs.now c.args.file.now c.in-Err.fault _ c.from.ensures c.in-Err.ensures.silent c.in-Err.ensures.refused

pub returns-in-Err-read-clause-stopped : goal.returns-in-Err-read-clause-stopped
returns-in-Err-read-clause-stopped c =
    of_edits c.args.inputs.now c.args.file.now (report_on c.in-Ok.session.base c.in-Ok.session.ops) c.in-Ok.ensures.outcome
    c.in-Err-read.fault _ c.from-in-Err-read.ensures c.in-Err-read.ensures.refused

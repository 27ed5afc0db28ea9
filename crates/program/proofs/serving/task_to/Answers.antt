use Rattle.program.proofs.serving.task_to.Goals as goal

pub returns-in-Check-clause-stopped : goal.returns-in-Check-clause-stopped
returns-in-Check-clause-stopped g c = rw c.in-Check.is (c.report_to.ensures.stopped c.args.edits.now)

pub returns-in-Check-clause-left : goal.returns-in-Check-clause-left
returns-in-Check-clause-left g c = rw c.in-Check.is (c.report_to.ensures.left c.args.edits.now)

pub returns-in-First-clause-stopped : goal.returns-in-First-clause-stopped
returns-in-First-clause-stopped g c = rw c.in-First.is (c.first_to.ensures.stopped c.args.edits.now)

pub returns-in-First-clause-left : goal.returns-in-First-clause-left
returns-in-First-clause-left g c = rw c.in-First.is (c.first_to.ensures.left c.args.edits.now)

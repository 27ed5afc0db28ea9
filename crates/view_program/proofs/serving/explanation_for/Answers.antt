use Rattle.view_program.proofs.serving.explanation_for.Goals as goal

pub returns-in-Some-clause-stopped : goal.returns-in-Some-clause-stopped
returns-in-Some-clause-stopped c = c.sheet_text.ensures c.args.inputs.now

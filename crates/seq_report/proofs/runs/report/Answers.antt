use Rattle.std.proofs.Common.{◌≡◌, ◌∙◌, Ok, ap, subst, sym}
use Rattle.std.specs.Prelude.{Result}
use Rattle.port_call.specs.declared.faults.RunFault.{RunFault}
use Rattle.port_call.specs.Refusals.{TellsMemory}
use Rattle.seq_report.specs.Cases.{outcome_in}
use Rattle.seq_report.specs.Delivery.{Delivers, IsByPlan}
use Rattle.seq_report.specs.Refusal.{Outcome, outcome_if, outcome_of}
use Rattle.seq_report.proofs.RunLemmas.{refused, unwritten}
use Rattle.seq_report.proofs.runs.report.Goals as goal

pub returns-in-Err-clause-delivers : goal.returns-in-Err-clause-delivers
returns-in-Err-clause-delivers g c =
    let why = refused c.args.inputs.now c.args.options.now.cuts c.in-Err.fault c.from.result c.from.ensures c.in-Err.ensures.reads.refused in
    unwritten (outcome_of c.args.inputs.now) c.from.result (g.S.Sink.contents c.args.sink.now) (g.S.Sink.has_failed c.args.sink.now) c.requires.sound why.silent

pub returns-in-Err-clause-plan : goal.returns-in-Err-clause-plan
returns-in-Err-clause-plan g c =
    (refused c.args.inputs.now c.args.options.now.cuts c.in-Err.fault c.from.result c.from.ensures c.in-Err.ensures.reads.refused).by_plan

pub returns-in-Err-clause-refused : goal.returns-in-Err-clause-refused
returns-in-Err-clause-refused g c =
    (refused c.args.inputs.now c.args.options.now.cuts c.in-Err.fault c.from.result c.from.ensures c.in-Err.ensures.reads.refused).refused

pub returns-in-Err-clause-memory : goal.returns-in-Err-clause-memory
returns-in-Err-clause-memory g c = subst TellsMemory (sym c.from.ensures) c.in-Err.ensures.reads.memory

pub returns-clause-delivers : goal.returns-clause-delivers
returns-clause-delivers g c =
    let is : outcome_of c.args.inputs.now ≡ Ok (outcome_in c.in-Ok.call) = ap outcome_if c.in-Ok.ensures.reads.read in
    subst (λ (d : Result Outcome RunFault). Delivers d c.report_call.result (g.S.Sink.contents c.args.sink.now) (g.S.Sink.contents c.report_call.new.sink) (g.S.Sink.has_failed c.report_call.new.sink))
    (sym is) c.report_call.ensures.delivers

pub returns-clause-plan : goal.returns-clause-plan
returns-clause-plan g c =
    let is : outcome_of c.args.inputs.now ≡ Ok (outcome_in c.in-Ok.call) = ap outcome_if c.in-Ok.ensures.reads.read in
    subst (λ (d : Result Outcome RunFault). IsByPlan c.args.options.now.cuts d c.report_call.result) (sym is) c.report_call.ensures.plan

use Rattle.std.proofs.Common.{◌≡◌, Ok, sym, subst}
use Rattle.std.proofs.lemmas.Result.{IfErr-weaker, IfOk-weaker}
use Rattle.seq_report.specs.Cases.{outcome_in}
use Rattle.seq_report.specs.Refusal.{outcome_of}
use Rattle.view_program.specs.declared.working.Seen.{Seen}
use Rattle.view_program.specs.Shown.{IsStopOn}
use Rattle.view_program.proofs.working.fn.see_beside.scope.Goals as goal

pub returns-in-Err : goal.returns-in-Err
returns-in-Err g c = record {
  made = tt;
  stopped = (c.inputs-inputs.result, c.inputs-inputs.ensures, c.in-Err.ensures.stopped c.inputs-inputs.result c.work-worked.ensures.stopped);
}

pub returns-in-Ok-looked : goal.returns-in-Ok-looked
returns-in-Ok-looked g c =
    let inputs = c.inputs-inputs.result in
    let made = c.in-Ok-looked.ensures.made inputs c.work-worked.ensures.made in
    record {
      made = IfOk-weaker c.with_sources.result _ _
          (λ both same. (inputs, c.inputs-inputs.ensures, subst (λ (seen : Seen). outcome_of inputs ≡ Ok (outcome_in seen.worked.call)) (sym same) made))
          c.with_sources.ensures.made;
      stopped = IfErr-weaker c.with_sources.result _ _
          (λ stop same. (inputs, c.inputs-inputs.ensures, subst (IsStopOn inputs) (sym same) tt))
          c.with_sources.ensures.stopped;
    }

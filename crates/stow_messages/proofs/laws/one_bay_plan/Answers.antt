use Rattle.stow_messages.proofs.MessageLemmas.{plan_sound, plan_fault, plan_either}
use Rattle.stow_messages.proofs.CountLemmas.{plan_as_many}
use Rattle.stow_messages.proofs.laws.one_bay_plan.Goals as goal

pub returns : goal.returns
returns c = record {
  sound = λ text items h. plan_sound text items h;
  fault = λ text f h. plan_fault text f h;
  either = λ text. plan_either text;
  not_both = λ text items f h g.
      let a = plan_sound text items h in
      let b = plan_fault text f g in
      cc;
  as_many = λ text m items is h. plan_as_many text m items is h;
}

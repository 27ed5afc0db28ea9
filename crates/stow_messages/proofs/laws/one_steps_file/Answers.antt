use Rattle.stow_messages.proofs.StepWalks.{steps_sound, steps_fault, steps_either, are_steps, as_many_rows}
use Rattle.stow_messages.proofs.laws.one_steps_file.Goals as goal

pub returns : goal.returns
returns c = record {
  sound = λ lifts text rows h. steps_sound lifts text rows h;
  fault = λ lifts text f h. steps_fault lifts text f h;
  either = λ lifts text. steps_either lifts text;
  not_both = λ lifts text rows f h g.
      let a = steps_sound lifts text rows h in
      let b = steps_fault lifts text f g in
      cc;
  as_many = λ lifts text rows h. as_many_rows lifts text rows (are_steps lifts text rows h);
}

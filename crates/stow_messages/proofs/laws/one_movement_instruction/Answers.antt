use Rattle.stow_messages.proofs.MessageLemmas.{instruction_sound, instruction_fault, instruction_either}
use Rattle.stow_messages.proofs.CountLemmas.{instruction_as_many}
use Rattle.stow_messages.proofs.laws.one_movement_instruction.Goals as goal

pub returns : goal.returns
returns c = record {
  sound = λ text lifts h. instruction_sound text lifts h;
  fault = λ text f h. instruction_fault text f h;
  either = λ text. instruction_either text;
  not_both = λ text lifts f h g.
      let a = instruction_sound text lifts h in
      let b = instruction_fault text f g in
      cc;
  as_many = λ text m lifts is h. instruction_as_many text m lifts is h;
}

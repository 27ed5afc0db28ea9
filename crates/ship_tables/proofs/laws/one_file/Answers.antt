use Rattle.ship_tables.proofs.FileWalks.{file_sound, file_fault, file_either, all_read}
use Rattle.ship_tables.proofs.laws.one_file.Goals as goal

pub returns : goal.returns
returns c = record {
  sound = λ form text rows h. file_sound form text rows h;
  fault = λ form text f h. file_fault form text f h;
  either = λ form text. file_either form text;
  not_both = λ form text rows f h g.
      let a = file_sound form text rows h in
      let b = file_fault form text f g in
      cc;
  all = λ form rows. all_read form rows;
}

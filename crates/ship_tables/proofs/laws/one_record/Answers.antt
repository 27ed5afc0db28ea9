use Rattle.ship_tables.proofs.FieldWalks.{row_sound, row_refused, row_either}
use Rattle.ship_tables.proofs.laws.one_record.Goals as goal

pub returns : goal.returns
returns c = record {
  sound = λ form line fields row h. row_sound form line fields row h;
  fault = λ form line fields f h. row_refused form line fields f h;
  either = λ form line fields. row_either form line fields;
  not_both = λ form line fields row f h g.
      let a = row_sound form line fields row h in
      let b = row_refused form line fields f g in
      cc;
}

use Rattle.std.proofs.lemmas.List.Splits.{join_with_byte-slice_split}
use Rattle.edits_file.proofs.LineLemmas.{are_lines}
use Rattle.edits_file.proofs.ReadingLemmas.{edits_sound, edits_fault, edits_either, as_many_edits}
use Rattle.edits_file.proofs.laws.one_edits_file.Goals as goal

pub returns : goal.returns
returns c = record {
  lines = λ text. are_lines text;
  words = λ line. join_with_byte-slice_split 32 line;
  sound = λ text edits h. edits_sound text edits h;
  fault = λ text f h. edits_fault text f h;
  either = λ text. edits_either text;
  not_both = λ text edits f h g.
      let a = edits_sound text edits h in
      let b = edits_fault text f g in
      cc;
  as_many = λ text edits h. as_many_edits text edits h;
}

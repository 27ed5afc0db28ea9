use Rattle.std.proofs.Common.{map, sym, arith}
use Rattle.std.proofs.lemmas.Bool.Decides.{nat_tests}
use Rattle.std.proofs.lemmas.List.{length-map}
use Rattle.edits_file.proofs.LineLemmas.{no_edit}
use Rattle.edits_file.proofs.forms.edit_of.Goals as goal
use Rattle.edits_file.proofs.forms.edit_of.Goals.{in_default-via-then-words-lt2, in_default-via-else-words-lt2+else-words-lt3+else-words-lt4+then-words-lt5, in_default-via-else-words-lt2+else-words-lt3+else-words-lt4+else-words-lt5+else-words-lt6+else-words-lt7}

pub returns-in_default : goal.returns-in_default
returns-in_default c =
    let words = map (λ v. v.now) c.args.words.now in
    let len = length-map c.args.words.now (λ v. v.now) in
    elim c.in_default.branch [
      | in_default-via-then-words-lt2 w ↦ sym (no_edit words (grind (arith, nat_tests, len)) (grind (arith, nat_tests, len)) (grind (arith, nat_tests, len)) (grind (arith, nat_tests, len)))
      | in_default-via-else-words-lt2+else-words-lt3+else-words-lt4+then-words-lt5 w ↦ sym (no_edit words (grind (arith, nat_tests, len)) (grind (arith, nat_tests, len)) (grind (arith, nat_tests, len)) (grind (arith, nat_tests, len)))
      | in_default-via-else-words-lt2+else-words-lt3+else-words-lt4+else-words-lt5+else-words-lt6+else-words-lt7 w ↦ sym (no_edit words (grind (arith, nat_tests, len)) (grind (arith, nat_tests, len)) (grind (arith, nat_tests, len)) (grind (arith, nat_tests, len)))
    ]

use Rattle.std.proofs.Common.{◌≡◌, ◌++◌, map, length}
use Rattle.edits_file.specs.Words.{words_in}
use Rattle.edits_file.proofs.words.words_of.Given as goal

abbrev pub invariant-loop : goal.invariant-loop
invariant-loop l = record {
  count : length l.words.items ≡ l.counter;
  words : map (λ w. w.now) l.words.items ++ words_in l.rest ≡ words_in l.line;
}

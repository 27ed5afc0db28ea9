use Rattle.std.proofs.Common.{◌≡◌, ◌+◌, ◌*◌, ◌≤◌, ◌++◌, drop, IsAscii}
use Rattle.decimal_text.specs.Numbers.{entry, pairs_up_to}
use Rattle.decimal_text.proofs.digit_writer.DigitWriter.write_pairs.Given as goal

abbrev pub invariant-loop-left : goal.invariant-loop-left
invariant-loop-left l = record {
  within : l.left ≤ l.last;
  room : 82 * l.left + 82 ≤ l.at;
  near : l.end + 82 * l.left ≤ l.at + 82 * l.last;
  inside : l.at ≤ l.end;
  written : pairs_up_to l.parting l.between (entry l.firsts) (entry l.seconds) l.left ++ drop l.at l.bytes
      ≡ pairs_up_to l.parting l.between (entry l.firsts) (entry l.seconds) l.last ++ drop l.end l.fn.bytes;
  plain : IsAscii (drop l.end l.fn.bytes) → IsAscii (drop l.at l.bytes);
}

abbrev pub decreases-loop-left : goal.decreases-loop-left
decreases-loop-left l = l.left

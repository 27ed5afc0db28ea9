use Rattle.std.proofs.Common.{◌≡◌, ◌+◌, ◌*◌, ◌≤◌, ◌++◌, length, drop, IsAscii}
use Rattle.decimal_text.specs.Numbers.{behind_each}
use Rattle.decimal_text.proofs.digit_writer.DigitWriter.write_each.Given as goal

abbrev pub invariant-loop-left : goal.invariant-loop-left
invariant-loop-left l = record {
  within : l.left ≤ length l.numbers;
  room : 41 * l.left ≤ l.at;
  near : l.end + 41 * l.left ≤ l.at + 41 * length l.numbers;
  inside : l.at ≤ l.end;
  written : drop l.at l.bytes ≡ behind_each l.byte (drop l.left l.numbers) ++ drop l.end l.fn.bytes;
  plain : IsAscii (drop l.end l.fn.bytes) → IsAscii (drop l.at l.bytes);
}

abbrev pub decreases-loop-left : goal.decreases-loop-left
decreases-loop-left l = l.left

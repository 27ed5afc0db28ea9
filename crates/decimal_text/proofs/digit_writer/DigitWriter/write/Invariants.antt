use Rattle.std.proofs.Common.{◌≡◌, ◌+◌, ◌-◌, ◌%◌, ◌≤◌, ◌++◌, length, drop}
use Rattle.std.specs.Fmt.{decimal}
use Rattle.decimal_text.proofs.digit_writer.DigitWriter.write.Given as goal

abbrev pub invariant-loop-left : goal.invariant-loop-left
invariant-loop-left l = record {
  below : l.at ≤ l.end;
  whole : (l.end - l.at) % 4 ≡ 0;
  digits : l.at + length (decimal l.n) ≡ l.end + length (decimal l.left);
  written : decimal l.left ++ drop l.at l.bytes ≡ decimal l.n ++ drop l.end l.fn.bytes;
}

abbrev pub decreases-loop-left : goal.decreases-loop-left
decreases-loop-left l = l.left

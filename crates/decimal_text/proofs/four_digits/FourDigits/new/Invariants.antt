use Rattle.std.proofs.Common.{◌≡◌, length}
use Rattle.decimal_text.specs.Quads.{AreQuads, AreZeros}
use Rattle.decimal_text.proofs.four_digits.FourDigits.new.Given as goal

abbrev pub invariant-loop-n : goal.invariant-loop-n
invariant-loop-n l = record {
  all_quads : length l.table.items ≡ l.n;
  quads : AreQuads l.table.items l.n;
  all_zeros : length l.zeros.items ≡ l.n;
  zeros : AreZeros l.zeros.items l.n;
}

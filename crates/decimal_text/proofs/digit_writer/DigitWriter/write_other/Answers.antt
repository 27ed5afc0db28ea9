use Rattle.std.proofs.Common.{drop, arith}
use Rattle.std.proofs.lemmas.Fmt.{IsAscii-decimal}
use Rattle.std.proofs.lemmas.Str.{IsAscii-append}
use Rattle.std.specs.Fmt.{decimal}
use Rattle.decimal_text.proofs.QuadLemmas.{ascii_before}
use Rattle.decimal_text.proofs.digit_writer.DigitWriter.write_other.Goals as goal

pub returns-clause-plain : goal.returns-clause-plain
returns-clause-plain c rest =
    let n = c.unsigned_abs-magnitude.result in
    let digits = IsAscii-append (decimal n) (drop c.args.end c.args.bytes.now) (IsAscii-decimal n (omega (arith, c.if-magnitude.false))) rest in
    let signed = ascii_before 45 (drop c.write-digits.result c.write-digits.new.bytes) (omega arith) (rw c.write-digits.ensures.written digits) in
    rw c.write_byte.ensures.written
    (ascii_before c.args.byte (drop c.write_byte-start.result c.write_byte-start.new.bytes) c.requires.ascii (rw c.write_byte-start.ensures.written signed))

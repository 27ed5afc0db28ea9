use Rattle.std.proofs.Common.{rules, drop}
use Rattle.std.proofs.lemmas.Fmt.{IsAscii-decimal}
use Rattle.std.proofs.lemmas.Str.{IsAscii-append}
use Rattle.std.specs.Fmt.{decimal}
use Rattle.decimal_text.proofs.QuadLemmas.{ascii_before}
use Rattle.decimal_text.proofs.digit_writer.DigitWriter.write_whole.Goals as goal

pub returns-clause-plain : goal.returns-clause-plain
returns-clause-plain c rest =
    let n = c.in-Ok.magnitude in
    let digits = IsAscii-append (decimal n) (drop c.args.end c.args.bytes.now) (IsAscii-decimal n (search rules)) rest in
    rw c.write_byte.ensures.written
    (ascii_before c.args.byte (drop c.write-start.result c.write-start.new.bytes) c.requires.ascii (rw c.write-start.ensures.written digits))

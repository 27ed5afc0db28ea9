use Rattle.std.proofs.Common.{drop, length, ap, arith, length-append, length-drop}
use Rattle.std.proofs.lemmas.Fmt.{length-decimal-le, IsAscii-decimal}
use Rattle.std.proofs.lemmas.Str.{IsAscii-append}
use Rattle.std.specs.Fmt.{decimal}
use Rattle.decimal_text.proofs.backward_text.BackwardText.put_natural.Goals as goal

pub write-self-inside-requires-clause-room : goal.write-self-inside-requires-clause-room
write-self-inside-requires-clause-room c = omega (arith, c.requires.room, ap length c.self.view_is, length-drop c.self.inside.start c.self.inside.bytes)

pub invariant_of-self : goal.invariant_of-self
invariant_of-self c =
    let w = c.write-self-inside in
    (omega arith, rw w.ensures.written (IsAscii-append _ _ (IsAscii-decimal c.args.n c.ranges.n.fits) c.self.invariant.1))

pub returns-clause-short : goal.returns-clause-short
returns-clause-short c =
    let w = c.write-self-inside in
    let short = length-decimal-le 20 c.args.n (omega arith) (omega (arith, c.ranges.n.fits)) (omega arith) in
    rw w.ensures.written (omega (arith, short, length-append (decimal c.args.n) (drop c.self.inside.start c.self.inside.bytes), ap length c.self.view_is))

use Rattle.std.proofs.Common.{◌+◌, ◌-◌, ◌≡◌, ◌++◌, drop, ◌∙◌, ap, arith}
use Rattle.decimal_text.proofs.QuadLemmas.{after_zeros, text_behind}
use Rattle.decimal_text.specs.Quads.{quad}
use Rattle.decimal_text.proofs.digit_writer.DigitWriter.write_short.Goals as goal

pub returns-clause-written : goal.returns-clause-written
returns-clause-written c =
    let e : c.args.end - 4 + 4 ≡ c.args.end = omega arith in
    after_zeros c.write_four.new.bytes _ c.args.n (c.args.end - 4) c.zeros.result (c.write_four.ensures ∙ ap (λ k. quad c.args.n ++ drop k c.args.bytes.now) e) (omega arith)
    (text_behind c.args.n c.zeros.result c.requires.low c.zeros.ensures)

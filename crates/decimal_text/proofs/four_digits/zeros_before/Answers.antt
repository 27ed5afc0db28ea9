use Rattle.decimal_text.proofs.QuadLemmas.{behind_zeros}
use Rattle.decimal_text.proofs.four_digits.zeros_before.Goals as goal

pub returns : goal.returns
returns c =
    rw (c.from.ensures, c.from-2.ensures, c.from-3.ensures) ((behind_zeros c.args.n c.requires).1)

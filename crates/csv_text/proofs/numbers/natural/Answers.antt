use Rattle.std.proofs.Common.{arith}
use Rattle.csv_text.proofs.NumberLemmas.{few_digits, most_digits}
use Rattle.csv_text.proofs.numbers.natural.Goals as goal

pub overflow_mul-value : goal.overflow_mul-value
overflow_mul-value c = let few = few_digits _ _ (omega arith) c.loop-digit.invariant.size in omega arith

pub overflow_add-value : goal.overflow_add-value
overflow_add-value c =
    let few = few_digits _ _ (omega arith) c.loop-digit.invariant.size in
    let byte = c.type_inv.digits c.loop-digit.digit-index in
    omega arith

pub returns-clause-small : goal.returns-clause-small
returns-clause-small c = most_digits _ _ (omega arith) c.loop-digit.invariant.size

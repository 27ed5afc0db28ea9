use Rattle.std.proofs.Common.{rules, ◌≡◌, ◌∙◌, ◌∷◌, ◌++◌, List, ℕ, to_z, of_z, FitsSigned, to_z-of_z, ap, sym, append_assoc, drop}
use Rattle.std.specs.Int.{w64, w128}
use Rattle.std.specs.Fmt.{signed_decimal}
use Rattle.decimal_text.proofs.digit_writer.DigitWriter.write_pair.Goals as goal

pub returns-clause-written : goal.returns-clause-written
returns-clause-written c =
    let first-fits : FitsSigned w64 c.args.first = search rules in
    let second-fits : FitsSigned w64 c.args.second = search rules in
    let first-wide : FitsSigned w128 c.from-2.result = search rules in
    let second-wide : FitsSigned w128 c.from.result = search rules in
    let first-is : to_z w128 (of_z w128 c.from-2.result) ≡ c.args.first = to_z-of_z first-wide ∙ (c.from-2.ensures ∙ to_z-of_z first-fits) in
    let second-is : to_z w128 (of_z w128 c.from.result) ≡ c.args.second = to_z-of_z second-wide ∙ (c.from.ensures ∙ to_z-of_z second-fits) in
    let first = c.args.byte ∷ signed_decimal c.args.first in
    let second = c.args.between ∷ signed_decimal c.args.second in
    let rest = drop c.args.end c.args.bytes.now in
    c.write_whole.ensures.written ∙ ap (λ z. (c.args.byte ∷ signed_decimal z) ++ drop c.write_whole-start.result c.write_whole-start.new.bytes) first-is
    ∙ ap (λ (t : List ℕ). first ++ t) (c.write_whole-start.ensures.written ∙ ap (λ z. (c.args.between ∷ signed_decimal z) ++ rest) second-is)
    ∙ sym (append_assoc first second rest)

use Rattle.std.proofs.Common.{rules, ◌≡◌, ◌+◌, ◌-◌, ◌∙◌, ◌∷◌, ◌++◌, List, ℕ, ℤ, pos, FitsSigned, to_z-of_z, ap, sym, append_assoc, drop, arith}
use Rattle.std.proofs.lemmas.List.{drop_more}
use Rattle.std.specs.Int.{w128}
use Rattle.std.specs.Fmt.{signed_decimal}
use Rattle.decimal_text.specs.Numbers.{behind_each, entry}
use Rattle.decimal_text.proofs.digit_writer.DigitWriter.write_each.Goals as goal

pub loop-left-preserved : goal.loop-left-preserved
loop-left-preserved c =
    let l = c.loop-left in
    let i = l.invariant in
    let numbers = c.args.numbers.now in
    let k = l.left - 1 in
    let number = entry numbers k in
    let fits : FitsSigned w128 number = search rules in
    let text = c.args.byte ∷ signed_decimal number in
    let rest = drop c.args.end c.args.bytes.now in
    let next : k + 1 ≡ l.left = omega arith in
    record {
      within = omega arith;
      room = omega arith;
      near = omega arith;
      inside = omega arith;
      written =
          c.write_whole-at.ensures.written ∙ ap (λ z. (c.args.byte ∷ signed_decimal z) ++ drop l.at l.bytes) (to_z-of_z fits)
          ∙ ap (λ (t : List ℕ). text ++ t) i.written
          ∙ sym (append_assoc text (behind_each c.args.byte (drop l.left numbers)) rest)
          ∙ ap (λ m. (text ++ behind_each c.args.byte (drop m numbers)) ++ rest) (sym next)
          ∙ ap (λ (ns : List ℤ). behind_each c.args.byte ns ++ rest) (sym (drop_more numbers k (pos 0) (omega arith)));
      plain = λ rest. c.write_whole-at.ensures.plain (i.plain rest);
    }

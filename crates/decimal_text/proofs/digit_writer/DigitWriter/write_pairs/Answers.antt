use Rattle.std.proofs.Common.{rules, ◌≡◌, ◌-◌, ◌∙◌, ◌∷◌, ◌++◌, List, ℕ, suc, ℤ, to_z, of_z, FitsSigned, to_z-of_z, ap, sym, append_assoc, drop, arith}
use Rattle.std.specs.Int.{w64}
use Rattle.decimal_text.specs.Numbers.{entry, pair_text, pairs_up_to}
use Rattle.decimal_text.proofs.digit_writer.DigitWriter.write_pairs.Goals as goal

pub loop-left-preserved : goal.loop-left-preserved
loop-left-preserved c =
    let l = c.loop-left in
    let i = l.invariant in
    let xs = entry c.args.firsts.now in
    let ys = entry c.args.seconds.now in
    let first-fits : FitsSigned w64 (xs l.left) = search rules in
    let second-fits : FitsSigned w64 (ys l.left) = search rules in
    let pair = λ (x : ℤ) (y : ℤ). c.args.parting ∷ pair_text c.args.between x y in
    let before = pairs_up_to c.args.parting c.args.between xs ys (l.left - 1) in
    let rest = drop l.at l.bytes in
    let next : suc (l.left - 1) ≡ l.left = omega arith in
    record {
      within = omega arith;
      room = omega arith;
      near = omega arith;
      inside = omega arith;
      written =
          ap (λ (t : List ℕ). before ++ t) (c.write_pair-at.ensures.written
          ∙ ap (λ z. pair z (to_z w64 (of_z w64 (ys l.left))) ++ rest) (to_z-of_z first-fits)
          ∙ ap (λ z. pair (xs l.left) z ++ rest) (to_z-of_z second-fits))
          ∙ sym (append_assoc before (pair (xs l.left) (ys l.left)) rest)
          ∙ ap (λ m. (before ++ pair (xs m) (ys m)) ++ rest) (sym next)
          ∙ ap (λ m. pairs_up_to c.args.parting c.args.between xs ys m ++ rest) next
          ∙ i.written;
      plain = λ rest. c.write_pair-at.ensures.plain (i.plain rest);
    }

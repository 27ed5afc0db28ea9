use Rattle.std.proofs.Common.{◌≡◌, ◌∙◌, Some, pos, sym, ap, rules, to_z, w64}
use Rattle.csv_text.specs.Numbers.{natural_in}
use Rattle.csv_text.proofs.NumberLemmas.{natural-number}
use Rattle.csv_text.proofs.numbers.number.Goals as goal

pub returns-in-Some : goal.returns-in-Some
returns-in-Some c =
    let is : natural_in 18 c.args.text.now ≡ Some c.in-Some.size = sym c.natural.ensures.value ∙ c.in-Some.is in
    let same : to_z w64 c.in-Some.size ≡ pos c.in-Some.size = search rules in
    ap (λ z. Some z) same ∙ sym (natural-number c.args.text.now c.in-Some.size is)

use Rattle.std.proofs.Common.{◌≡◌, ◌∙◌, length, sym, arith, rules}
use Rattle.moment_sums.specs.KeptLaws.{length-added}
use Rattle.moment_sums.proofs.PlaceLemmas.{at_added, same_places}
use Rattle.moment_sums.proofs.rows.add_masses.Goals as goal

pub returns : goal.returns
returns c =
    let inv = c.loop-i.invariant in
    let one : length c.args.one.now ≡ 16 = search rules in
    let other : length c.args.other.now ≡ 16 = search rules in
    same_places c.loop-i.sums _ (inv.0 ∙ sym (length-added 16 c.args.one.now c.args.other.now one other))
    (λ i low. inv.1 i (omega (arith, inv.0, c.loop-i-test.false)) ∙ sym (at_added c.args.one.now c.args.other.now i))

use Rattle.std.proofs.Common.{◌≡◌, ◌∙◌, ◌+◌, map, set, get_or, below_more, length-set, get_or-set_same, get_or-set_other, arith}
use Rattle.moment_sums.specs.Kept.{none_kept}
use Rattle.running_sums.specs.Fours.{change_of, fours}
use Rattle.running_sums.proofs.fours.set_room.Goals as goal

pub loop-k-preserved : goal.loop-k-preserved
loop-k-preserved c =
    let xs = map (change_of c.args.frames.now) c.args.sequence.now.steps in
    let k = c.loop-k.k in
    let room = c.loop-k.room in
    let inv = c.loop-k.invariant in
    let v = c.set_four.new.sum in
    record {
      long = length-set room k v ∙ inv.long;
      each = below_more (λ j. get_or (set room k v) j none_kept ≡ get_or (fours xs) (c.args.four + j) none_kept) k
          (λ j low. get_or-set_other room k j v none_kept (λ e. absurd (omega (arith, e, low))) ∙ inv.each j low)
          (get_or-set_same room k v none_kept (omega (arith, inv.long, c.loop-k-test.true)) ∙ c.set_four.ensures.value);
      grows = omega (arith, inv.grows, c.set_four.ensures.bound);
      bound = omega (arith, inv.bound, c.set_four.ensures.bound);
      counted = λ low. let before = inv.counted (omega (arith, low)) in let more = c.set_four.ensures.counted (omega (arith, before, low)) in omega (arith, before, more);
    }

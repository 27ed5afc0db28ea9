use Rattle.std.proofs.Common.{◌≡◌, ◌+◌, ◌-◌, ◌/◌, ◌%◌, ◌≤◌, ◌++◌, drop, ap, ◌∙◌, arith}
use Rattle.std.proofs.lemmas.Fmt.{length-decimal-le}
use Rattle.std.specs.Fmt.{decimal}
use Rattle.itoa.proofs.Decimal.{length_four}
use Rattle.decimal_text.proofs.QuadLemmas.{four_more, room_left}
use Rattle.decimal_text.specs.Quads.{quad}
use Rattle.decimal_text.proofs.digit_writer.DigitWriter.write.Goals as goal

pub loop-left-preserved : goal.loop-left-preserved
loop-left-preserved c =
    let l = c.loop-left in
    let i = l.invariant in
    let long = length_four l.left c.loop-left-test.true l.auto.left-fits.fits in
    let room : 4 ≤ l.at = room_left c.args.n l.left l.at c.args.end c.ranges.n.fits l.auto.left-fits.fits c.requires.room i.below i.whole i.digits in
    let e : l.at - 4 + 4 ≡ l.at = omega arith in record {
      below = omega arith;
      whole = omega arith;
      digits = omega arith;
      written = ap (λ d. decimal (l.left / 10000) ++ d) (c.write_four.ensures ∙ ap (λ k. quad (l.left % 10000) ++ drop k l.bytes) e)
          ∙ four_more l.left (drop l.at l.bytes) c.loop-left-test.true l.auto.left-fits.fits ∙ i.written;
    }

pub overflow_sub-at : goal.overflow_sub-at
overflow_sub-at c =
    let l = c.loop-left in
    let i = l.invariant in
    room_left c.args.n l.left l.at c.args.end c.ranges.n.fits l.auto.left-fits.fits c.requires.room i.below i.whole i.digits

pub overflow_sub-at-in-loop-left : goal.overflow_sub-at-in-loop-left
overflow_sub-at-in-loop-left c =
    let l = c.loop-left in
    let i = l.invariant in
    room_left c.args.n l.left l.at c.args.end c.ranges.n.fits l.auto.left-fits.fits c.requires.room i.below i.whole i.digits

pub write_short-requires-clause-room : goal.write_short-requires-clause-room
write_short-requires-clause-room c =
    let l = c.loop-left in
    let i = l.invariant in
    room_left c.args.n l.left l.at c.args.end c.ranges.n.fits l.auto.left-fits.fits c.requires.room i.below i.whole i.digits

pub returns-clause-short : goal.returns-clause-short
returns-clause-short c =
    let most = length-decimal-le 20 c.args.n (omega arith) (omega arith) c.ranges.n.fits in
    omega (arith, most)

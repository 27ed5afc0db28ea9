use Rattle.std.proofs.Common.{◌≡◌, ◌+◌, ◌≤◌, ℕ, List, length, map, drop, sym, ap, arith, subst}
use Rattle.prefix_scan.specs.Counted.{Counted}
use Rattle.prefix_scan.specs.Rows.{IsWritten}
use Rattle.moment_sums.specs.Kept.{Kept, none_kept}
use Rattle.running_sums.specs.Fours.{AreOfFour, change_of, fours}
use Rattle.running_sums.proofs.ChangeLemmas.{small}
use Rattle.running_sums.proofs.RunLemmas.{room_small, room_sum, room_written}
use Rattle.running_sums.proofs.fours.Fours.renew_piece.Goals as goal

pub renew-requires-clause-sizes : goal.renew-requires-clause-sizes
renew-requires-clause-sizes c =
    let steps = c.args.sequence.now.steps in
    let xs : List Kept = map (change_of c.args.frames.now) steps in
    let is = ap (λ (f : Counted Kept). f.values) c.self.view_is in
    let old : List Kept = c.self.inside.tree.values in
    let vs : List Kept = c.set_room.new.room in
    let long : length vs ≡ length c.args.room.now = c.set_room.ensures.long in
    let within : c.args.four + length vs ≤ length old = omega (arith, c.requires.within, long, ap length is) in
    let sum = room_sum xs old vs c.args.four (λ k h. c.set_room.ensures.each k (omega (arith, h, long))) within (small c.args.frames.now steps) (subst AreOfFour (sym is) c.requires.small) in
    omega (arith, sum, ap length is, c.requires.long, c.facts.ensures.few)

pub returns-clause-values : goal.returns-clause-values
returns-clause-values c =
    let xs : List Kept = map (change_of c.args.frames.now) c.args.sequence.now.steps in
    let is = ap (λ (f : Counted Kept). f.values) c.self.view_is in
    let old : List Kept = c.self.inside.tree.values in
    let vs : List Kept = c.set_room.new.room in
    let four = c.args.four in
    let long : length vs ≡ length c.args.room.now = c.set_room.ensures.long in
    let within : four + length vs ≤ length old = omega (arith, c.requires.within, long, ap length is) in
    let after : List Kept = c.renew.new.self.values in
    subst (λ (l : List Kept). IsWritten none_kept four (length c.args.room.now) (drop four (fours xs)) l after) is
    (subst (λ (n : ℕ). IsWritten none_kept four n (drop four (fours xs)) old after) long
    (subst (λ (l : List Kept). IsWritten none_kept four (length vs) (drop four (fours xs)) old l) (sym c.renew.ensures.values)
    (room_written xs old vs four (λ k h. c.set_room.ensures.each k (omega (arith, h, long))) within)))

pub returns-clause-small : goal.returns-clause-small
returns-clause-small c =
    let steps = c.args.sequence.now.steps in
    let xs : List Kept = map (change_of c.args.frames.now) steps in
    let is = ap (λ (f : Counted Kept). f.values) c.self.view_is in
    let old : List Kept = c.self.inside.tree.values in
    let vs : List Kept = c.set_room.new.room in
    let long : length vs ≡ length c.args.room.now = c.set_room.ensures.long in
    let within : c.args.four + length vs ≤ length old = omega (arith, c.requires.within, long, ap length is) in
    subst AreOfFour (sym c.renew.ensures.values)
    (room_small xs old vs c.args.four (λ k h. c.set_room.ensures.each k (omega (arith, h, long))) within (small c.args.frames.now steps) (subst AreOfFour (sym is) c.requires.small))

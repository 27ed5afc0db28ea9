use Rattle.std.proofs.Common.{◌≡◌, ◌∙◌, ◌≤◌, ◌<◌, ◌+◌, ◌-◌, ◌*◌, ◌/◌, List, Some, true, length, map, drop, get_or, sym, ap, subst, arith}
use Rattle.std.specs.Prelude.{slice_get}
use Rattle.std.proofs.lemmas.List.{length-map}
use Rattle.std.proofs.lemmas.Option.{slice_get-get_or}
use Rattle.lift_sequence.specs.declared.operations.Op.{Op}
use Rattle.lift_sequence.specs.Follow.{loaded_at, moves, moves_in}
use Rattle.moment_sums.specs.Kept.{Kept}
use Rattle.running_sums.specs.Fours.{AreMixedBut, AreOfFour, AreStill, change_of, fours}
use Rattle.running_sums.proofs.FourLemmas.{length-fours, of_four}
use Rattle.running_sums.proofs.RenewLemmas.{cell_at, no_moves, whole}
use Rattle.running_sums.proofs.RunLemmas.{all_costs, one_move, run_begins, run_costs, run_goes_on, run_is_set, run_skips}
use Rattle.running_sums.proofs.renewing.renew.Goals as goal

pub loop-behind-init : goal.loop-behind-init
loop-behind-init c =
    let ops = c.args.sequence.now.ops in
    let place = c.args.place in
    let ys : List Kept = map (change_of c.args.frames.now) c.args.sequence.now.steps in
    let sums : List Kept = c.args.sums.now.values in
    let op = c.index-ops-place.result in
    let listed = c.ops-ops.ensures in
    let at : get_or ops place op ≡ op = ap (λ l. get_or l place op) (sym listed) ∙ sym c.index-ops-place.is in
    let first = c.loaded_cell-cell.result in
    let cell : first ≡ loaded_at ops place = c.loaded_cell-cell.ensures ∙ sym (cell_at ops place op c.requires.within at) in
    let same : length ys ≡ length ops = length-map c.args.sequence.now.steps (change_of c.args.frames.now) ∙ c.facts.ensures.long in
    let were = c.requires.near in
    let long : length sums ≡ length (fours ys) = ap length were.are ∙ length-fours were.olds ∙ ap (λ n. n / 4) were.long ∙ sym (length-fours ys) in
    let to = c.next_move-behind.result in
    let order : (place + 1 ≤ to) × (to ≤ length ops) = subst (λ (l : List Op). (place + 1 ≤ to) × (to ≤ length l)) listed c.next_move-behind.ensures.order in
    let still : AreStill first ops (place + 1) to = subst (λ (l : List Op). AreStill first l (place + 1) to) listed c.next_move-behind.ensures.still in
    let none = no_moves ops first (place + 1) to order.0 order.1 still in
    let counted : place / 4 + 1 - place / 4 + moves_in first (drop to ops) ≡ moves_in (loaded_at ops place) (drop (place + 1) ops) + 1 = omega (arith, none, ap (λ w. moves_in w (drop (place + 1) ops)) cell) in
    record {
      inside = order.1;
      moved = subst (λ (l : List Op). (o : Op) → slice_get l to ≡ Some o → moves first o ≡ true) listed c.next_move-behind.ensures.moves;
      mixed = run_skips ops first ys sums (place / 4) (place / 4 + 1) (place + 1) to (sym same) order.0 order.1 still (run_begins ys place ops first sums long were cell);
      long = long ∙ length-fours ys ∙ ap (λ n. n / 4) same;
      small = subst AreOfFour (sym were.are) (of_four were.olds were.small);
      some = omega arith;
      fits = omega arith;
      grows = omega arith;
      cost = λ k h. omega (arith, ap (λ n. n * (k + 1)) counted);
    }

pub loop-behind-preserved : goal.loop-behind-preserved
loop-behind-preserved c =
    let ops = c.args.sequence.now.ops in
    let behind = c.loop-behind.behind in
    let inv = c.loop-behind.invariant in
    let ys : List Kept = map (change_of c.args.frames.now) c.args.sequence.now.steps in
    let now : List Kept = c.loop-behind.sums.values in
    let after : List Kept = c.add_four.new.sums.values in
    let op = c.index-ops-behind.result in
    let listed = c.ops-ops.ensures in
    let inside : behind < length ops = omega (arith, c.loop-behind-test.true, ap (λ l. length l) listed) in
    let at : get_or ops behind op ≡ op = ap (λ l. get_or l behind op) (sym listed) ∙ sym c.index-ops-behind.is in
    let same : length ys ≡ length ops = length-map c.args.sequence.now.steps (change_of c.args.frames.now) ∙ c.facts.ensures.long in
    let within : behind < length ys = subst (λ n. behind < n) (sym same) inside in
    let step = c.add_four.ensures in
    let run = c.loop-behind.run in
    let next = c.add_four.new.run in
    let moved : moves c.loop-behind.cell op ≡ true = inv.moved op (slice_get-get_or ops behind op inside ∙ ap (λ (o : Op). Some o) at) in
    let cell = c.next_cell-cell.result in
    let to = c.next_move-behind-in-loop-behind.result in
    let order : (behind + 1 ≤ to) × (to ≤ length ops) = subst (λ (l : List Op). (behind + 1 ≤ to) × (to ≤ length l)) listed c.next_move-behind-in-loop-behind.ensures.order in
    let still : AreStill cell ops (behind + 1) to = subst (λ (l : List Op). AreStill cell l (behind + 1) to) listed c.next_move-behind-in-loop-behind.ensures.still in
    let none = no_moves ops cell (behind + 1) to order.0 order.1 still in
    let one = one_move c.loop-behind.cell ops behind op inside at moved in
    let one_less : moves_in c.loop-behind.cell (drop behind ops) ≡ 1 + moves_in cell (drop to ops) = omega (arith, one, none, ap (λ w. moves_in w (drop (behind + 1) ops)) c.next_cell-cell.ensures) in
    record {
      inside = order.1;
      moved = subst (λ (l : List Op). (o : Op) → slice_get l to ≡ Some o → moves cell o ≡ true) listed c.next_move-behind-in-loop-behind.ensures.moves;
      mixed = run_skips ops cell ys after next.four next.end (behind + 1) to (sym same) order.0 order.1 still
          (subst (λ w. AreMixedBut w (behind + 1) next.four next.end ops ys after) (sym c.next_cell-cell.ensures)
          (run_goes_on ys behind c.loop-behind.cell ops op run.four run.end next.four next.end now after (sym same) within at moved inv.mixed
          (λ low. let is = step.inside low in (ap (λ r. r.four) is.0, ap (λ r. r.end) is.0, is.1)) step.added));
      long = step.long ∙ inv.long;
      small = step.small;
      some = step.some;
      fits = omega (arith, step.fits, c.add_four.auto.room);
      grows = omega (arith, inv.grows, step.grows);
      cost = λ k h. run_costs c.loop-behind.sums.joins c.add_four.new.sums.joins (run.end - run.four) (next.end - next.four) (moves_in c.loop-behind.cell (drop behind ops)) (moves_in cell (drop to ops)) (k + 1)
          (c.args.sums.now.joins + (moves_in (loaded_at ops c.args.place) (drop (c.args.place + 1) ops) + 1) * (k + 1)) one_less (inv.cost k h) (step.cost k h);
    }

pub returns-clause-values : goal.returns-clause-values
returns-clause-values c =
    let ops = c.args.sequence.now.ops in
    let ys : List Kept = map (change_of c.args.frames.now) c.args.sequence.now.steps in
    let inv = c.loop-behind.invariant in
    let run = c.loop-behind.run in
    let same : length ys ≡ length ops = length-map c.args.sequence.now.steps (change_of c.args.frames.now) ∙ c.facts.ensures.long in
    let past : length ops ≤ c.loop-behind.behind = omega (arith, c.loop-behind-test.false, ap (λ l. length l) c.ops-ops.ensures) in
    run_is_set (fours ys) c.loop-behind.sums.values inv.mixed.wanted run.four run.end c.set_run.new.self.values inv.mixed.lacks c.set_run.ensures.values
    ∙ whole c.loop-behind.cell ops ys inv.mixed.wanted c.loop-behind.behind (run.end * 4) (omega (arith, same, past)) inv.mixed.mixed

pub returns-clause-cost : goal.returns-clause-cost
returns-clause-cost c =
    let ops = c.args.sequence.now.ops in
    let inv = c.loop-behind.invariant in
    let run = c.loop-behind.run in (
      omega (arith, inv.grows, c.set_run.ensures.cost.0),
      λ k h. all_costs c.loop-behind.sums.joins c.set_run.new.self.joins (run.end - run.four) (moves_in c.loop-behind.cell (drop c.loop-behind.behind ops)) (k + 1)
          (c.args.sums.now.joins + (moves_in (loaded_at ops c.args.place) (drop (c.args.place + 1) ops) + 1) * (k + 1)) (inv.cost k h) (c.set_run.ensures.cost.1 k h),
    )

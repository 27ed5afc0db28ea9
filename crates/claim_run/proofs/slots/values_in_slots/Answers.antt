use Rattle.std.proofs.Common.{rules, arith, ◌≡◌, ◌<◌, ◌+◌, ◌++◌, ◌∙◌, ℕ, suc, ap, sym, refl, length, map, vec_len, subst, List, ◌∷◌, []}
use Rattle.std.specs.List.{range_with_len}
use Rattle.std.specs.Vec.Iter.{into_iter_items}
use Rattle.std.proofs.lemmas.List.FromFn.{map-range_with_len_more}
use Rattle.claim_run.specs.Slots.{RightFrom}
use Rattle.claim_run.proofs.Filling.{next_right, next_full, no_none}
use Rattle.claim_run.proofs.slots.values_in_slots.Goals as goal

pub unreachable-requires : goal.unreachable-requires
unreachable-requires g c =
    let f = next_full (into_iter_items c.loop-slot.slot-iterator) (into_iter_items c.next.new.self) c.in-Some.slot c.loop-slot.invariant.full c.in-Some.ensures.steps.0 in
    no_none c.in-Some.slot f.0 c.in-None-slot.is

pub loop-slot-preserved : goal.loop-slot-preserved
loop-slot-preserved g c =
    let inv = c.loop-slot.invariant in
    let value = g.J.Job.value c.args._job.now in
    let n = vec_len c.loop-slot.all in
    let rest = into_iter_items c.next.new.self in
    let steps = c.in-Some.ensures.steps.0 in
    let r = next_right value n (into_iter_items c.loop-slot.slot-iterator) rest c.in-Some.slot c.in-Some-slot.value inv.right steps c.in-Some-slot.is in
    let f = next_full (into_iter_items c.loop-slot.slot-iterator) rest c.in-Some.slot inv.full steps in
    let pushed = c.in_ok-push-in-Some-slot.ensures in
    let more : suc n ≡ vec_len c.push.new.self = omega (arith, pushed.len) in
    let plus : n + 1 ≡ vec_len c.push.new.self = omega (arith, pushed.len) in
    record {
      count = omega (arith, inv.count, ap length steps, pushed.len);
      right = subst (λ k. RightFrom value k rest) more r.1;
      full = f.1;
      each = pushed.items
          ∙ ap (λ (l : List g.row.J-Out.Denot). l ++ c.in-Some-slot.value ∷ []) inv.each
          ∙ ap (λ (x : g.row.J-Out.Denot). map value (range_with_len 0 n) ++ x ∷ []) r.0
          ∙ sym (map-range_with_len_more value 0 n n (omega arith))
          ∙ ap (λ k. map value (range_with_len 0 k)) plus;
    }

use Rattle.std.proofs.Common.{rules, arith, ◌≡◌, ◌<◌, ◌∙◌, length, vec_len, subst, length-set, Some}
use Rattle.claim_run.specs.Slots.{IsRight}
use Rattle.claim_run.proofs.Filling.{AreGiven, given_front, right_placed, filled_more}
use Rattle.claim_run.proofs.slots.place.Goals as goal

pub index_mut-requires : goal.index_mut-requires
index_mut-requires g c =
    let n = length c.args.slots.now.items in
    let value = g.J.Job.value c.args._job.now in
    let inv = c.next.invariant in
    let is = c.in-Some.ensures.items in
    let front = given_front value n c.pop.new.self.items (c.in-Some.k, c.in-Some.value) (subst (AreGiven value n) is inv.given) in
    let low : c.in-Some.k < length c.next.slots.items = omega (arith, front.1, inv.same_length) in
    omega (arith, low, c.next.slots.ok)

pub next-preserved-in-Some : goal.next-preserved-in-Some
next-preserved-in-Some g c =
    let n = length c.args.slots.now.items in
    let value = g.J.Job.value c.args._job.now in
    let inv = c.next.invariant in
    let is = c.in-Some.ensures.items in
    let front = given_front value n c.pop.new.self.items (c.in-Some.k, c.in-Some.value) (subst (AreGiven value n) is inv.given) in
    let low : c.in-Some.k < length c.next.slots.items = omega (arith, front.1, inv.same_length) in
    record {
      given = front.0;
      right = right_placed value c.next.slots.items c.in-Some.k c.in-Some.value front.2 inv.right;
      same_length = length-set c.next.slots.items c.in-Some.k (Some c.in-Some.value) ∙ inv.same_length;
      filled = λ j h was. filled_more c.next.slots.items c.in-Some.k j c.in-Some.value c.pop.new.self.items c.next.values.items low is (inv.filled j (omega (arith, h, length-set c.next.slots.items c.in-Some.k (Some c.in-Some.value))) was);
    }

pub next-preserved : goal.next-preserved
next-preserved g c =
    let n = length c.args.slots.now.items in
    let value = g.J.Job.value c.args._job.now in
    let inv = c.next.invariant in
    let is = c.in-Some.ensures.items in
    let front = given_front value n c.pop.new.self.items (c.in-Some.k, c.in-Some.value) (subst (AreGiven value n) is inv.given) in
    let low : c.in-Some.k < length c.next.slots.items = omega (arith, front.1, inv.same_length) in
    record {
      given = front.0;
      right = right_placed value c.next.slots.items c.in-Some.k c.in-Some.value front.2 inv.right;
      same_length = length-set c.next.slots.items c.in-Some.k (Some c.in-Some.value) ∙ inv.same_length;
      filled = λ j h was. filled_more c.next.slots.items c.in-Some.k j c.in-Some.value c.pop.new.self.items c.next.values.items low is (inv.filled j (omega (arith, h, length-set c.next.slots.items c.in-Some.k (Some c.in-Some.value))) was);
    }

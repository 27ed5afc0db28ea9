use Rattle.std.proofs.Common.{arith, ◌≡◌, ◌∙◌, ◌+◌, ◌<◌, ◌≤◌, ap, sym, subst, length, reverse, map, set, get_or, Some, refl, length-set, get_or-set_same, get_or-set_other, IsSome, vec_capacity}
use mathlib.Core.Logic.{dite}
use native.Mathlib.Decide.{ℕ_discrete}
use Rattle.std.proofs.lemmas.List.{length-reverse, length-map, get_or_default}
use Rattle.claim_board.specs.declared.workers.Worker.{Worker}
use Rattle.claim_board.specs.Board.{board, change_for, change_if_enabled, change_of, with_change, worker_of}
use Rattle.claim_board.specs.Views.{FollowsRule, hand_of}
use Rattle.claim_board.proofs.Applies.{hand_at, tells, becomes_after, next_le, hand_le}
use Rattle.claim_board.proofs.Turns.{event_keeps}
use Rattle.claim_board.proofs.world.World.apply.Goals as goal

pub worker_outcome-requires : goal.worker_outcome-requires
worker_outcome-requires c = let s = c.self.invariant in omega (arith, next_le _ s.rule, s.few, length-map c.self.inside.workers.items hand_of)

pub returns-in_default-clause-enabled : goal.returns-in_default-clause-enabled
returns-in_default-clause-enabled c =
    let f = c.self.inside in
    let ws = f.workers.items in
    let k = c.from-at.result in
    let worker = c.index.result.now in
    let low : k < length ws = omega (arith, c.if-at-len.false, c.len.ensures, f.workers.ok) in
    let number : k ≡ worker_of c.args.event = c.from-at.ensures ∙ c.worker_number.ensures in
    let told = c.worker_outcome.ensures (map hand_of ws) ∙ (λ i. change_for (board (c.deref.ensures.value i) (c.deref-2.ensures.value i) f.next f.least (map hand_of ws)) c.args.event (Some (hand_of worker))) in
    let change = tells ws c.args.self.now c.args.event k worker c.worker_outcome.result c.self.view_is number low c.index.ensures told ∙ ap (change_if_enabled (reverse worker.entries.items)) c.in_default.is in
    ((λ no. absurd (cc)), λ some. absurd (let h = subst IsSome change some in cc))

pub returns-in_default-clause-change : goal.returns-in_default-clause-change
returns-in_default-clause-change c =
    let f = c.self.inside in
    let ws = f.workers.items in
    let k = c.from-at.result in
    let worker = c.index.result.now in
    let low : k < length ws = omega (arith, c.if-at-len.false, c.len.ensures, f.workers.ok) in
    let number : k ≡ worker_of c.args.event = c.from-at.ensures ∙ c.worker_number.ensures in
    let told = c.worker_outcome.ensures (map hand_of ws) ∙ (λ i. change_for (board (c.deref.ensures.value i) (c.deref-2.ensures.value i) f.next f.least (map hand_of ws)) c.args.event (Some (hand_of worker))) in
    let change = tells ws c.args.self.now c.args.event k worker c.worker_outcome.result c.self.view_is number low c.index.ensures told ∙ ap (change_if_enabled (reverse worker.entries.items)) c.in_default.is in
    sym (ap (with_change c.args.self.now (worker_of c.args.event)) change)

pub change_worker-requires : goal.change_worker-requires
change_worker-requires c =
    let f = c.self.inside in
    let ws = f.workers.items in
    let s = c.self.invariant in
    let k = c.from-at.result in
    let d = c.index_mut.result.now in
    let low : k < length ws = omega (arith, c.if-at-len.false, c.len.ensures, f.workers.ok) in
    let room = s.room k d low in
    let next = next_le _ s.rule in
    let mine = hand_le _ s.rule k _ (hand_at ws k d low) in
    let size = length-reverse (get_or ws k d).entries.items in
    let count = length-map ws hand_of in
    subst (λ (w : Worker). w.entries.len < vec_capacity w.entries) (sym c.index_mut.ensures.value) (let ok = (get_or ws k d).entries.ok in omega arith)

pub invariant_of-self : goal.invariant_of-self
invariant_of-self c =
    let f = c.self.inside in
    let ws = f.workers.items in
    let k = c.from-at.result in
    let worker = c.index.result.now in
    let low : k < length ws = omega (arith, c.if-at-len.false, c.len.ensures, f.workers.ok) in
    let number : k ≡ worker_of c.args.event = c.from-at.ensures ∙ c.worker_number.ensures in
    let told = c.worker_outcome.ensures (map hand_of ws) ∙ (λ i. change_for (board (c.deref.ensures.value i) (c.deref-2.ensures.value i) f.next f.least (map hand_of ws)) c.args.event (Some (hand_of worker))) in
    let change = tells ws c.args.self.now c.args.event k worker c.worker_outcome.result c.self.view_is number low c.index.ensures told ∙ ap (change_if_enabled (reverse worker.entries.items)) c.in-Some.is in
    let there : c.index_mut.result.now ≡ worker = c.index_mut.ensures.value ∙ get_or_default ws k c.index_mut.result.now worker low ∙ sym c.index.ensures in
    let hand = c.change_worker.ensures.hand ∙ ap (λ (w : Worker). (change_of (reverse w.entries.items) c.in-Some.outcome).hand) there in
    let after = becomes_after ws c.args.self.now c.args.event k worker c.change_worker.new.worker c.in-Some.outcome c.self.view_is number change hand in
    let s = c.self.invariant in
    let new = c.change_worker.new.worker in
    record {
      rule = subst FollowsRule (sym after) (event_keeps c.args.self.now c.args.event (subst FollowsRule c.self.view_is s.rule));
      few = omega (arith, s.few, length-set ws k new);
      room =
          let count = length-set ws k new in
          let most = length f.begins.items + length (set ws k new) + 1 in
          let mine : most ≤ vec_capacity new.entries = omega (arith, c.change_worker.ensures.room, s.room k worker low, ap (λ (w : Worker). vec_capacity w.entries) (there ∙ c.index.ensures)) in
          λ j d h. dite (ℕ_discrete j k)
          (λ same. subst (λ (w : Worker). most ≤ vec_capacity w.entries) (sym (ap (λ i. get_or (set ws k new) i d) same ∙ get_or-set_same ws k new d low)) mine)
          (λ apart. subst (λ (w : Worker). most ≤ vec_capacity w.entries) (sym (get_or-set_other ws k j new d apart)) (let r = s.room j d (omega (arith, h)) in omega arith));
    }

pub returns-clause-enabled : goal.returns-clause-enabled
returns-clause-enabled c =
    let f = c.self.inside in
    let ws = f.workers.items in
    let k = c.from-at.result in
    let worker = c.index.result.now in
    let low : k < length ws = omega (arith, c.if-at-len.false, c.len.ensures, f.workers.ok) in
    let number : k ≡ worker_of c.args.event = c.from-at.ensures ∙ c.worker_number.ensures in
    let told = c.worker_outcome.ensures (map hand_of ws) ∙ (λ i. change_for (board (c.deref.ensures.value i) (c.deref-2.ensures.value i) f.next f.least (map hand_of ws)) c.args.event (Some (hand_of worker))) in
    let change = tells ws c.args.self.now c.args.event k worker c.worker_outcome.result c.self.view_is number low c.index.ensures told ∙ ap (change_if_enabled (reverse worker.entries.items)) c.in-Some.is in
    ((λ _. subst IsSome (sym change) refl), λ _. refl)

pub returns-clause-change : goal.returns-clause-change
returns-clause-change c =
    let f = c.self.inside in
    let ws = f.workers.items in
    let k = c.from-at.result in
    let worker = c.index.result.now in
    let low : k < length ws = omega (arith, c.if-at-len.false, c.len.ensures, f.workers.ok) in
    let number : k ≡ worker_of c.args.event = c.from-at.ensures ∙ c.worker_number.ensures in
    let told = c.worker_outcome.ensures (map hand_of ws) ∙ (λ i. change_for (board (c.deref.ensures.value i) (c.deref-2.ensures.value i) f.next f.least (map hand_of ws)) c.args.event (Some (hand_of worker))) in
    let change = tells ws c.args.self.now c.args.event k worker c.worker_outcome.result c.self.view_is number low c.index.ensures told ∙ ap (change_if_enabled (reverse worker.entries.items)) c.in-Some.is in
    let there : c.index_mut.result.now ≡ worker = c.index_mut.ensures.value ∙ get_or_default ws k c.index_mut.result.now worker low ∙ sym c.index.ensures in
    let hand = c.change_worker.ensures.hand ∙ ap (λ (w : Worker). (change_of (reverse w.entries.items) c.in-Some.outcome).hand) there in
    let after = becomes_after ws c.args.self.now c.args.event k worker c.change_worker.new.worker c.in-Some.outcome c.self.view_is number change hand in
    after

use Rattle.std.proofs.Common.{rules, arith, ◌≡◌, ℕ, zero, suc, ◌<◌, ◌≤◌, ◌∙◌, ap, sym, List, [], ◌∷◌, ◌++◌, length, map, replicate, refl, length-append, below_more, get_or, vec_len, vec_capacity, reverse, subst}
use Rattle.std.proofs.lemmas.List.{map-append}
use Rattle.claim_board.specs.declared.entries.Entry.{Entry}
use Rattle.claim_board.specs.declared.workers.Worker.{Worker}
use Rattle.claim_board.specs.declared.events.Status.TheVariants.{Runs}
use Rattle.claim_board.specs.Board.{idle}
use Rattle.claim_board.specs.Views.{hand_of}
use Rattle.claim_board.proofs.workers.idle_workers.Goals as goal

one_more : {A : Type 0} (n : ℕ) (x : A) → replicate n x ++ x ∷ [] ≡ replicate (suc n) x
one_more zero x = refl
one_more (suc n) x = ap (λ l. x ∷ l) (one_more n x)

pushed_hands : (xs : List Worker) (w : Worker) → hand_of w ≡ idle → map hand_of xs ≡ replicate (length xs) idle → map hand_of (xs ++ w ∷ []) ≡ replicate (suc (length xs)) idle
pushed_hands xs w is all = map-append hand_of xs (w ∷ []) ∙ (λ i. all i ++ is i ∷ []) ∙ one_more (length xs) idle

pub more-preserved : goal.more-preserved
more-preserved c =
    let inv = c.more.invariant in
    let xs = c.more.workers.items in
    let pushed = c.in_ok-push.ensures in
    let w : Worker = record { entries = c.in_ok-entries.entries; status = Runs } in
    let items : c.push.new.self.items ≡ xs ++ w ∷ [] = pushed.items in
    let count : length c.push.new.self.items ≡ suc (length xs) = ap length items ∙ omega (arith, length-append xs (w ∷ [])) in
    let empty : hand_of w ≡ idle = ap (λ (l : List Entry). record { entries = reverse l; status = Runs }) c.in_ok-entries.ensures.items in
    let short : length xs < c.args.count = omega (arith, c.more-test.true, c.len.ensures, c.from.ensures, c.more.workers.ok) in
    let ample : c.args.room ≤ vec_capacity c.in_ok-entries.entries = search rules in
    record {
      hands = ap (map hand_of) items ∙ pushed_hands xs w empty inv.hands ∙ sym (ap (λ n. replicate n idle) count);
      few = omega arith;
      room = λ k d low. below_more (λ j. c.args.room ≤ vec_capacity (get_or c.push.new.self.items j d).entries) (vec_len c.more.workers)
          (λ j h. subst (λ (x : Worker). c.args.room ≤ vec_capacity x.entries) (sym (pushed.by_index.0 j d h)) (inv.room j d h))
          (subst (λ (x : Worker). c.args.room ≤ vec_capacity x.entries) (sym (pushed.by_index.1 d refl)) ample) k (omega (arith, pushed.len));
    }

pub more-smaller : goal.more-smaller
more-smaller c =
    let xs = c.more.workers.items in
    let w : Worker = record { entries = c.in_ok-entries.entries; status = Runs } in
    let items : c.push.new.self.items ≡ xs ++ w ∷ [] = c.in_ok-push.ensures.items in
    let count : length c.push.new.self.items ≡ suc (length xs) = ap length items ∙ omega (arith, length-append xs (w ∷ [])) in
    let few = c.more.invariant.few in
    let short : length xs < c.args.count = omega (arith, c.more-test.true, c.len.ensures, c.from.ensures, c.more.workers.ok) in
    omega arith

pub returns-clause-hands : goal.returns-clause-hands
returns-clause-hands c = let all = c.more.invariant in
    let size : length c.more.workers.items ≡ c.args.count = omega (arith, c.more-test.false, c.len.ensures, c.from.ensures, c.more.workers.ok, all.few) in all.hands ∙ ap (λ n. replicate n idle) size

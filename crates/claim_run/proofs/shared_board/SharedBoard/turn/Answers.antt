use Rattle.std.proofs.Common.{rules, refl, arith, ap, sym, subst, ◌∙◌, ◌≡◌, ◌≤◌, ◌<◌, ◌^◌, ℕ, List, ◌∷◌, Some, None}
use Rattle.claim_board.specs.declared.entries.Stage.TheVariants.{Skipped, Worked, Posted}
use Rattle.claim_board.specs.declared.entries.Entry.{Entry}
use Rattle.claim_board.specs.Entries.{fresh, with_look, ended}
use Rattle.claim_run.specs.Views.{least_of}
use Rattle.claim_run.specs.Plays.{on_newest, AtMostAll}
use Rattle.claim_run.specs.Hands.{entries_with, passed, clear, told}
use Rattle.claim_run.specs.Shared.{tail}
use Rattle.claim_run.proofs.Moves.{least_some}
use Rattle.claim_run.proofs.Turning.{stays_free, looked_newest, not_before}
use Rattle.claim_run.proofs.shared_board.SharedBoard.turn.Goals as goal

pub returns-then-least-from-clause-some : goal.returns-then-least-from-clause-some
returns-then-least-from-clause-some g c =
    let n = c.draw-found.result in
    let s = c.least-least.result in
    let e = with_look (least_of s) (fresh n) in
    let look = looked_newest n e _ _ _ (ap (λ m. m.0.entries) c.draw-found.ensures.drawn) (ap (λ m. m.0.entries) c.least-least.ensures.seen) in
    let early : s < g.S.Scout.begins c.args.scout.now n = omega (arith, c.if-least-from.true, c.from-2.ensures, c.begin.ensures) in
    (search rules, (ended Skipped e, ap (on_newest (ended Skipped)) look, refl, passed s refl (least_some s (λ h. absurd (omega arith))) early))

pub returns-then-least-from-clause-looked : goal.returns-then-least-from-clause-looked
returns-then-least-from-clause-looked g c =
    let n = c.draw-found.result in
    let e = with_look (least_of c.least-least.result) (fresh n) in
    let drawn = ap (λ m. m.0.entries) c.draw-found.ensures.drawn in
    let look = looked_newest n e _ _ _ drawn (ap (λ m. m.0.entries) c.least-least.ensures.seen) in
    (ended Skipped e, ap (on_newest (ended Skipped)) look, subst (AtMostAll e.looked) (ap (λ (l : List Entry). tail l) drawn) c.least-least.ensures.least)

pub returns-then-least-from-clause-settles : goal.returns-then-least-from-clause-settles
returns-then-least-from-clause-settles g c =
    let n = c.draw-found.result in
    let s = c.least-least.result in
    let e = with_look (least_of s) (fresh n) in
    let look = looked_newest n e _ _ _ (ap (λ m. m.0.entries) c.draw-found.ensures.drawn) (ap (λ m. m.0.entries) c.least-least.ensures.seen) in
    let early : s < g.S.Scout.begins c.args.self.now.table.shared.key.scout.value n = omega (arith, c.if-least-from.true, c.from-2.ensures, c.begin.ensures, ap (λ t. g.S.Scout.begins t n) c.requires.knows.told) in
    (e, _, look, refl, (s, least_some s (λ h. absurd (omega arith)), early))

pub returns-in-Some-clause-some : goal.returns-in-Some-clause-some
returns-in-Some-clause-some g c =
    let n = c.draw-found.result in
    let s = c.least-least.result in
    let e = with_look (least_of s) (fresh n) in
    let look = looked_newest n e _ _ _ (ap (λ m. m.0.entries) c.draw-found.ensures.drawn) (ap (λ m. m.0.entries) c.least-least.ensures.seen) in
    let step = c.in-Some.step in
    let new = ap (λ m. m.0.entries) c.post.ensures.posted ∙ ap (λ (l : List Entry). ended (Posted step) e ∷ tail l) look in
    let rests = c.post.ensures.seat.1 ∙ c.least-least.ensures.seat.1 ∙ c.draw-found.ensures.seat.1 in
    let late_enough : g.S.Scout.begins c.args.scout.now n ≤ s = omega (arith, c.if-least-from.false, c.from-2.ensures, c.begin.ensures) in
    (search rules, (ended (Posted step) e, ap (λ p. entries_with p c.post.new.hand.seat.me.0.entries) rests ∙ new, refl, told step refl (sym c.look.ensures ∙ c.in-Some.is) (not_before s _ late_enough)))

pub returns-in-Some-clause-looked : goal.returns-in-Some-clause-looked
returns-in-Some-clause-looked g c =
    let n = c.draw-found.result in
    let e = with_look (least_of c.least-least.result) (fresh n) in
    let drawn = ap (λ m. m.0.entries) c.draw-found.ensures.drawn in
    let look = looked_newest n e _ _ _ drawn (ap (λ m. m.0.entries) c.least-least.ensures.seen) in
    let step = c.in-Some.step in
    let new = ap (λ m. m.0.entries) c.post.ensures.posted ∙ ap (λ (l : List Entry). ended (Posted step) e ∷ tail l) look in
    let rests = c.post.ensures.seat.1 ∙ c.least-least.ensures.seat.1 ∙ c.draw-found.ensures.seat.1 in
    (ended (Posted step) e, ap (λ p. entries_with p c.post.new.hand.seat.me.0.entries) rests ∙ new, subst (AtMostAll e.looked) (ap (λ (l : List Entry). tail l) drawn) c.least-least.ensures.least)

pub returns-in-None-clause-some : goal.returns-in-None-clause-some
returns-in-None-clause-some g c =
    let n = c.draw-found.result in
    let s = c.least-least.result in
    let e = with_look (least_of s) (fresh n) in
    let look = looked_newest n e _ _ _ (ap (λ m. m.0.entries) c.draw-found.ensures.drawn) (ap (λ m. m.0.entries) c.least-least.ensures.seen) in
    let late_enough : g.S.Scout.begins c.args.scout.now n ≤ s = omega (arith, c.if-least-from.false, c.from-2.ensures, c.begin.ensures) in
    (search rules, (ended (Worked None) e, ap (on_newest (ended (Worked None))) look, refl, clear refl (sym c.look.ensures ∙ c.in-None.is) (not_before s _ late_enough)))

pub returns-in-None-clause-looked : goal.returns-in-None-clause-looked
returns-in-None-clause-looked g c =
    let n = c.draw-found.result in
    let e = with_look (least_of c.least-least.result) (fresh n) in
    let drawn = ap (λ m. m.0.entries) c.draw-found.ensures.drawn in
    let look = looked_newest n e _ _ _ drawn (ap (λ m. m.0.entries) c.least-least.ensures.seen) in
    (ended (Worked None) e, ap (on_newest (ended (Worked None))) look, subst (AtMostAll e.looked) (ap (λ (l : List Entry). tail l) drawn) c.least-least.ensures.least)

pub returns-in-None-clause-settles : goal.returns-in-None-clause-settles
returns-in-None-clause-settles g c =
    let n = c.draw-found.result in
    let s = c.least-least.result in
    let e = with_look (least_of s) (fresh n) in
    let look = looked_newest n e _ _ _ (ap (λ m. m.0.entries) c.draw-found.ensures.drawn) (ap (λ m. m.0.entries) c.least-least.ensures.seen) in
    let late_enough : g.S.Scout.begins c.args.self.now.table.shared.key.scout.value n ≤ s = omega (arith, c.if-least-from.false, c.from-2.ensures, c.begin.ensures, ap (λ t. g.S.Scout.begins t n) c.requires.knows.told) in
    (e, _, look, refl, (ap (λ t. g.S.Scout.finds t n) c.requires.knows.told ∙ (sym c.look.ensures ∙ c.in-None.is), not_before s _ late_enough))

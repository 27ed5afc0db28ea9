use Rattle.std.proofs.Common.{◌≡◌, ◌∙◌, ◌+◌, ◌^◌, ◌<◌, ◌≤◌, ℕ, List, get_or, length, map, ap, subst, sym}
use Rattle.std.specs.Arc.{arc_value}
use Rattle.std.proofs.lemmas.Result.{IfOk-weaker}
use Rattle.prefix_scan.specs.Cut.{Divides}
use Rattle.prefix_scan.specs.Cut.{start_of}
use Rattle.prefix_scan.specs.Folds.{prefix}
use Rattle.moment_sums.specs.Kept.{Kept, both_kept, none_kept, size_of}
use Rattle.ship_profile.specs.Record.{ProfileRecord}
use Rattle.running_sums.specs.Lines.{AreFirstSums}
use Rattle.port_call.specs.Grounds.{GroundRecord, IsGround, steps_on}
use Rattle.running_sums.specs.Fours.{change_of, fours}
use Rattle.what_if.specs.Sessions.{Summed}
use Rattle.what_if.proofs.ChangeLemmas.{are_kept, changes_fit, first_sums, starts_within}
use Rattle.what_if.proofs.summed_lists.SummedList.first_sums.Goals as goal

pub offsets-requires-clause-within : goal.offsets-requires-clause-within
offsets-requires-clause-within c =
    let same = ap (λ (v : Summed). length v.ops) c.self.view_is in
    let cut = subst (λ n. Divides c.args.cuts.now (n + 1)) (sym same) c.requires in
    starts_within (length c.self.inside.sequence.ops) c.args.cuts.now cut

pub offsets-requires-clause-sums : goal.offsets-requires-clause-sums
offsets-requires-clause-sums c =
    let base = arc_value c.self.inside.base in
    let frames = base.ship.ship.frames in
    let same : c.frames-frames.result.now ≡ frames = c.frames-frames.ensures.value ∙ ap (λ (p : ProfileRecord). p.ship.frames) (c.profile.ensures ∙ ap (λ (b : GroundRecord). b.ship) c.deref.ensures) in
    are_kept base c.self.inside.sequence c.self.inside.sums c.self.invariant ∙ (λ j. fours (map (change_of (sym same j)) c.self.inside.sequence.steps))

pub join_to_arrival-requires-clause-sizes : goal.join_to_arrival-requires-clause-sizes
join_to_arrival-requires-clause-sizes c =
    let frames = (arc_value c.self.inside.base).ship.ship.frames in
    let equal : c.frames-frames.result.now ≡ frames = c.frames-frames.ensures.value ∙ ap (λ (p : ProfileRecord). p.ship.frames) (c.profile.ensures ∙ ap (λ (b : GroundRecord). b.ship) c.deref.ensures) in
    let each = λ (k : ℕ) (e : Kept) (h : k < length c.args.cuts.now). c.in_ok-changes.ensures.each k e h ∙ (λ j. prefix none_kept both_kept (map (change_of (equal j)) c.self.inside.sequence.steps) (start_of c.args.cuts.now k)) in
    let is_base = subst (λ (b : GroundRecord). IsGround b.ship b.arrival c.total.result.now) c.deref-2.ensures c.total.ensures in
    let same = ap (λ (v : Summed). length v.ops) c.self.view_is in
    let cut = subst (λ n. Divides c.args.cuts.now (n + 1)) (sym same) c.requires in
    subst (λ (l : List Kept). (k : ℕ) (e : Kept) → k < length l → size_of (get_or l k e) ≤ 2 ^ 18) (sym c.deref-3.ensures.value)
    (changes_fit (arc_value c.self.inside.base) c.self.inside.sequence c.self.inside.sums c.self.invariant c.total.result.now is_base c.facts.ensures c.args.cuts.now cut
    c.in_ok-changes.changes.items c.in_ok-changes.ensures.count each)

pub returns : goal.returns
returns c =
    let frames = (arc_value c.self.inside.base).ship.ship.frames in
    let equal : c.frames-frames.result.now ≡ frames = c.frames-frames.ensures.value ∙ ap (λ (p : ProfileRecord). p.ship.frames) (c.profile.ensures ∙ ap (λ (b : GroundRecord). b.ship) c.deref.ensures) in
    let each = λ (k : ℕ) (e : Kept) (h : k < length c.args.cuts.now). c.in_ok-changes.ensures.each k e h ∙ (λ j. prefix none_kept both_kept (map (change_of (equal j)) c.self.inside.sequence.steps) (start_of c.args.cuts.now k)) in
    let base = arc_value c.self.inside.base in
    let total = c.total.result.now in
    let is_base = subst (λ (b : GroundRecord). IsGround b.ship b.arrival total) c.deref-2.ensures c.total.ensures in
    let same = ap (λ (v : Summed). length v.ops) c.self.view_is in
    let cut = subst (λ n. Divides c.args.cuts.now (n + 1)) (sym same) c.requires in
    IfOk-weaker c.join_to_arrival.result _ _
    (λ sums made.
    let first = first_sums base c.self.inside.sequence c.self.inside.sums c.self.invariant total is_base c.facts.ensures c.args.cuts.now cut
    c.in_ok-changes.changes.items c.in_ok-changes.ensures.count each sums.items (made ∙ ap (map (both_kept total)) c.deref-3.ensures.value) in
    subst (λ (v : Summed). AreFirstSums v.base.ship.ship.frames v.base.arrival.bodies (steps_on v.base v.ops) c.args.cuts.now sums.items) c.self.view_is
    (subst (λ steps. AreFirstSums base.ship.ship.frames base.arrival.bodies steps c.args.cuts.now sums.items) c.self.invariant.steps first))
    c.join_to_arrival.ensures

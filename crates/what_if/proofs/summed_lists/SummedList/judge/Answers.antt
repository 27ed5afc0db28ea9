use Rattle.std.proofs.Common.{◌≡◌, ◌∙◌, ◌≤◌, length, map, Some, ap, subst, sym, arith}
use Rattle.std.specs.Arc.{arc_value}
use Rattle.ship_profile.specs.Record.{ProfileRecord}
use Rattle.moment_sums.specs.Sum.{Sum}
use Rattle.criteria.specs.Assessment.{assessment_of}
use Rattle.criteria.specs.Figures.{IsVerdict}
use Rattle.prefix_scan.specs.Folds.{prefix}
use Rattle.moment_sums.specs.Kept.{both_kept, none_kept}
use Rattle.port_call.specs.Grounds.{GroundRecord, IsGround, aboard_first}
use Rattle.running_sums.specs.Fours.{CostsUpTo, change_of, fours}
use Rattle.what_if.specs.Bases.{IsJudgedAt}
use Rattle.port_call.specs.Sums.{sum_at}
use Rattle.what_if.specs.Sessions.{Summed}
use Rattle.what_if.proofs.ChangeLemmas.{are_kept, bounded_after, joined_fits, sum_after}
use Rattle.what_if.proofs.summed_lists.SummedList.judge.Goals as goal

pub prefix-change-requires : goal.prefix-change-requires
prefix-change-requires c =
    let base = arc_value c.self.inside.base in
    let sequence = c.self.inside.sequence in
    let sums = c.self.inside.sums in
    let frames = base.ship.ship.frames in
    let same : c.frames-frames.result.now ≡ frames = c.frames-frames.ensures.value ∙ ap (λ (p : ProfileRecord). p.ship.frames) (c.profile.ensures ∙ ap (λ (b : GroundRecord). b.ship) c.deref.ensures) in
    record {
      within = omega (arith, c.if-k-len.false, c.len.ensures);
      sums = are_kept base sequence sums c.self.invariant ∙ (λ j. fours (map (change_of (sym same j)) sequence.steps));
    }

pub join-sum-requires : goal.join-sum-requires
join-sum-requires c =
    let frames = (arc_value c.self.inside.base).ship.ship.frames in
    let same : c.frames-frames.result.now ≡ frames = c.frames-frames.ensures.value ∙ ap (λ (p : ProfileRecord). p.ship.frames) (c.profile.ensures ∙ ap (λ (b : GroundRecord). b.ship) c.deref.ensures) in
    let change = c.prefix-change.ensures.value ∙ (λ j. prefix none_kept both_kept (map (change_of (same j)) c.self.inside.sequence.steps) c.args.k) in
    let is_base = subst (λ (b : GroundRecord). IsGround b.ship b.arrival c.total.result.now) c.deref-2.ensures c.total.ensures in
    joined_fits (arc_value c.self.inside.base) c.self.inside.sequence c.self.inside.sums c.total.result.now is_base c.self.invariant c.facts.ensures c.args.k
    (omega (arith, c.if-k-len.false, c.len.ensures)) c.prefix-change.result change

pub judge-requires : goal.judge-requires
judge-requires c =
    let frames = (arc_value c.self.inside.base).ship.ship.frames in
    let same : c.frames-frames.result.now ≡ frames = c.frames-frames.ensures.value ∙ ap (λ (p : ProfileRecord). p.ship.frames) (c.profile.ensures ∙ ap (λ (b : GroundRecord). b.ship) c.deref.ensures) in
    let change = c.prefix-change.ensures.value ∙ (λ j. prefix none_kept both_kept (map (change_of (same j)) c.self.inside.sequence.steps) c.args.k) in
    let is_base = subst (λ (b : GroundRecord). IsGround b.ship b.arrival c.total.result.now) c.deref-2.ensures c.total.ensures in
    bounded_after (arc_value c.self.inside.base) c.self.inside.sequence c.self.inside.sums c.total.result.now is_base c.self.invariant c.facts.ensures c.args.k
    (omega (arith, c.if-k-len.false, c.len.ensures)) c.prefix-change.result change c.join-sum.result c.join-sum.ensures

pub returns-clause-judged : goal.returns-clause-judged
returns-clause-judged c =
    let frames = (arc_value c.self.inside.base).ship.ship.frames in
    let same : c.frames-frames.result.now ≡ frames = c.frames-frames.ensures.value ∙ ap (λ (p : ProfileRecord). p.ship.frames) (c.profile.ensures ∙ ap (λ (b : GroundRecord). b.ship) c.deref.ensures) in
    let change = c.prefix-change.ensures.value ∙ (λ j. prefix none_kept both_kept (map (change_of (same j)) c.self.inside.sequence.steps) c.args.k) in
    let base = arc_value c.self.inside.base in
    let ops = c.self.inside.sequence.ops in
    let is_base = subst (λ (b : GroundRecord). IsGround b.ship b.arrival c.total.result.now) c.deref-2.ensures c.total.ensures in
    let within : c.args.k ≤ length ops = omega (arith, c.if-k-len.false, c.len.ensures) in
    let sum = sum_after base c.self.inside.sequence c.self.inside.sums c.total.result.now is_base c.self.invariant c.facts.ensures c.args.k within
    c.prefix-change.result change c.join-sum.result c.join-sum.ensures in
    let ship = c.profile-2.ensures ∙ ap (λ (b : GroundRecord). b.ship) c.deref-3.ensures in
    let of_sum = subst (λ (s : Sum). IsVerdict c.judge.result c.profile-2.result.now.ship (assessment_of c.profile-2.result.now s)) sum c.judge.ensures in
    let is = subst (λ (p : ProfileRecord). IsVerdict c.judge.result p.ship (assessment_of p (sum_at base.ship (aboard_first base) ops c.args.k))) ship of_sum in
    subst (λ (v : Summed). IsJudgedAt (Some c.judge.result) v.base v.ops c.args.k) c.self.view_is (within, is)

pub returns-clause-cost : goal.returns-clause-cost
returns-clause-cost c =
    subst (λ (v : Summed). CostsUpTo 1 (length v.ops) v.joins c.prefix-change.new.self.joins) c.self.view_is c.prefix-change.ensures.cost

use Rattle.std.proofs.Common.{◌≡◌, ◌⊎◌, ◌∙◌, ◌+◌, ◌-◌, ◌*◌, ◌/◌, ◌≤◌, ◌∷◌, [], ℕ, List, length, map, drop, ap, inl, inr, subst, sym, arith, ⊎_elim}
use Rattle.std.specs.Prelude.{max}
use Rattle.std.proofs.lemmas.List.{length-map}
use Rattle.std.specs.Arc.{arc_value}
use Rattle.ship_profile.specs.Record.{ProfileRecord}
use Rattle.lift_sequence.specs.declared.operations.Op.{Op}
use Rattle.lift_sequence.proofs.States.{as_many}
use Rattle.prefix_scan.specs.Rows.{IsWritten}
use Rattle.moment_sums.specs.Kept.{Kept, none_kept}
use Rattle.port_call.specs.Grounds.{GroundRecord, aboard_first}
use Rattle.running_sums.specs.Fours.{change_of, fours}
use Rattle.what_if.specs.Sessions.{Summed}
use Rattle.what_if.proofs.ChangeLemmas.{are_kept, are_of_four, as_many_fours, as_many_steps}
use Rattle.what_if.proofs.FillingLemmas.{same_change}
use Rattle.what_if.proofs.MoveLemmas.{lack_beside, length_moved}
use Rattle.what_if.proofs.summed_lists.SummedList.carry_filling_in.Goals as goal

pub renew-requires-clause-long : goal.renew-requires-clause-long
renew-requires-clause-long c =
    let sequence = c.self.inside.sequence in
    let i = c.args.from - 1 in
    let j = c.args.to - 1 in
    let viewed = ap (λ (v : Summed). length v.ops) c.self.view_is in
    let long = ap (λ (l : List Op). length l) c.in-Some.ensures.ops
    ∙ length_moved sequence.ops i j (omega (arith, c.requires.first.0, c.requires.last.0, viewed)) (omega (arith, c.requires.first.1, c.requires.last.1, viewed)) in
    as_many_fours (arc_value c.self.inside.base) sequence c.self.inside.sums c.self.invariant ∙ ap (λ n. n / 4) (sym long)

pub renew-requires-clause-small : goal.renew-requires-clause-small
renew-requires-clause-small c = are_of_four (arc_value c.self.inside.base) c.self.inside.sequence c.self.inside.sums c.self.invariant

pub renew-requires-clause-within : goal.renew-requires-clause-within
renew-requires-clause-within c =
    let viewed = ap (λ (v : Summed). length v.ops) c.self.view_is in
    omega (arith, viewed, as_many_fours (arc_value c.self.inside.base) c.self.inside.sequence c.self.inside.sums c.self.invariant, c.requires.within)

pub renew_places-requires-clause-lack : goal.renew_places-requires-clause-lack
renew_places-requires-clause-lack c =
    let base = arc_value c.self.inside.base in
    let sequence = c.self.inside.sequence in
    let sums = c.self.inside.sums in
    let i = c.args.from - 1 in
    let j = c.args.to - 1 in
    let viewed = ap (λ (v : Summed). length v.ops) c.self.view_is in
    let long = ap (λ (l : List Op). length l) c.in-Some.ensures.ops
    ∙ length_moved sequence.ops i j (omega (arith, c.requires.first.0, c.requires.last.0, viewed)) (omega (arith, c.requires.first.1, c.requires.last.1, viewed)) in
    let frames = base.ship.ship.frames in
    let used = c.frames-frames.result.now in
    let after = c.shift_filling.new.self in
    let four = c.args.four in
    let len = c.args.end - four in
    let many = as_many_steps base sequence sums c.self.invariant in
    let same : used ≡ frames = c.frames-frames.ensures.value ∙ ap (λ (p : ProfileRecord). p.ship.frames) (c.profile.ensures ∙ ap (λ (b : GroundRecord). b.ship) c.deref.ensures) in
    let done = c.shift_filling.ensures.done base.ship (aboard_first base) c.self.invariant.legal c.self.invariant.steps in
    let xs : List Kept = map (change_of used) sequence.steps in
    let ys : List Kept = map (change_of used) after.steps in
    let kept : sums.values ≡ fours xs = are_kept base sequence sums c.self.invariant ∙ (λ k. fours (map (change_of (sym same k)) sequence.steps)) in
    let as_long : length xs ≡ length ys = length-map sequence.steps (change_of used) ∙ many ∙ sym long ∙ sym (ap (λ l. length l) done ∙ as_many base.ship (aboard_first base) after.ops) ∙ sym (length-map after.steps (change_of used)) in
    let first = four * 4 in
    let end = max c.args.from c.args.to in
    let places : List ℕ = c.in-Some.one ∷ c.in-Some.other ∷ [] in
    let all : (end ≤ (four + len) * 4) ⊎ (length xs / 4 ≤ four + len) = ⊎_elim
    (λ (h : (c.args.from ≤ c.args.end * 4) × (c.args.to ≤ c.args.end * 4)). inl (omega (arith, h.0, h.1, c.requires.order)))
    (λ (h : length c.args.self.now.ops / 4 ≤ c.args.end). inr (omega (arith, h, c.requires.order, viewed, many, length-map sequence.steps (change_of used))))
    c.requires.ends in
    lack_beside xs ys c.renew.new.self.values four len first end places as_long
    (subst (λ (l : List Kept). IsWritten none_kept four len (drop four (fours ys)) l c.renew.new.self.values) kept c.renew.ensures.values)
    (λ k low other. same_change used sequence.steps after.steps k
    (c.in-Some.ensures.others k (inl (omega (arith, low, c.requires.begins.0), omega (arith, low, c.requires.begins.1))) other.0 other.1.0))
    (λ k past other. same_change used sequence.steps after.steps k
    (c.in-Some.ensures.others k (inr (omega (arith, past), omega (arith, past))) other.0 other.1.0))
    (omega arith) all

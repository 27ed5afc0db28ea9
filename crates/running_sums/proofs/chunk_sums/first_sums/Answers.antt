use Rattle.std.proofs.Common.{◌≡◌, ◌∙◌, ◌+◌, ◌≤◌, ◌^◌, List, [], get_or, length, map, ap, sym, subst, arith}
use Rattle.std.specs.List.{range_with_len, sum_by}
use Rattle.std.proofs.lemmas.Result.{IfOk-weaker}
use Rattle.prefix_scan.specs.Folds.{offset_list}
use Rattle.moment_sums.specs.Kept.{Kept, both_kept, none_kept, size_of}
use Rattle.running_sums.specs.Lines.{changes_behind, chunk_of}
use Rattle.running_sums.proofs.OffsetLemmas.{are_first_sums, offset_count, offsets_fit, sizes_fit}
use Rattle.running_sums.proofs.chunk_sums.first_sums.Goals as goal

pub offsets-requires : goal.offsets-requires
offsets-requires g c =
    let s = c.args.changes.now in
    let frames = s.frames.now in
    let steps = s.sequence.now.steps in
    let ends = s.cuts.now in
    let few_frames : length frames ≤ 16 = omega (arith, ap (λ l. length l) c.as_slice.ensures.value, c.as_slice.ensures.few) in
    let are = c.in_ok-totals.ensures ∙ ap (λ n. map (λ k. changes_behind frames steps (chunk_of ends k)) (range_with_len 0 n)) c.chunk_count-chunks.ensures in
    let fit = sizes_fit frames [] steps ends (length s.sequence.now.ops + 1) c.in_ok-totals.totals.items few_frames s.cut (omega (arith, c.facts.ensures.few)) (omega (arith, c.facts.ensures.long)) are in
    omega (arith, ap (sum_by size_of) c.deref.ensures.value, fit)

pub join_to_arrival-requires-clause-sizes : goal.join_to_arrival-requires-clause-sizes
join_to_arrival-requires-clause-sizes g c =
    let s = c.args.changes.now in
    let frames = s.frames.now in
    let steps = s.sequence.now.steps in
    let ends = s.cuts.now in
    let totals = c.in_ok-totals.totals.items in
    let few_frames : length frames ≤ 16 = omega (arith, ap (λ l. length l) c.as_slice.ensures.value, c.as_slice.ensures.few) in
    let few : length s.sequence.now.ops + 1 ≤ 120001 = omega (arith, c.facts.ensures.few) in
    let long : length s.sequence.now.ops + 1 ≡ length s.sequence.now.steps + 1 = omega (arith, c.facts.ensures.long) in
    let are = c.in_ok-totals.ensures ∙ ap (λ n. map (λ k. changes_behind frames steps (chunk_of ends k)) (range_with_len 0 n)) c.chunk_count-chunks.ensures in
    let is : c.deref-2.result.now ≡ offset_list none_kept both_kept totals = c.deref-2.ensures.value ∙ c.in_ok-before.ensures ∙ ap (offset_list none_kept both_kept) c.deref.ensures.value in
    λ k d low.
    let count = offset_count frames [] steps ends (length s.sequence.now.ops + 1) totals few_frames s.cut few long are in
    subst (λ (l : List Kept). size_of (get_or l k d) ≤ 2 ^ 18) (sym is)
    (offsets_fit frames [] steps ends (length s.sequence.now.ops + 1) totals few_frames s.cut few long are k d (omega (arith, low, ap (λ l. length l) is, count)))

pub returns : goal.returns
returns g c =
    let s = c.args.changes.now in
    let frames = s.frames.now in
    let steps = s.sequence.now.steps in
    let ends = s.cuts.now in
    let totals = c.in_ok-totals.totals.items in
    let few_frames : length frames ≤ 16 = omega (arith, ap (λ l. length l) c.as_slice.ensures.value, c.as_slice.ensures.few) in
    let are = c.in_ok-totals.ensures ∙ ap (λ n. map (λ k. changes_behind frames steps (chunk_of ends k)) (range_with_len 0 n)) c.chunk_count-chunks.ensures in
    let is : c.deref-2.result.now ≡ offset_list none_kept both_kept totals = c.deref-2.ensures.value ∙ c.in_ok-before.ensures ∙ ap (offset_list none_kept both_kept) c.deref.ensures.value in
    IfOk-weaker c.join_to_arrival.result _ _
    (λ sums made arrival aboard. are_first_sums frames arrival steps ends (length s.sequence.now.ops + 1) totals few_frames s.cut (omega (arith, c.facts.ensures.few)) (omega (arith, c.facts.ensures.long)) are
    c.args.total.now c.requires aboard sums.items (made ∙ ap (map (both_kept c.args.total.now)) is))
    c.join_to_arrival.ensures

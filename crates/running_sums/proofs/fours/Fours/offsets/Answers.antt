use Rattle.std.proofs.Common.{arith, ◌≡◌, ◌++◌, ◌∷◌, [], ℕ, List, length, map, get_or, below_more, ap, sym, ◌∙◌, length-append}
use Rattle.std.proofs.lemmas.List.{get_or_append_left}
use Rattle.std.proofs.Math.Seq.{get_or-append_seam}
use Rattle.prefix_scan.specs.Cut.{start_of}
use Rattle.prefix_scan.specs.Folds.{prefix}
use Rattle.moment_sums.specs.Kept.{Kept, both_kept, none_kept}
use Rattle.running_sums.specs.Fours.{change_of}
use Rattle.running_sums.proofs.fours.Fours.offsets.Goals as goal

pub loop-chunk-preserved : goal.loop-chunk-preserved
loop-chunk-preserved c =
    let cuts = c.args.cuts.now in
    let inv = c.loop-chunk.invariant in
    let at = c.loop-chunk.chunk in
    let before = c.loop-chunk.all.items in
    let here : Kept = c.peek.result in
    let values : List Kept = map (change_of c.args.frames.now) c.args.sequence.now.steps in
    let pushed : c.push.new.self.items ≡ before ++ here ∷ [] = c.in_ok-push.ensures.items in
    let is : here ≡ prefix none_kept both_kept values (start_of cuts at) = c.peek.ensures ∙ ap (λ (k : ℕ). prefix none_kept both_kept values k) c.range-start.ensures.bounds.0 in
    record {
      count = omega (arith, ap length pushed, length-append before (here ∷ []), inv.count);
      each = λ k d low. ap (λ (l : List Kept). get_or l k d) pushed ∙ below_more (λ j. get_or (before ++ here ∷ []) j d ≡ prefix none_kept both_kept values (start_of cuts j)) at
          (λ j lower. get_or_append_left before (here ∷ []) d j (omega (arith, inv.count, lower)) ∙ inv.each j d lower)
          (ap (λ (j : ℕ). get_or (before ++ here ∷ []) j d) (sym inv.count) ∙ get_or-append_seam before here [] d ∙ is)
          k low;
    }

use Rattle.std.proofs.Common.{arith, ◌≡◌, ◌-◌, ◌<◌, ◌++◌, ◌∷◌, [], ℕ, List, length, take, get_or, below_more, ap, sym, ◌∙◌, length-append}
use Rattle.std.proofs.lemmas.List.{get_or_append_left}
use Rattle.std.proofs.Math.Seq.{get_or-append_seam}
use Rattle.std.specs.List.{fold}
use Rattle.prefix_scan.specs.Cut.{start_of}
use Rattle.prefix_scan.proofs.CutLemmas.{rises_to, start_of-more}
use Rattle.prefix_scan.proofs.chunk_offsets.offsets_tree.Goals as goal

pub peek-requires : goal.peek-requires
peek-requires g c =
    let ends = c.args.cuts.now in
    let at = c.loop-end.end-index in
    let last = length ends - 1 in
    let items = c.ends-ends.ensures.items in
    let same : c.loop-end.start ≡ start_of ends at = c.loop-end.invariant.start ∙ ap (λ (e : List ℕ). start_of e at) items in
    let low : at < length ends = omega (arith, c.loop-end-test.true, ap length items) in
    omega (arith, same, c.requires, rises_to ends at last c.ends-ends.ensures.rising (omega arith) (omega arith))

pub loop-end-preserved : goal.loop-end-preserved
loop-end-preserved g c =
    let m = g.M.Monoid in
    let ends = c.ends-ends.result.now in
    let inv = c.loop-end.invariant in
    let at = c.loop-end.end-index in
    let before = c.loop-end.all.items in
    let here = c.peek.result in
    let values = c.args.tree.now.values in
    let pushed : c.push.new.self.items ≡ before ++ here ∷ [] = c.in_ok-push.ensures.items in
    let is : here ≡ fold m.op m.empty (take (start_of ends at) values) = c.peek.ensures ∙ ap (λ (k : ℕ). fold m.op m.empty (take k values)) inv.start in
    record {
      count = omega (arith, ap length pushed, length-append before (here ∷ []), inv.count);
      start = sym (start_of-more ends at);
      each = λ k d low. ap (λ (l : List g.row.M.Denot). get_or l k d) pushed ∙ below_more (λ j. get_or (before ++ here ∷ []) j d ≡ fold m.op m.empty (take (start_of ends j) values)) at
          (λ j lower. get_or_append_left before (here ∷ []) d j (omega (arith, inv.count, lower)) ∙ inv.each j d lower)
          (ap (λ (j : ℕ). get_or (before ++ here ∷ []) j d) (sym inv.count) ∙ get_or-append_seam before here [] d ∙ is)
          k low;
    }

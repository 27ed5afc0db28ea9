use Rattle.std.proofs.Common.{rules, ◌≡◌, ◌∙◌, ℕ, ◌+◌, ◌<◌, ◌≤◌, ℤ, pos, List, length, length-set, inl, inr, sym, FitsSigned, to_z-of_z, arith}
use Rattle.std.specs.Int.{w64, w128}
use Rattle.std.proofs.lemmas.List.{get_or_past}
use Rattle.units_core.specs.Interpolation.{at}
use Rattle.moment_sums.proofs.Bounds.{set_done}
use Rattle.strength.proofs.Placed.{below_cases}
use Rattle.view_table.proofs.figures.widened.Goals as goal

-- two lists of 16 numbers that are the same up to there are the same at all places
all_same : (xs ys : List ℤ) → length xs ≡ 16 → length ys ≡ 16 → ((k : ℕ) → k < 16 → at xs k ≡ at ys k) → (k : ℕ) → at xs k ≡ at ys k
all_same xs ys long wide same k = elim (below_cases k 16) [
  | inl less ↦ same k less
  | inr past ↦ get_or_past xs k (pos 0) (omega (arith, long, past)) ∙ sym (get_or_past ys k (pos 0) (omega (arith, wide, past)))
]

pub loop-i-preserved : goal.loop-i-preserved
loop-i-preserved c =
    let i = c.loop-i.i in
    let inv = c.loop-i.invariant in
    let size = inv.size in
    let f : FitsSigned w64 (at c.args.loads.now i) = search rules in
    let g : FitsSigned w128 c.from.result = search rules in
    let less : i < length c.loop-i.wide = omega arith in
    record {
      size = simp length-set size;
      done = set_done c.loop-i.wide (at c.args.loads.now) i _ less inv.done (to_z-of_z g ∙ (c.from.ensures ∙ to_z-of_z f));
    }

pub returns : goal.returns
returns c =
    let inv = c.loop-i.invariant in
    let long : length c.args.loads.now ≡ 16 = search rules in
    all_same c.loop-i.wide c.args.loads.now inv.size long (λ k low. inv.done k (omega (arith, low)))

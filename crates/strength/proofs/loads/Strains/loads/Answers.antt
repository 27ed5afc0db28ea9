use Rattle.std.proofs.Common.{rules, arith, ◌≡◌, ◌∙◌, ℕ, ℤ, ◌+◌, List, [], ◌∷◌, ◌++◌, map, sym, FitsSigned, to_z, of_z, to_z-of_z}
use Rattle.std.specs.Int.{w64, w128}
use Rattle.std.specs.List.{range_with_len}
use Rattle.std.proofs.lemmas.List.FromFn.{map-range_with_len_more}
use Rattle.units_core.specs.Interpolation.{at}
use Rattle.strength.specs.Loads.{frame_load}
use Rattle.strength.specs.declared.loads.FrameLoad.{FrameLoad}
use Rattle.strength.proofs.loads.Strains.loads.Goals as goal

-- the loads at one frame more
one_more : (list : List FrameLoad) (shear bending : ℕ → ℤ) (i : ℕ) (x y : ℤ) → x ≡ shear i → y ≡ bending i → list ≡ map (frame_load shear bending) (range_with_len 0 i)
    → list ++ record { shear = x; bending = y } ∷ [] ≡ map (frame_load shear bending) (range_with_len 0 (i + 1))
one_more list shear bending i x y one other done =
    (λ j. done j ++ record { shear = one j; bending = other j } ∷ []) ∙ sym (map-range_with_len_more (frame_load shear bending) 0 i i (omega arith))

-- a number of 64 bits, read back from its bits and then from 128
widened : (x wide : ℤ) → FitsSigned w64 x → FitsSigned w128 wide → wide ≡ to_z w64 (of_z w64 x) → to_z w128 (of_z w128 wide) ≡ x
widened x wide f g e = to_z-of_z g ∙ (e ∙ to_z-of_z f)

pub loop-i-preserved : goal.loop-i-preserved
loop-i-preserved c =
    let i = c.loop-i.i in
    let shear = at c.args.self.now.shear in
    let bending = at c.args.self.now.bending in
    let f : FitsSigned w64 (shear i) = search rules in
    let g : FitsSigned w64 (bending i) = search rules in
    let f2 : FitsSigned w128 c.from.result = search rules in
    let g2 : FitsSigned w128 c.from-in-loop-i.result = search rules in
    let count = c.loop-i.invariant.count in
    let longer = c.push.ensures.len in
    record {
      count = omega (arith, count, longer);
      done = c.push.ensures.items ∙ one_more c.loop-i.list.items shear bending i _ _ (widened (shear i) c.from.result f f2 c.from.ensures) (widened (bending i) c.from-in-loop-i.result g g2 c.from-in-loop-i.ensures) c.loop-i.invariant.done;
    }

use Rattle.std.proofs.Common.{rules, ◌≡◌, ◌∙◌, ℕ, ℤ, pos, ◌+◌, ◌*◌, ◌^◌, ◌≤◌, ◌-ℤ◌, ◌≤ℤ◌, ◌<ℤ◌, unsigned_abs, FitsSigned, to_z-of_z, arith, List}
use Rattle.std.proofs.Math.Nat.{mul-le-mul_left}
use Rattle.std.specs.Int.{w128}
use Rattle.units_core.proofs.Signed.{signed_arith, one_part}
use Rattle.units_core.specs.Interpolation.{at, reading, Encloses, IsWithin, IsPositive, Rises}
use Rattle.units_core.specs.Ratio.{◌over◌}
use Rattle.hydrostat.proofs.waterlines.afloat_at.Goals as goal

-- what an interval of the displacements gives
record Here (xs : List ℤ) (i : ℕ) (kg g : ℤ) : Type 0 where
  pub kg_positive : pos 1 ≤ℤ kg
  pub kg_within : unsigned_abs kg ≤ 10 ^ 9
  pub less : at xs i <ℤ at xs (i + 1)
  pub gap_positive : pos 1 ≤ℤ g
  pub gap_within : unsigned_abs g ≤ 10 ^ 8

here : (xs : List ℤ) (i : ℕ) (kg g : ℤ) → Encloses xs i kg → Rises (10 ^ 8) xs → IsPositive xs → IsWithin (10 ^ 9) xs → g ≡ at xs (i + 1) -ℤ at xs i → Here xs i kg g
here xs i kg g e r p w gap =
    let less = r.rises i e.inside in
    let near = r.gaps i e.inside in
    let low = p i (omega arith) in
    let high = w (i + 1) in
    record {
      kg_positive = omega (arith, signed_arith);
      kg_within = omega (arith, signed_arith, one_part kg, one_part (at xs (i + 1)));
      less = less;
      gap_positive = rw gap (omega (arith, signed_arith));
      gap_within = rw gap (omega (arith, signed_arith, one_part (at xs (i + 1) -ℤ at xs i)));
    }

within : (r g d : ℤ) (m : ℕ) → g ≡ d → unsigned_abs r ≤ m * unsigned_abs d → unsigned_abs g ≤ 10 ^ 8 → unsigned_abs r ≤ m * 10 ^ 8
within r g d m e h k = grind (arith, mul-le-mul_left m (rw e at k))

moment_within : (x kg v w : ℤ) → x ≡ v → kg ≡ w → unsigned_abs v ≤ 10 ^ 6 * unsigned_abs w → unsigned_abs kg ≤ 10 ^ 9 → unsigned_abs x ≤ 10 ^ 15
moment_within x kg v w e f h k = rw e (let k2 : unsigned_abs w ≤ 10 ^ 9 = rw f at k in omega (arith, h, k2))

pub invariant_of-result : goal.invariant_of-result
invariant_of-result c =
    let i = c.args.i in
    let b = c.requires.bounded in
    let sound = c.kg-kgs.ensures.sound in
    let e = c.kg-kgs.ensures.value in
    let k : FitsSigned w128 c.kg-kg.result = search rules in
    let x : FitsSigned w128 c.x.result = search rules in
    let y : FitsSigned w128 c.y.result = search rules in
    let u : FitsSigned w128 c.upright.result = search rules in
    let g : FitsSigned w128 c.gap.result = search rules in
    let r1 : FitsSigned w128 c.read.result = search rules in
    let r2 : FitsSigned w128 c.read-2.result = search rules in
    let r3 : FitsSigned w128 c.read-3.result = search rules in
    let r4 : FitsSigned w128 c.read-4.result = search rules in
    let r5 : FitsSigned w128 c.read-5.result = search rules in
    let l = c.ranges.lbp in
    let inside : Encloses c.kg-kgs.result.now i c.kg-kg.result = rw (e, c.kg-kg.ensures) c.requires.inside in
    let here = here c.kg-kgs.result.now i c.kg-kg.result c.gap.result inside (rw e sound.rises) (rw e sound.kg_positive) (rw e sound.kg_within) c.gap.ensures in
    record {
      kg_positive = simp to_z-of_z here.kg_positive;
      kg_within = simp to_z-of_z here.kg_within;
      x_within = simp to_z-of_z (moment_within c.x.result c.kg-kg.result _ _ c.x.ensures c.kg-kg.ensures b.x here.kg_within);
      y_within = simp to_z-of_z (moment_within c.y.result c.kg-kg.result _ _ c.y.ensures c.kg-kg.ensures b.y here.kg_within);
      upright_within = simp to_z-of_z c.upright.ensures.within;
      gap_positive = simp to_z-of_z here.gap_positive;
      gap_within = simp to_z-of_z here.gap_within;
      draught_within = simp to_z-of_z (within c.read.result c.gap.result _ (10 ^ 5) c.gap.ensures (c.read.ensures.size (10 ^ 5) (rw c.draught.ensures.value sound.draught_within)) here.gap_within);
      kmt_within = simp to_z-of_z (within c.read-2.result c.gap.result _ (10 ^ 6) c.gap.ensures (c.read-2.ensures.size (10 ^ 6) (rw c.kmt.ensures.value sound.kmt_within)) here.gap_within);
      lcb_within = simp to_z-of_z (within c.read-3.result c.gap.result _ (10 ^ 6) c.gap.ensures (c.read-3.ensures.size (10 ^ 6) (rw c.lcb.ensures.value sound.lcb_within)) here.gap_within);
      lcf_within = simp to_z-of_z (within c.read-4.result c.gap.result _ (10 ^ 6) c.gap.ensures (c.read-4.ensures.size (10 ^ 6) (rw c.lcf.ensures.value sound.lcf_within)) here.gap_within);
      mct_positive = simp to_z-of_z (c.read-5.ensures.low (rw c.mct.ensures.value sound.mct_positive));
      mct_within = simp to_z-of_z (within c.read-5.result c.gap.result _ (10 ^ 9) c.gap.ensures (c.read-5.ensures.size (10 ^ 9) (rw c.mct.ensures.value sound.mct_within)) here.gap_within);
      lbp_positive = simp to_z-of_z c.requires.lbp_low;
      lbp_within = simp to_z-of_z c.requires.lbp_high;
    }

-- the reading over the length of the interval
read_is : (xs xs' ys ys' : List ℤ) (i : ℕ) (x x' r g : ℤ) → xs ≡ xs' → ys ≡ ys' → x ≡ x' → r ≡ (reading xs ys i x).top → g ≡ at xs (i + 1) -ℤ at xs i → (r over g) ≡ reading xs' ys' i x'
read_is xs xs' ys ys' i x x' r g e f h p q = (λ j. p j over q j) ∙ (λ j. reading (e j) (f j) i (h j))

pub returns : goal.returns
returns c =
    let i = c.args.i in
    let e = c.kg-kgs.ensures.value in
    let w = c.kg-kg.ensures in
    let k : FitsSigned w128 c.kg-kg.result = search rules in
    let x : FitsSigned w128 c.x.result = search rules in
    let y : FitsSigned w128 c.y.result = search rules in
    let u : FitsSigned w128 c.upright.result = search rules in
    let g : FitsSigned w128 c.gap.result = search rules in
    let r1 : FitsSigned w128 c.read.result = search rules in
    let r2 : FitsSigned w128 c.read-2.result = search rules in
    let r3 : FitsSigned w128 c.read-3.result = search rules in
    let r4 : FitsSigned w128 c.read-4.result = search rules in
    let r5 : FitsSigned w128 c.read-5.result = search rules in
    let l = c.ranges.lbp in
    let q1 = read_is c.kg-kgs.result.now _ c.draught.result.now _ i c.kg-kg.result _ c.read.result c.gap.result e c.draught.ensures.value w (simp to_z-of_z at c.read.ensures.value) c.gap.ensures in
    let q2 = read_is c.kg-kgs.result.now _ c.kmt.result.now _ i c.kg-kg.result _ c.read-2.result c.gap.result e c.kmt.ensures.value w (simp to_z-of_z at c.read-2.ensures.value) c.gap.ensures in
    let q3 = read_is c.kg-kgs.result.now _ c.lcb.result.now _ i c.kg-kg.result _ c.read-3.result c.gap.result e c.lcb.ensures.value w (simp to_z-of_z at c.read-3.ensures.value) c.gap.ensures in
    let q4 = read_is c.kg-kgs.result.now _ c.lcf.result.now _ i c.kg-kg.result _ c.read-4.result c.gap.result e c.lcf.ensures.value w (simp to_z-of_z at c.read-4.ensures.value) c.gap.ensures in
    let q5 = read_is c.kg-kgs.result.now _ c.mct.result.now _ i c.kg-kg.result _ c.read-5.result c.gap.result e c.mct.ensures.value w (simp to_z-of_z at c.read-5.ensures.value) c.gap.ensures in
    record {
      on = λ j. record {
        draught = ((λ n. to_z-of_z r1 n over to_z-of_z g n) ∙ q1) j;
        kmt = ((λ n. to_z-of_z r2 n over to_z-of_z g n) ∙ q2) j;
        lcb = ((λ n. to_z-of_z r3 n over to_z-of_z g n) ∙ q3) j;
        lcf = ((λ n. to_z-of_z r4 n over to_z-of_z g n) ∙ q4) j;
        mct = ((λ n. to_z-of_z r5 n over to_z-of_z g n) ∙ q5) j;
      };
      loaded = λ j. record { kg = (to_z-of_z k ∙ w) j; x = (to_z-of_z x ∙ c.x.ensures) j; y = (to_z-of_z y ∙ c.y.ensures) j; upright = (to_z-of_z u ∙ c.upright.ensures.value) j };
      length = to_z-of_z l;
    }

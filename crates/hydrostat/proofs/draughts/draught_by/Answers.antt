use Rattle.std.proofs.Common.{rules, ℤ, pos, ◌+◌, ◌*◌, ◌^◌, ◌≤◌, ◌+ℤ◌, ◌-ℤ◌, ◌*ℤ◌, ◌≤ℤ◌, unsigned_abs, FitsSigned, to_z-of_z, arith}
use Rattle.std.specs.Int.{w128}
use Rattle.units_core.proofs.Signed.{exact, product_within, sum_within, difference_within, fits_within, product_positive}
use Rattle.hydrostat.specs.declared.particulars.Afloat.{Afloat}
use Rattle.hydrostat.proofs.draughts.draught_by.Goals as goal

record Sizes (l : Afloat) (t x : ℤ) : Type 0 where
  pub gap : FitsSigned w128 l.gap
  pub mean : FitsSigned w128 l.draught
  pub trim : FitsSigned w128 t
  pub mct : FitsSigned w128 l.mct
  pub lcf : FitsSigned w128 l.lcf
  pub lbp : FitsSigned w128 l.lbp
  pub place : FitsSigned w128 x
  pub mean_mct : FitsSigned w128 (l.draught *ℤ l.mct)
  pub level : FitsSigned w128 ((l.draught *ℤ l.mct) *ℤ l.lbp)
  pub x_gap : FitsSigned w128 (x *ℤ l.gap)
  pub arm : FitsSigned w128 (l.lcf -ℤ (x *ℤ l.gap))
  pub turn : FitsSigned w128 (t *ℤ (l.lcf -ℤ (x *ℤ l.gap)))
  pub num : FitsSigned w128 (((l.draught *ℤ l.mct) *ℤ l.lbp) +ℤ (t *ℤ (l.lcf -ℤ (x *ℤ l.gap))))
  pub gap_mct : FitsSigned w128 (l.gap *ℤ l.mct)
  pub den : FitsSigned w128 ((l.gap *ℤ l.mct) *ℤ l.lbp)
  pub positive : pos 1 ≤ℤ ((l.gap *ℤ l.mct) *ℤ l.lbp)
  pub den_size : unsigned_abs ((l.gap *ℤ l.mct) *ℤ l.lbp) ≤ 10 ^ 31
  pub num_size : unsigned_abs (((l.draught *ℤ l.mct) *ℤ l.lbp) +ℤ (t *ℤ (l.lcf -ℤ (x *ℤ l.gap)))) ≤ 10 ^ 38

sizes : (l : Afloat) (t x : ℤ) → unsigned_abs x ≤ 10 ^ 6 → unsigned_abs t ≤ 2 * 10 ^ 23 → Sizes l t x
sizes l t x h k =
    let mean_mct = product_within l.draught l.mct (10 ^ 13) (10 ^ 17) l.draught_within l.mct_within in
    let level = product_within (l.draught *ℤ l.mct) l.lbp (10 ^ 13 * 10 ^ 17) (10 ^ 6) mean_mct l.lbp_within in
    let x_gap = product_within x l.gap (10 ^ 6) (10 ^ 8) h l.gap_within in
    let arm = difference_within l.lcf (x *ℤ l.gap) (10 ^ 14) (10 ^ 6 * 10 ^ 8) l.lcf_within x_gap in
    let turn = product_within t (l.lcf -ℤ (x *ℤ l.gap)) (2 * 10 ^ 23) (10 ^ 14 + 10 ^ 6 * 10 ^ 8) k arm in
    let num = sum_within ((l.draught *ℤ l.mct) *ℤ l.lbp) (t *ℤ (l.lcf -ℤ (x *ℤ l.gap))) (10 ^ 13 * 10 ^ 17 * 10 ^ 6) (2 * 10 ^ 23 * (10 ^ 14 + 10 ^ 6 * 10 ^ 8)) level turn in
    let gap_mct = product_within l.gap l.mct (10 ^ 8) (10 ^ 17) l.gap_within l.mct_within in
    let den = product_within (l.gap *ℤ l.mct) l.lbp (10 ^ 8 * 10 ^ 17) (10 ^ 6) gap_mct l.lbp_within in
    record {
      gap = fits_within _ _ l.gap_within (omega arith);
      mean = fits_within _ _ l.draught_within (omega arith);
      trim = fits_within _ _ k (omega arith);
      mct = fits_within _ _ l.mct_within (omega arith);
      lcf = fits_within _ _ l.lcf_within (omega arith);
      lbp = fits_within _ _ l.lbp_within (omega arith);
      place = fits_within _ _ h (omega arith);
      mean_mct = fits_within _ _ mean_mct (omega arith);
      level = fits_within _ _ level (omega arith);
      x_gap = fits_within _ _ x_gap (omega arith);
      arm = fits_within _ _ arm (omega arith);
      turn = fits_within _ _ turn (omega arith);
      num = fits_within _ _ num (omega arith);
      gap_mct = fits_within _ _ gap_mct (omega arith);
      den = fits_within _ _ den (omega arith);
      positive = product_positive _ _ (product_positive _ _ l.gap_positive l.mct_positive) l.lbp_positive;
      den_size = omega (arith, den);
      num_size = omega (arith, num);
    }

pub overflow_mul-result-2 : goal.overflow_mul-result-2
overflow_mul-result-2 c = let s = sizes c.args.a.now c.args.trim c.args.x c.requires.x c.requires.trim in search (rules, exact)

pub overflow_mul-result-3 : goal.overflow_mul-result-3
overflow_mul-result-3 c = let s = sizes c.args.a.now c.args.trim c.args.x c.requires.x c.requires.trim in search (rules, exact)

pub overflow_sub-result : goal.overflow_sub-result
overflow_sub-result c = let s = sizes c.args.a.now c.args.trim c.args.x c.requires.x c.requires.trim in search (rules, exact)

pub overflow_mul-result-4 : goal.overflow_mul-result-4
overflow_mul-result-4 c = let s = sizes c.args.a.now c.args.trim c.args.x c.requires.x c.requires.trim in search (rules, exact)

pub overflow_add-result : goal.overflow_add-result
overflow_add-result c = let s = sizes c.args.a.now c.args.trim c.args.x c.requires.x c.requires.trim in search (rules, exact)

pub overflow_mul-result-5 : goal.overflow_mul-result-5
overflow_mul-result-5 c = let s = sizes c.args.a.now c.args.trim c.args.x c.requires.x c.requires.trim in search (rules, exact)

pub overflow_mul-result-6 : goal.overflow_mul-result-6
overflow_mul-result-6 c = let s = sizes c.args.a.now c.args.trim c.args.x c.requires.x c.requires.trim in search (rules, exact)

pub invariant_of-result : goal.invariant_of-result
invariant_of-result c =
    let s = sizes c.args.a.now c.args.trim c.args.x c.requires.x c.requires.trim in
    record { positive = simp (to_z-of_z s.gap, to_z-of_z s.mct, to_z-of_z s.lbp, to_z-of_z s.gap_mct, to_z-of_z s.den) s.positive }

pub returns-clause-num : goal.returns-clause-num
returns-clause-num c = let s = sizes c.args.a.now c.args.trim c.args.x c.requires.x c.requires.trim in simp (to_z-of_z s.gap, to_z-of_z s.mean, to_z-of_z s.trim, to_z-of_z s.mct, to_z-of_z s.lcf, to_z-of_z s.lbp, to_z-of_z s.place, to_z-of_z s.mean_mct, to_z-of_z s.level, to_z-of_z s.x_gap, to_z-of_z s.arm, to_z-of_z s.turn, to_z-of_z s.num)

pub returns-clause-den : goal.returns-clause-den
returns-clause-den c = let s = sizes c.args.a.now c.args.trim c.args.x c.requires.x c.requires.trim in simp (to_z-of_z s.gap, to_z-of_z s.mct, to_z-of_z s.lbp, to_z-of_z s.gap_mct, to_z-of_z s.den)

pub returns-clause-size : goal.returns-clause-size
returns-clause-size c = let s = sizes c.args.a.now c.args.trim c.args.x c.requires.x c.requires.trim in simp (to_z-of_z s.gap, to_z-of_z s.mct, to_z-of_z s.lbp, to_z-of_z s.gap_mct, to_z-of_z s.den) s.den_size

pub returns-clause-num_size : goal.returns-clause-num_size
returns-clause-num_size c = let s = sizes c.args.a.now c.args.trim c.args.x c.requires.x c.requires.trim in simp (to_z-of_z s.gap, to_z-of_z s.mean, to_z-of_z s.trim, to_z-of_z s.mct, to_z-of_z s.lcf, to_z-of_z s.lbp, to_z-of_z s.place, to_z-of_z s.mean_mct, to_z-of_z s.level, to_z-of_z s.x_gap, to_z-of_z s.arm, to_z-of_z s.turn, to_z-of_z s.num) s.num_size

-- The sizes of a ship's numbers afloat.
use Rattle.std.proofs.Common.{◌*◌, ◌^◌, ◌≤◌, ◌-ℤ◌, ◌*ℤ◌, ◌≤ℤ◌, pos, unsigned_abs, FitsSigned, arith}
use Rattle.std.specs.Int.{w128}
use Rattle.units_core.proofs.Signed.{product_within, difference_within, fits_within, product_positive}
use Rattle.hydrostat.specs.declared.particulars.Afloat.{Afloat}

pub record Sizes (a : Afloat) : Type 0 where
  pub kg : FitsSigned w128 a.kg
  pub x : FitsSigned w128 a.x
  pub y : FitsSigned w128 a.y
  pub upright : FitsSigned w128 a.upright
  pub gap : FitsSigned w128 a.gap
  pub draught : FitsSigned w128 a.draught
  pub kmt : FitsSigned w128 a.kmt
  pub lcb : FitsSigned w128 a.lcb
  pub lcf : FitsSigned w128 a.lcf
  pub mct : FitsSigned w128 a.mct
  pub lbp : FitsSigned w128 a.lbp
  pub kmt_kg : FitsSigned w128 (a.kmt *ℤ a.kg)
  pub up_gap : FitsSigned w128 (a.upright *ℤ a.gap)
  pub gm : FitsSigned w128 ((a.kmt *ℤ a.kg) -ℤ (a.upright *ℤ a.gap))
  pub gm_size : unsigned_abs ((a.kmt *ℤ a.kg) -ℤ (a.upright *ℤ a.gap)) ≤ 3 * 10 ^ 23
  pub lcb_kg : FitsSigned w128 (a.lcb *ℤ a.kg)
  pub x_gap : FitsSigned w128 (a.x *ℤ a.gap)
  pub trim : FitsSigned w128 ((a.lcb *ℤ a.kg) -ℤ (a.x *ℤ a.gap))
  pub trim_size : unsigned_abs ((a.lcb *ℤ a.kg) -ℤ (a.x *ℤ a.gap)) ≤ 2 * 10 ^ 23
  pub tens : FitsSigned w128 (pos 10000 *ℤ a.y)
  pub list : FitsSigned w128 ((pos 10000 *ℤ a.y) *ℤ a.gap)
  pub list_size : unsigned_abs ((pos 10000 *ℤ a.y) *ℤ a.gap) ≤ 10 ^ 27
  pub gap_kg : FitsSigned w128 (a.gap *ℤ a.kg)
  pub gap_kg_size : unsigned_abs (a.gap *ℤ a.kg) ≤ 10 ^ 17
  pub gap_kg_positive : pos 1 ≤ℤ (a.gap *ℤ a.kg)

pub sizes : (a : Afloat) → Sizes a
sizes a =
    let kmt_kg = product_within a.kmt a.kg (10 ^ 14) (10 ^ 9) a.kmt_within a.kg_within in
    let up_gap = product_within a.upright a.gap (2 * 10 ^ 15) (10 ^ 8) a.upright_within a.gap_within in
    let gm = difference_within (a.kmt *ℤ a.kg) (a.upright *ℤ a.gap) _ _ kmt_kg up_gap in
    let lcb_kg = product_within a.lcb a.kg (10 ^ 14) (10 ^ 9) a.lcb_within a.kg_within in
    let x_gap = product_within a.x a.gap (10 ^ 15) (10 ^ 8) a.x_within a.gap_within in
    let trim = difference_within (a.lcb *ℤ a.kg) (a.x *ℤ a.gap) _ _ lcb_kg x_gap in
    let tens = product_within (pos 10000) a.y 10000 (10 ^ 15) (omega arith) a.y_within in
    let list = product_within (pos 10000 *ℤ a.y) a.gap _ (10 ^ 8) tens a.gap_within in
    let gap_kg = product_within a.gap a.kg (10 ^ 8) (10 ^ 9) a.gap_within a.kg_within in
    record {
      kg = fits_within _ _ a.kg_within (omega arith);
      x = fits_within _ _ a.x_within (omega arith);
      y = fits_within _ _ a.y_within (omega arith);
      upright = fits_within _ _ a.upright_within (omega arith);
      gap = fits_within _ _ a.gap_within (omega arith);
      draught = fits_within _ _ a.draught_within (omega arith);
      kmt = fits_within _ _ a.kmt_within (omega arith);
      lcb = fits_within _ _ a.lcb_within (omega arith);
      lcf = fits_within _ _ a.lcf_within (omega arith);
      mct = fits_within _ _ a.mct_within (omega arith);
      lbp = fits_within _ _ a.lbp_within (omega arith);
      kmt_kg = fits_within _ _ kmt_kg (omega arith);
      up_gap = fits_within _ _ up_gap (omega arith);
      gm = fits_within _ _ gm (omega arith);
      gm_size = omega (arith, gm);
      lcb_kg = fits_within _ _ lcb_kg (omega arith);
      x_gap = fits_within _ _ x_gap (omega arith);
      trim = fits_within _ _ trim (omega arith);
      trim_size = omega (arith, trim);
      tens = fits_within _ _ tens (omega arith);
      list = fits_within _ _ list (omega arith);
      list_size = omega (arith, list);
      gap_kg = fits_within _ _ gap_kg (omega arith);
      gap_kg_size = omega (arith, gap_kg);
      gap_kg_positive = product_positive _ _ a.gap_positive a.kg_positive;
    }

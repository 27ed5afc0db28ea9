-- How a ship is judged with a sum of masses and moments aboard, as it is printed: the exact
-- judgement, its figures rounded.
use Rattle.std.specs.Prelude.{◌≡◌, ℕ, ◌*◌, ℤ, pos, option_map, List, Option, None, Some, Result, Ok}
use Rattle.std.specs.Prelude.{Err, int_lt, if◌then◌else◌}
use Rattle.units_core.specs.Interpolation.{at}
use Rattle.units_core.specs.Ratio.{Ratio, floor_of}
use Rattle.ship_profile.specs.Record.{ProfileRecord}
use Rattle.moment_sums.specs.Sum.{Sum}
use Rattle.hydrostat.specs.Floating.{Hydrostatics, Load, draught_at, gm, list, trim}
use Rattle.hydrostat.specs.declared.outside.Outside.{Outside}
use Rattle.righting.specs.Levers.{AreOrdinates, greatest_of, mm_degrees, simpson}
use Rattle.criteria.specs.Assessment as exact
use Rattle.criteria.specs.Criteria.{Condition}
use Rattle.criteria.specs.declared.criterion.Criterion.{Criterion}
use Rattle.criteria.specs.declared.rounded.RoundedFigures.{RoundedFigures}

-- the list, where the metacentric height is positive
abbrev pub list_down : Hydrostatics → Load → Option ℤ
list_down w l = if int_lt (pos 0) (gm w l).top then Some (floor_of (list w l)) else None

-- the figures, rounded toward minus infinity
pub record Printed : Type 0 where
  pub gm : ℤ
  pub mean : ℤ
  pub aft : ℤ
  pub fwd : ℤ
  pub trim : ℤ
  pub list : Option ℤ
  pub area_30 : ℤ
  pub area_40 : ℤ
  pub area_30_40 : ℤ
  pub lever : Option ℤ
  pub angle : Option ℕ
  pub closing : ℤ
  pub shear : ℕ → ℤ
  pub bending : ℕ → ℤ

-- those of a condition of a ship of this length
abbrev pub printed_of : ℤ → Condition → Printed
printed_of lbp c = record {
  gm = floor_of (gm c.water c.load);
  mean = floor_of c.water.draught;
  aft = floor_of (draught_at c.water c.load lbp (pos 0));
  fwd = floor_of (draught_at c.water c.load lbp lbp);
  trim = floor_of (trim c.water c.load);
  list = list_down c.water c.load;
  area_30 = floor_of (mm_degrees (simpson c.levers 0 3));
  area_40 = floor_of (mm_degrees (simpson c.levers 0 4));
  area_30_40 = floor_of (mm_degrees (simpson c.levers 6 1));
  lever = option_map (λ k. floor_of (c.levers k)) (greatest_of c.levers 6 7);
  angle = option_map (λ k. 5 * k) (greatest_of c.levers 0 13);
  closing = c.closing;
  shear = c.shear;
  bending = c.bending;
}

-- outside of a table, for this cause; or the figures, and the first criterion that doesn't hold, if
-- there is one
pub data Judgement : Type 0 where
  IsOutside : Outside → Judgement
  Fails : Criterion → Printed → Judgement
  Passes : Printed → Judgement

abbrev pub judged : Option Criterion → Printed → Judgement
judged None printed = Passes printed
judged (Some criterion) printed = Fails criterion printed

-- an exact judgement of a ship of this length, its figures rounded
abbrev pub rounded : ℤ → exact.Assessment → Judgement
rounded lbp (exact.IsOutside outside) = IsOutside outside
rounded lbp (exact.Fails criterion c) = Fails criterion (printed_of lbp c)
rounded lbp (exact.Passes c) = Passes (printed_of lbp c)

abbrev pub judgement_of : ProfileRecord → Sum → Judgement
judgement_of p s = rounded p.ship.lbp (exact.assessment_of p s)

-- what the code's figures say
abbrev pub read : RoundedFigures → Printed
read f = record {
  gm = f.gm;
  mean = f.mean;
  aft = f.aft;
  fwd = f.fwd;
  trim = f.trim;
  list = f.list;
  area_30 = f.area_30;
  area_40 = f.area_40;
  area_30_40 = f.area_30_40;
  lever = Some f.lever;
  angle = Some f.angle;
  closing = f.strains.closing;
  shear = λ i. at f.strains.shear i;
  bending = λ i. at f.strains.bending i;
}

-- what was found, with the figures beside it
abbrev pub judgement_by : Result (Option Criterion) Outside → RoundedFigures → Judgement
judgement_by (Err outside) figures = IsOutside outside
judgement_by (Ok criterion) figures = judged criterion (read figures)

-- the answer is this of any ordinates that the numbers ns over d are
abbrev pub IsWhatever : Judgement → List ℤ → ℤ → ((ℕ → Ratio) → Judgement) → Type 0
IsWhatever answer ns d of = (y : ℕ → Ratio) → AreOrdinates ns d y → answer ≡ of y

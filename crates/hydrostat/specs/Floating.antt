-- How a ship floats, as the textbooks have it. Lengths run forward from the after perpendicular, in
-- mm.
use Rattle.std.specs.Prelude.{◌≡◌, ℕ, ◌*◌, ◌^◌, ◌≤◌, ℤ, pos, ◌+ℤ◌, ◌≤ℤ◌, ◌<ℤ◌, Option, None, Some}
use Rattle.std.specs.Prelude.{option_map, unsigned_abs}
use Rattle.units_core.specs.Ratio.{Ratio, ◌over◌, whole, ◌⊕◌, ◌⊖◌, ◌⊗◌, ◌⊘◌, Is}
use Rattle.units_core.specs.declared.fractions.Frac.{Frac}
use Rattle.units_core.specs.Interpolation.{interval, reading}
use Rattle.ship_tables.specs.Record.{HydroTable}
use Rattle.moment_sums.specs.Sum.{Weight, MomentX, MomentY, MomentZ, Surface, Sum}
use Rattle.hydrostat.specs.declared.particulars.Afloat.{Afloat}

-- what the hydrostatic table gives at a displacement: mean draught, height of the transverse
-- metacentre above the keel, centre of buoyancy, centre of flotation, moment to change trim
pub record Hydrostatics : Type 0 where
  pub draught : Ratio
  pub kmt : Ratio
  pub lcb : Ratio
  pub lcf : Ratio
  pub mct : Ratio

abbrev pub hydrostatics_in : HydroTable → ℤ → ℕ → Hydrostatics
hydrostatics_in h w i = record {
  draught = reading h.kg h.draught i w;
  kmt = reading h.kg h.kmt i w;
  lcb = reading h.kg h.lcb i w;
  lcf = reading h.kg h.lcf i w;
  mct = reading h.kg h.mct i w;
}

-- none where the displacement is outside of the table
abbrev pub hydrostatics_at : HydroTable → ℤ → Option Hydrostatics
hydrostatics_at h w = option_map (hydrostatics_in h w) (interval h.kg w)

-- what is aboard, as it bears on how the ship floats: its mass, its moments about the after
-- perpendicular and about the centre line, and that about the keel with the free surfaces
pub record Load : Type 0 where
  pub kg : ℤ
  pub x : ℤ
  pub y : ℤ
  pub upright : ℤ

abbrev pub load_of : Sum → Load
load_of s = record { kg = s Weight; x = s MomentX; y = s MomentY; upright = s MomentZ +ℤ s Surface }

-- the centre of gravity: forward, to starboard, and up, with the free surfaces
abbrev pub lcg : Load → Ratio
lcg l = l.x over l.kg

abbrev pub tcg : Load → Ratio
tcg l = l.y over l.kg

abbrev pub height_of_gravity : Load → Ratio
height_of_gravity l = l.upright over l.kg

-- GM = KMT - KG
abbrev pub gm : Hydrostatics → Load → Ratio
gm w l = w.kmt ⊖ height_of_gravity l

-- trim = W (LCB - LCG) / MCT, by the stern positive
abbrev pub trim : Hydrostatics → Load → Ratio
trim w l = (whole l.kg ⊗ (w.lcb ⊖ lcg l)) ⊘ w.mct

-- draught(x) = mean + trim (LCF - x) / LBP
abbrev pub draught_at : Hydrostatics → Load → ℤ → ℤ → Ratio
draught_at w l lbp x = w.draught ⊕ ((trim w l ⊗ (w.lcf ⊖ whole x)) ⊘ whole lbp)

-- list = 10000 TCG / GM, in ten-thousandths of the tangent
abbrev pub list : Hydrostatics → Load → Ratio
list w l = (whole (pos 10000) ⊗ tcg l) ⊘ gm w l

-- the list, which there is where the metacentric height is positive
abbrev pub IsListOf : Option Frac → Hydrostatics → Load → Type 0
IsListOf None w l = (gm w l).top ≤ℤ pos 0
IsListOf (Some r) w l = (pos 0 <ℤ (gm w l).top) × Is r.num r.den (list w l)
    × (unsigned_abs r.den ≤ 3 * 10 ^ 23)

-- the hydrostatics and the load of the numbers
abbrev pub water : Afloat → Hydrostatics
water a = record {
  draught = a.draught over a.gap;
  kmt = a.kmt over a.gap;
  lcb = a.lcb over a.gap;
  lcf = a.lcf over a.gap;
  mct = a.mct over a.gap;
}

abbrev pub load : Afloat → Load
load a = record { kg = a.kg; x = a.x; y = a.y; upright = a.upright }

-- the numbers are those of a ship with the sum s aboard, with her hydrostatics
pub record IsAfloatIn (a : Afloat) (h : HydroTable) (s : Sum) (lbp : ℤ) (i : ℕ) : Type 0 where
  pub on : water a ≡ hydrostatics_in h (s Weight) i
  pub loaded : load a ≡ load_of s
  pub length : a.lbp ≡ lbp

pub record IsAfloat (a : Afloat) (h : HydroTable) (s : Sum) (lbp : ℤ) : Type 0 where
  pub on : hydrostatics_at h (s Weight) ≡ Some (water a)
  pub loaded : load a ≡ load_of s
  pub length : a.lbp ≡ lbp

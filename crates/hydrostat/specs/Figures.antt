-- The figures of a ship afloat.
use Rattle.std.specs.Prelude.{◌≡◌, ℤ, pos, Option, Some, None, Result, Ok, Err}
use Rattle.units_core.specs.Ratio.{Is}
use Rattle.hydrostat.specs.Floating.{IsListOf, Load, Hydrostatics, draught_at, gm, load, trim}
use Rattle.hydrostat.specs.Floating.{water}
use Rattle.hydrostat.specs.declared.figures.Floating.{Floating}
use Rattle.hydrostat.specs.declared.outside.Outside.{Outside}
use Rattle.hydrostat.specs.declared.outside.Outside.TheVariants.{Hydro}
use Rattle.hydrostat.specs.declared.particulars.Afloat.{Afloat}

-- each is the textbook's ratio
pub record AreFigures (f : Floating) (w : Hydrostatics) (l : Load) (lbp : ℤ) : Type 0 where
  pub is_gm : Is f.gm.num f.gm.den (gm w l)
  pub is_mean : Is f.mean.num f.mean.den w.draught
  pub is_aft : Is f.aft.num f.aft.den (draught_at w l lbp (pos 0))
  pub is_fwd : Is f.fwd.num f.fwd.den (draught_at w l lbp lbp)
  pub is_trim : Is f.trim.num f.trim.den (trim w l)
  pub is_list : IsListOf f.list w l

-- of the numbers of a ship afloat, which are kept for draughts elsewhere
pub record IsFloating (f : Floating) (a : Afloat) : Type 0 where
  pub figures : AreFigures f (water a) (load a) a.lbp
  pub kept : f.afloat ≡ a

-- of what is aboard, with its hydrostatics, where the table has any
pub record IsFloatingOn (f : Floating) (w : Hydrostatics) (l : Load) (lbp : ℤ) : Type 0 where
  pub figures : AreFigures f w l lbp
  pub on : water f.afloat ≡ w
  pub loaded : load f.afloat ≡ l
  pub length : f.afloat.lbp ≡ lbp

abbrev pub IsFloatingOf : Result Floating Outside → Option Hydrostatics → Load → ℤ → Type 0
IsFloatingOf (Ok f) (Some w) l lbp = IsFloatingOn f w l lbp
IsFloatingOf (Ok f) None l lbp = ⊥
IsFloatingOf (Err outside) (Some w) l lbp = ⊥
IsFloatingOf (Err outside) None l lbp = outside ≡ Hydro

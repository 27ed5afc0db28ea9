use Rattle.std.proofs.Common.{◌≡◌, ℕ, ℤ, ◌<◌, ◌≤◌, length, pos}
use Rattle.units_core.specs.Interpolation.{at}
use Rattle.moment_sums.specs.Kept.{values}
use Rattle.strength.specs.Strains.{bending_at, shear_at}
use Rattle.strength.proofs.strains.set_strains.Given as goal

abbrev pub invariant-loop-i : goal.invariant-loop-i
invariant-loop-i l = record {
  shear_size : length l.strains.shear ≡ 16;
  shear_done : (areas : ℕ → ℤ) → ((k : ℕ) → k < length l.profile.ship.stations → at l.walk.areas k ≡ areas k)
      → (j : ℕ) → j < l.i → at l.strains.shear j ≡ shear_at (values l.totals) areas l.profile.ship.stations l.profile.ship.frames j;
  shear_rest : (j : ℕ) → l.i ≤ j → at l.strains.shear j ≡ pos 0;
  bending_size : length l.strains.bending ≡ 16;
  bending_done : (areas : ℕ → ℤ) → ((k : ℕ) → k < length l.profile.ship.stations → at l.walk.areas k ≡ areas k)
      → (j : ℕ) → j < l.i → at l.strains.bending j ≡ bending_at (values l.totals) areas l.profile.ship.stations l.profile.ship.frames j;
  bending_rest : (j : ℕ) → l.i ≤ j → at l.strains.bending j ≡ pos 0;
}

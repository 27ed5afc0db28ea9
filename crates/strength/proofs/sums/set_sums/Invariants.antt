use Rattle.std.proofs.Common.{◌≡◌, ℕ, ◌+◌, ◌*◌, ◌^◌, ◌<◌, ◌≤◌, ◌*ℤ◌, length, unsigned_abs}
use Rattle.units_core.specs.Interpolation.{at}
use Rattle.ship_profile.specs.Sections.{station_weight}
use Rattle.strength.specs.Buoyancy.{tops}
use Rattle.strength.proofs.sums.set_sums.Given as goal

abbrev pub invariant-loop-k : goal.invariant-loop-k
invariant-loop-k l = record {
  areas : l.walk.areas ≡ l.fn.walk.areas;
  volumes_size : length l.walk.volumes ≡ 64;
  moments_size : length l.walk.moments ≡ 64;
  volume : l.volume ≡ tops (λ j. at l.fn.walk.areas j *ℤ (station_weight (at l.profile.ship.stations) j).volume) l.k;
  volume_size : unsigned_abs l.volume ≤ l.k * (2 * 10 ^ 14);
  moment : l.moment ≡ tops (λ j. at l.fn.walk.areas j *ℤ (station_weight (at l.profile.ship.stations) j).moment) l.k;
  moment_size : unsigned_abs l.moment ≤ l.k * (12 * 10 ^ 20);
  volumes_done : (n : ℕ) → n < l.k + 1 → at l.walk.volumes n ≡ tops (λ j. at l.fn.walk.areas j *ℤ (station_weight (at l.profile.ship.stations) j).volume) n;
  volumes_within : (n : ℕ) → n < l.k + 1 → unsigned_abs (tops (λ j. at l.fn.walk.areas j *ℤ (station_weight (at l.profile.ship.stations) j).volume) n) ≤ 2 * 10 ^ 16;
  moments_done : (n : ℕ) → n < l.k + 1 → at l.walk.moments n ≡ tops (λ j. at l.fn.walk.areas j *ℤ (station_weight (at l.profile.ship.stations) j).moment) n;
  moments_within : (n : ℕ) → n < l.k + 1 → unsigned_abs (tops (λ j. at l.fn.walk.areas j *ℤ (station_weight (at l.profile.ship.stations) j).moment) n) ≤ 9 * 10 ^ 22;
}

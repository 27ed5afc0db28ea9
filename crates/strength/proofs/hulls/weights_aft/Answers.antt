use Rattle.std.proofs.Common.{arith, ◌≡◌, ◌≢◌, ℕ, ◌+◌, ◌*◌, ◌^◌, ◌<◌, ◌≤◌, List, length, length-set, set, get_or, get_or-set_other, get_or-set_same, unsigned_abs, below_more, inl, inr}
use Rattle.std.proofs.lemmas.Bool.{cases_eq}
use Rattle.ship_profile.specs.declared.sections.StationWeight.{StationWeight}
use Rattle.units_core.specs.Interpolation.{at}
use Rattle.strength.specs.Hull.{no_weight, weight_aft}
use Rattle.strength.proofs.hulls.weights_aft.Goals as goal

-- what holds of each weight, once one is written of which it holds too
set_each : (ws : List StationWeight) (k : ℕ) (v : StationWeight) (P : StationWeight → Type 0) → k < length ws → ((j : ℕ) → P (get_or ws j no_weight)) → P v → (j : ℕ) → P (get_or (set ws k v) j no_weight)
set_each ws k v P less each one j = elim (cases_eq j k) [
  | inl same ↦ rw (same, get_or-set_same) one
  | inr ne ↦ rw get_or-set_other (each j)
]

-- and the weights up to it
set_next : (ws : List StationWeight) (g : ℕ → StationWeight) (k : ℕ) (v : StationWeight) → k < length ws → ((j : ℕ) → j < k → get_or ws j no_weight ≡ g j) → v ≡ g k → (j : ℕ) → j < k + 1 → get_or (set ws k v) j no_weight ≡ g j
set_next ws g k v less done is = below_more _ _ (λ j low. let ne : j ≢ k = omega arith in rw get_or-set_other (done j low)) (rw get_or-set_same is)

pub loop-i-preserved : goal.loop-i-preserved
loop-i-preserved c =
    let inv = c.loop-i.invariant in
    let size = inv.size in
    let less : c.loop-i.i < length c.loop-i.weights = omega arith in
    record {
      size = simp length-set size;
      done = set_next c.loop-i.weights (λ j. weight_aft (at c.args.stations.now) (get_or c.args.aft.now j 0)) c.loop-i.i _ less inv.done c.weight_aft.ensures.value;
      volumes = set_each c.loop-i.weights c.loop-i.i _ (λ w. unsigned_abs w.volume ≤ 2 * 10 ^ 6) less inv.volumes c.weight_aft.ensures.volume_size;
      moments = set_each c.loop-i.weights c.loop-i.i _ (λ w. unsigned_abs w.moment ≤ 12 * 10 ^ 12) less inv.moments c.weight_aft.ensures.moment_size;
    }

pub returns-clause-within : goal.returns-clause-within
returns-clause-within c = record { volumes = c.loop-i.invariant.volumes; moments = c.loop-i.invariant.moments }

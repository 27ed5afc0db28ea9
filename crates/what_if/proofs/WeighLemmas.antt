-- What another weight of a load costs, by the restows of its container.
use Rattle.std.proofs.Common.{◌≡◌, ℕ, zero, suc, ◌+◌, ◌-◌, ◌*◌, ◌≤◌, List, drop, refl, subst, arith, mul-le-mul_right}
use Rattle.units_core.specs.declared.frames.Frame.{Frame}
use Rattle.lift_sequence.specs.declared.operations.Op.{Op}
use Rattle.lift_sequence.specs.Follow.{loaded_at, moves_in, weighed_at}
use Rattle.lift_sequence.proofs.FollowLemmas.{moves_few}
use Rattle.step_edits.specs.Edits.{place_of}
use Rattle.running_sums.proofs.RenewLemmas.{behind_same, cell_same}
use Rattle.what_if.specs.Sessions.{restows_behind}

pub cost_after : (frames : List Frame) (kg i : ℕ) (ops after : List Op) → after ≡ weighed_at kg i ops → (k now joins : ℕ) → now ≤ joins + (moves_in (loaded_at after i) (drop (i + 1) after) + 1) * (k + 1) → now ≤ joins + (restows_behind ops i + 2) * (k + 1)
cost_after frames kg i ops after is k now joins h =
    let few = moves_few (loaded_at ops i) (drop (i + 1) ops) in
    let same : moves_in (loaded_at after i) (drop (i + 1) after) ≡ moves_in (loaded_at ops i) (drop (i + 1) ops) = λ j. moves_in (cell_same frames kg i ops after is j) (behind_same frames kg i ops after is j) in
    let more : (moves_in (loaded_at ops i) (drop (i + 1) ops) + 1) * (k + 1) ≤ (restows_behind ops i + 2) * (k + 1) = mul-le-mul_right (k + 1) (omega (arith, few)) in
    let at : now ≤ joins + (moves_in (loaded_at ops i) (drop (i + 1) ops) + 1) * (k + 1) = subst (λ m. now ≤ joins + (m + 1) * (k + 1)) same h in
    omega (arith, at, more)

pub place_less : (n : ℕ) → n - 1 ≡ place_of n
place_less zero = refl
place_less (suc i) = omega arith

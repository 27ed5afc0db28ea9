-- The sums over what is aboard are bounded, where no container is of more than 10^9 kg.
use Rattle.std.specs.Prelude.{ℕ, ◌^◌, ◌≤◌, IfSome, List}
use Rattle.std.specs.List.{AllByRecursion}
use Rattle.units_core.specs.declared.cells.Cell.{Cell}
use Rattle.stow_messages.specs.declared.items.Item.{Item}
use Rattle.ship_profile.specs.declared.fills.TankFill.{TankFill}
use Rattle.ship_profile.specs.Record.{ProfileRecord, IsSound}
use Rattle.lift_sequence.specs.declared.operations.Op.{Op}
use Rattle.lift_sequence.specs.Aboard.{Aboard}
use Rattle.lift_sequence.specs.Arrival.{AreLight, on_arrival}
use Rattle.lift_sequence.specs.Bodies.{bodies}
use Rattle.lift_sequence.specs.Sequence.{IsLight}
use Rattle.moment_sums.specs.Bounded.{IsBounded}
use Rattle.moment_sums.specs.Sum.{sum_of}
use Rattle.port_call.specs.Sums.{sum_at}

-- each container aboard is of at most 10^9 kg
abbrev pub IsLightCargo : Aboard → Type 0
IsLightCargo at = (cell : Cell) → IfSome (at.cells cell) (λ k. k.kg ≤ 10 ^ 9)

-- so what is aboard of a ship of a sound profile has bounded sums
abbrev pub AboardIsBounded : Type 0
AboardIsBounded = (ship : ProfileRecord) (at : Aboard) → IsSound ship → IsLightCargo at
    → IsBounded (sum_of ship.ship.frames (bodies ship at))

-- on arrival, and after any number of steps
abbrev pub SequencesAreBounded : Type 0
SequencesAreBounded = (ship : ProfileRecord) (items : List Item) (fills : List TankFill)
    (ops : List Op) (k : ℕ) → IsSound ship → AreLight items → AllByRecursion IsLight ops
    → IsBounded (sum_at ship (on_arrival items fills) ops k)

-- The answers of an arrival and of a sequence: nothing is wrong, or the first item, fill or step
-- that is impossible has this fault. Items, fills and steps are numbered from 1.
use Rattle.std.specs.Prelude.{◌≡◌, ◌⊎◌, ℕ, zero, suc, ◌+◌, ◌<◌, ◌≤◌, List, length, take, slice_get}
use Rattle.std.specs.Prelude.{Option, None, Some}
use Rattle.std.specs.Option.{option_and_then}
use Rattle.stow_messages.specs.declared.items.Item.{Item}
use Rattle.ship_profile.specs.declared.fills.TankFill.{TankFill}
use Rattle.ship_profile.specs.Record.{ProfileRecord}
use Rattle.lift_sequence.specs.declared.faults.SeqCode.{SeqCode}
use Rattle.lift_sequence.specs.declared.faults.SeqCode.TheVariants.{TooManySteps}
use Rattle.lift_sequence.specs.declared.faults.SeqFault.{SeqFault}
use Rattle.lift_sequence.specs.declared.operations.Op.{Op}
use Rattle.lift_sequence.specs.Aboard.{Aboard, after_all, nothing}
use Rattle.lift_sequence.specs.Arrival.{with_items}
use Rattle.lift_sequence.specs.Bodies.{fill_body}
use Rattle.lift_sequence.specs.Legal.{fault_of, over_fault, stand_fault}
use Rattle.lift_sequence.specs.Limits.{most_steps}

-- what is wrong with an item where those before it are in their cells, with a fill of a tank, and
-- with a step after those before it
abbrev pub fault_of_item : ProfileRecord → List Item → Item → Option SeqCode
fault_of_item ship before item = stand_fault ship (with_items nothing before) item.cell

abbrev pub fault_of_fill : ProfileRecord → List TankFill → TankFill → Option SeqCode
fault_of_fill ship before fill = over_fault (fill_body ship fill)

abbrev pub fault_of_step : ProfileRecord → Aboard → List Op → Op → Option SeqCode
fault_of_step ship at before op = fault_of ship (after_all ship at before) op

-- what is wrong with element k, the first being 1, where it is judged with those before it
abbrev pub fault_at_number : {X : Type 0} → (List X → X → Option SeqCode) → List X → ℕ
    → Option SeqCode
fault_at_number judge xs zero = None
fault_at_number judge xs (suc k) = option_and_then (judge (take k xs)) (slice_get xs k)

-- nothing is wrong with any element
abbrev pub AreLegal : {X : Type 0} → (List X → X → Option SeqCode) → List X → Type 0
AreLegal judge xs = (k : ℕ) → fault_at_number judge xs k ≡ None

-- this is wrong with one element, and nothing with those before it
pub record IsFirst {X : Type 0} (judge : List X → X → Option SeqCode) (xs : List X)
    (f : SeqFault) : Type 0 where
  pub code : fault_at_number judge xs f.at ≡ Some f.code
  pub before : (k : ℕ) → k < f.at → fault_at_number judge xs k ≡ None

-- an arrival on which nothing is wrong
pub record IsLegalArrival (ship : ProfileRecord) (items : List Item)
    (fills : List TankFill) : Type 0 where
  pub each_item : AreLegal (fault_of_item ship) items
  pub each_fill : AreLegal (fault_of_fill ship) fills

-- its fault: that of the first item that its cell can't take, or if there is none, that of the
-- first fill that its tank can't hold
abbrev pub IsArrivalFault : ProfileRecord → List Item → List TankFill → SeqFault → Type 0
IsArrivalFault ship items fills f =
    IsFirst (fault_of_item ship) items f
    ⊎ (AreLegal (fault_of_item ship) items × IsFirst (fault_of_fill ship) fills f)

-- a sequence in which nothing is wrong
pub record IsLegalSequence (ship : ProfileRecord) (at : Aboard) (ops : List Op) : Type 0 where
  pub few : length ops ≤ most_steps
  pub steps : AreLegal (fault_of_step ship at) ops

-- its fault: that it has too many steps, or else that of the first step that can't be done
abbrev pub IsSequenceFault : ProfileRecord → Aboard → List Op → SeqFault → Type 0
IsSequenceFault ship at ops f =
    ((most_steps < length ops) × (f ≡ record { code = TooManySteps; at = most_steps + 1 }))
    ⊎ ((length ops ≤ most_steps) × IsFirst (fault_of_step ship at) ops f)

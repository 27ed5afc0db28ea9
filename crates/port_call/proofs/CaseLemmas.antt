-- A case that was made of a ship, her arrival and a list of steps that can be done is ready for a report.
use Rattle.std.proofs.Common.{◌≡◌, ◌∙◌, ◌+ℤ◌, List, length, None, Some, Bool, true, false, nat_lt, ap, sym, take, arith}
use Rattle.std.specs.Prelude.{if◌then◌else◌}
use Rattle.std.proofs.lemmas.Option.{none-some, slice_get_past}
use Rattle.ship_profile.specs.Record.{ProfileRecord}
use Rattle.lift_sequence.specs.declared.faults.SeqCode.TheVariants.{TooManySteps}
use Rattle.lift_sequence.specs.declared.operations.Op.{Op}
use Rattle.lift_sequence.specs.Aboard.{Aboard}
use Rattle.lift_sequence.specs.Arrival.{ArrivalRecord, IsStowed, cargo_on, fault_at}
use Rattle.lift_sequence.specs.Sequence.{AreKept, SequenceRecord, first_fault, sequence_fault}
use Rattle.units_core.specs.Steps.{change}
use Rattle.units_core.specs.Totals.{total}
use Rattle.lift_sequence.proofs.Changes.{add_up}
use Rattle.port_call.proofs.StepBounds.{all_steps}
use Rattle.port_call.specs.Cases.{IsMade, IsReady, case_on}
use Rattle.port_call.specs.Grounds.{HasArrived}

-- none of the steps of a list without a fault has one
none_in : (ship : ProfileRecord) (at : Aboard) (ops : List Op) → sequence_fault ship at ops ≡ None → first_fault ship at 1 ops ≡ None
none_in ship at ops legal = by (nat_lt 120000 (length ops)) legal where
  by : (b : Bool) → (if b then Some (fault_at 120001 TooManySteps) else first_fault ship at 1 ops) ≡ None → first_fault ship at 1 ops ≡ None
  by true h = absurd (none-some (fault_at 120001 TooManySteps) (sym h))
  by false h = h

pub ready : (ship : ProfileRecord) (arrival : ArrivalRecord) (sequence : SequenceRecord) → HasArrived ship arrival → IsMade ship arrival sequence
    → IsStowed arrival → AreKept sequence.ops sequence.steps → IsReady (case_on ship arrival sequence)
ready ship arrival sequence arrived made stowed kept =
    let sums = add_up ship (cargo_on arrival) sequence.ops sequence.steps 1 arrived.of.sound.tables.tables.distinct (none_in ship (cargo_on arrival) sequence.ops made.legal) made.steps in
    record {
      frames = arrived.of.sound.ship.frames.few;
      few = kept.few;
      long = kept.long;
      last = slice_get_past sequence.steps (length sequence.ops) (omega (arith, kept.long));
      arrived = stowed.few;
      adds_up = λ f k. sums f k ∙ ap (λ z. z +ℤ total (change f) (take k sequence.steps)) (sym (arrived.adds_up f));
      bounded = λ k. all_steps ship arrival.items arrival.fills sequence.ops k arrived.of.sound stowed.light kept.light;
    }

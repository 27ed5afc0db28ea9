-- What was read of a ship and of her bay plan, brought together; what refuses the arrival refuses
-- the case.
use Rattle.std.proofs.Common.{◌≡◌, ◌∙◌, ℕ, List, ap, sym}
use Rattle.std.specs.Prelude.{◌≢◌, Result, Ok, Err, IfOk}
use Rattle.units_core.specs.Outcome.{◌>>=◌}
use Rattle.stow_messages.specs.declared.items.Item.{Item}
use Rattle.ship_profile.specs.Record.{ProfileRecord, Texts, texts_of}
use Rattle.lift_sequence.specs.Aboard.{Aboard}
use Rattle.port_call.specs.declared.faults.InputFault.{InputFault}
use Rattle.port_call.specs.declared.faults.InputFault.TheVariants.{NoMemory}
use Rattle.port_call.specs.declared.inputs.Inputs.{Inputs}
use Rattle.port_call.specs.Cases.{case_by}
use Rattle.port_call.specs.Grounds.{GroundRecord, aboard_first}
use Rattle.port_call.specs.Inputs.{arrival_in, case_from, case_of, items_in, items_of, ship_in, ship_of}
use Rattle.port_call.specs.Readings.{IsGroundRead, Reads, arrived_of}
use Rattle.port_call.specs.Refusals.{TellsMemory, run_fault}

-- a plan that is refused
pub plan_refused : (ship : ProfileRecord) (e : InputFault) (texts : Texts) (text : List ℕ) → ship_of texts ≡ Ok ship
    → (e ≢ NoMemory → items_of text ≡ Err e) → TellsMemory (run_fault e) → IsGroundRead (Err e) texts text
plan_refused ship e texts text s refused memory = record {
  ship = tt;
  items = tt;
  fills = tt;
  aboard = tt;
  refused = λ n. (λ j. s j >>= (λ ship. items_of text >>= (λ items. arrival_in ship items)))
      ∙ ap (λ r. r >>= (λ items. arrival_in ship items)) (refused n);
  memory = memory;
}

-- both were read, and what came of them
pub both_read : (ship : ProfileRecord) (items : List Item) (answer : Result GroundRecord InputFault) → Reads aboard_first (arrival_in ship items) answer
    → IfOk answer (λ base. base.ship ≡ ship) → IfOk answer (λ base. base.arrival.items ≡ items) → IfOk answer (λ base. base.arrival.fills ≡ base.ship.fills)
    → (texts : Texts) (text : List ℕ) → ship_of texts ≡ Ok ship → items_of text ≡ Ok items → IsGroundRead answer texts text
both_read ship items (Ok base) reads a b fills texts text s i = record {
  ship = s ∙ ap Ok (sym a);
  items = i ∙ ap Ok (sym b);
  fills = fills;
  aboard = (λ j. arrival_in (a j) (b j)) ∙ reads.read;
  refused = tt;
  memory = tt;
}
both_read ship items (Err e) reads a b fills texts text s i = record {
  ship = tt;
  items = tt;
  fills = tt;
  aboard = tt;
  refused = λ n. (λ j. s j >>= (λ ship. items_of text >>= (λ items. arrival_in ship items)))
      ∙ ap (λ r. r >>= (λ items. arrival_in ship items)) i ∙ reads.refused n;
  memory = reads.memory;
}

fault_or : {A : Type 0} → InputFault → Result A InputFault → InputFault
fault_or other (Ok a) = other
fault_or other (Err e) = e

refused_at_arrival : (inputs : Inputs) (e : InputFault) → arrived_of (texts_of inputs.profile) inputs.baplie.now ≡ Err e → case_of inputs ≡ Err e
unfolding fault_or
refused_at_arrival inputs e h = by (ship_in inputs) (items_in inputs) h where
  of_aboard : (ship : ProfileRecord) (aboard : Result Aboard InputFault) → aboard ≡ Err e
      → aboard >>= (λ arrival. case_from ship arrival inputs) ≡ Err e
  of_aboard ship aboard h = ap (λ r. r >>= (λ arrival. case_from ship arrival inputs)) h

  by : (ship : Result ProfileRecord InputFault) (items : Result (List Item) InputFault) → ship >>= (λ s. items >>= (λ i. arrival_in s i)) ≡ Err e
      → ship >>= (λ s. items >>= (λ i. arrival_in s i >>= (λ a. case_from s a inputs))) ≡ Err e
  by (Err f) items h = ap Err (ap (fault_or e) h)
  by (Ok s) (Err f) h = ap Err (ap (fault_or e) h)
  by (Ok s) (Ok i) h = of_aboard s (arrival_in s i) h

pub refuses_case : (inputs : Inputs) (e : InputFault) → IsGroundRead (Err e) (texts_of inputs.profile) inputs.baplie.now → Reads case_by (case_of inputs) (Err e)
refuses_case inputs e h = record { read = tt; refused = λ n. refused_at_arrival inputs e (h.refused n); memory = h.memory }

-- What the inputs of a run say, each by itself, or its refusal; and the case that they define, or
-- the first refusal in the order in which they are checked.
use Rattle.std.specs.Prelude.{ℕ, List, length, Option, None, Some, option_map, Result, Ok, Err}
use Rattle.units_core.specs.Outcome.{◌>>=◌, unless}
use Rattle.stow_messages.specs.Items.{bay_plan}
use Rattle.stow_messages.specs.Lifts.{movement_instruction}
use Rattle.stow_messages.specs.Steps as steps
use Rattle.stow_messages.specs.declared.items.Item.{Item}
use Rattle.stow_messages.specs.declared.lifts.Lift as lift
use Rattle.stow_messages.specs.declared.step_rows.StepRow.{StepRow}
use Rattle.ship_profile.specs.Record.{ProfileRecord, Texts, texts_of, record_of}
use Rattle.lift_sequence.specs.declared.operations.Op.{Op}
use Rattle.lift_sequence.specs.Aboard.{Aboard}
use Rattle.lift_sequence.specs.Arrival.{arrival_fault, on_arrival}
use Rattle.lift_sequence.specs.Sequence.{ops_of, sequence_fault}
use Rattle.port_call.specs.declared.faults.InputFault.{InputFault}
use Rattle.port_call.specs.declared.faults.InputFault.TheVariants.{Profile, Baplie, Arrival}
use Rattle.port_call.specs.declared.faults.InputFault.TheVariants.{Movins, Steps, Sequence}
use Rattle.port_call.specs.declared.inputs.Inputs.{Inputs}
use Rattle.port_call.specs.Refusals.{refused_as}

-- the profile, the bay plan, and what is aboard on arrival
abbrev pub ship_of : Texts → Result ProfileRecord InputFault
ship_of texts = refused_as Profile (record_of texts)

abbrev pub ship_in : Inputs → Result ProfileRecord InputFault
ship_in inputs = ship_of (texts_of inputs.profile)

abbrev pub items_of : List ℕ → Result (List Item) InputFault
items_of text = refused_as Baplie (bay_plan text)

abbrev pub items_in : Inputs → Result (List Item) InputFault
items_in inputs = items_of inputs.baplie.now

abbrev pub arrival_in : ProfileRecord → List Item → Result Aboard InputFault
arrival_in ship items =
    refused_as Arrival (unless (arrival_fault ship items ship.fills) (on_arrival items ship.fills))

-- the lifts of the movement instruction, and the rows of the steps file, where there is one
abbrev pub lifts_of : List ℕ → Result (List lift.Lift) InputFault
lifts_of text = refused_as Movins (movement_instruction text)

abbrev pub some_rows : Result (List StepRow) InputFault
    → Result (Option (List StepRow)) InputFault
some_rows (Ok rows) = Ok (Some rows)
some_rows (Err e) = Err e

abbrev pub rows_of : Option (List ℕ) → ℕ → Result (Option (List StepRow)) InputFault
rows_of None lifts = Ok None
rows_of (Some text) lifts = some_rows (refused_as Steps (steps.steps_of lifts text))

-- the steps that they order
abbrev pub orders_of : List ℕ → Option (List ℕ) → Result (List Op) InputFault
orders_of moves steps =
    lifts_of moves
    >>= (λ lifts. rows_of steps (length lifts) >>= (λ rows. Ok (ops_of lifts rows)))

abbrev pub orders_in : Inputs → Result (List Op) InputFault
orders_in inputs = orders_of inputs.movins.now (option_map (λ text. text.now) inputs.steps)

-- these steps, where each can be done where it comes
abbrev pub sequence_in : ProfileRecord → Aboard → List Op → Result (List Op) InputFault
sequence_in ship arrival ops = refused_as Sequence (unless (sequence_fault ship arrival ops) ops)

-- a case: a ship, what is aboard of her on arrival, and the steps from there
pub record Case : Type 0 where
  pub ship : ProfileRecord
  pub arrival : Aboard
  pub ops : List Op

-- the case of a ship with this aboard on arrival, and of these steps; of a ship; of the inputs
abbrev pub case_with : ProfileRecord → Aboard → List Op → Result Case InputFault
case_with ship arrival ops =
    sequence_in ship arrival ops
    >>= (λ legal. Ok (record { ship = ship; arrival = arrival; ops = legal }))

abbrev pub case_from : ProfileRecord → Aboard → Inputs → Result Case InputFault
case_from ship arrival inputs = orders_in inputs >>= (λ ops. case_with ship arrival ops)

abbrev pub case_for : ProfileRecord → Inputs → Result Case InputFault
case_for ship inputs =
    items_in inputs
    >>= (λ items. arrival_in ship items >>= (λ arrival. case_from ship arrival inputs))

abbrev pub case_of : Inputs → Result Case InputFault
case_of inputs = ship_in inputs >>= (λ ship. case_for ship inputs)

-- Bookkeeping: what a reader of an input answers, and what several answer beside one another.
use Rattle.std.specs.Prelude.{◌≡◌, ◌≢◌, ℕ, ◌≤◌, Bool, true, false, List, length, Option, None}
use Rattle.std.specs.Prelude.{Some, Vec, IfOk, IfErr, Result, Ok, Err}
use Rattle.std.specs.declared.alloc.Global.{Global}
use Rattle.units_core.specs.Outcome.{◌>>=◌}
use Rattle.stow_messages.specs.declared.items.Item.{Item}
use Rattle.stow_messages.specs.declared.lifts.Lift.{Lift}
use Rattle.ship_profile.specs.Record.{ProfileRecord, Texts}
use Rattle.lift_sequence.specs.declared.operations.Op.{Op}
use Rattle.lift_sequence.specs.Aboard.{Aboard}
use Rattle.port_call.specs.declared.faults.InputFault.{InputFault}
use Rattle.port_call.specs.declared.faults.InputFault.TheVariants.{NoMemory}
use Rattle.port_call.specs.declared.inputs.Inputs.{Inputs}
use Rattle.port_call.specs.Grounds.{GroundRecord, aboard_first}
use Rattle.port_call.specs.Inputs.{arrival_in, case_from, case_of, items_in, items_of, lifts_of}
use Rattle.port_call.specs.Inputs.{orders_of, ship_in, ship_of}
use Rattle.port_call.specs.Refusals.{TellsMemory, run_fault}

-- A reader's answer to what is defined: just that, as what it read shows it; or the refusal that is
-- defined; or out of memory, which may stand for either, and is never inside a refusal.
pub record Reads {A B : Type 0} (shows : A → B) (defined : Result B InputFault)
    (answer : Result A InputFault) : Type 0 where
  pub read : IfOk answer (λ a. defined ≡ Ok (shows a))
  pub refused : IfErr answer (λ e. e ≢ NoMemory → defined ≡ Err e)
  pub memory : IfErr answer (λ e. TellsMemory (run_fault e))

abbrev pub IsShipRead : Result ProfileRecord InputFault → Texts → Type 0
IsShipRead answer texts = Reads (λ ship. ship) (ship_of texts) answer

abbrev pub IsPlanRead : Result (Vec Item Global) InputFault → List ℕ → Type 0
IsPlanRead answer text = Reads (λ (items : Vec Item Global). items.items) (items_of text) answer

pub record AreMovesRead (answer : Result (Vec Lift Global) InputFault)
    (text : List ℕ) : Type 0 where
  pub reads : Reads (λ (lifts : Vec Lift Global). lifts.items) (lifts_of text) answer
  pub few : IfOk answer (λ lifts. length lifts.items ≤ 200000)

-- the steps that the texts of a movement instruction and of a steps file order, where there is one
abbrev pub AreOrdersRead : Result (Vec Op Global) InputFault → List ℕ → Option (List ℕ) → Type 0
AreOrdersRead answer moves steps =
    Reads (λ (ops : Vec Op Global). ops.items) (orders_of moves steps) answer

-- what is aboard on arrival, by the texts of a profile's files and of a bay plan
abbrev pub arrived_of : Texts → List ℕ → Result Aboard InputFault
arrived_of texts plan =
    ship_of texts >>= (λ ship. items_of plan >>= (λ items. arrival_in ship items))

-- the ship with what is aboard of her on arrival, as these texts have it; or the first refusal
pub record IsGroundRead (answer : Result GroundRecord InputFault) (texts : Texts)
    (plan : List ℕ) : Type 0 where
  pub ship : IfOk answer (λ base. ship_of texts ≡ Ok base.ship)
  pub items : IfOk answer (λ base. items_of plan ≡ Ok base.arrival.items)
  pub fills : IfOk answer (λ base. base.arrival.fills ≡ base.ship.fills)
  pub aboard : IfOk answer
      (λ base. arrival_in base.ship base.arrival.items ≡ Ok (aboard_first base))
  pub refused : IfErr answer (λ e. e ≢ NoMemory → arrived_of texts plan ≡ Err e)
  pub memory : IfErr answer (λ e. TellsMemory (run_fault e))

-- The ship of the inputs with what is aboard of her on arrival, where none of the three is refused:
-- what remains of the case, and what is known of them.
pub record AreArrived (inputs : Inputs) (base : GroundRecord) : Type 0 where
  pub rest : case_of inputs ≡ case_from base.ship (aboard_first base) inputs
  pub ship : ship_in inputs ≡ Ok base.ship
  pub items : items_in inputs ≡ Ok base.arrival.items
  pub fills : base.arrival.fills ≡ base.ship.fills

-- a text where there is one
abbrev pub text_if : Bool → List ℕ → Option (List ℕ)
text_if true text = Some text
text_if false text = None

-- the texts of a profile's files, the last where there is one
abbrev pub texts_by : (ship cells hydro levers bonjean tanks gm : List ℕ) → Bool → Texts
texts_by ship cells hydro levers bonjean tanks gm has_gm = record {
  ship = ship;
  tables = record {
    cells = cells;
    hydro = hydro;
    levers = levers;
    bonjean = bonjean;
    tanks = tanks;
    least_gm = text_if has_gm gm;
  };
}

-- a ship with what is aboard of her on arrival, and the steps, that were read of these texts
abbrev pub AreAllRead : (Result GroundRecord InputFault × Result (Vec Op Global) InputFault)
    → Texts → (plan moves : List ℕ) → Option (List ℕ) → Type 0
AreAllRead read texts plan moves steps =
    IsGroundRead read.0 texts plan × AreOrdersRead read.1 moves steps

-- A session: a list of steps that is edited, and the lists that it was before, so that the last
-- edits can be taken back.
use Rattle.std.specs.Prelude.{◌≡◌, ⊤, ℕ, ◌+◌, List, [], ◌∷◌, length, map, drop}
use Rattle.std.specs.Prelude.{Option, None, option_map, Ok}
use Rattle.std.specs.Option.{option_or}
use Rattle.circular_buffer.specs.Buffer.{Buffer}
use Rattle.lift_sequence.specs.declared.operations.Op.{Op}
use Rattle.lift_sequence.specs.Follow.{loaded_at, restows_in}
use Rattle.lift_sequence.specs.Sequence.{SequenceRecord}
use Rattle.moment_sums.specs.Kept.{Kept}
use Rattle.prefix_scan.specs.Counted.{Counted}
use Rattle.port_call.specs.declared.inputs.Inputs.{Inputs}
use Rattle.port_call.specs.Inputs.{items_in, orders_in, ship_in}
use Rattle.step_edits.specs.declared.edits.Edit.{Edit}
use Rattle.step_edits.specs.declared.edits.Edit.TheVariants.{Reweigh, Swap}
use Rattle.step_edits.specs.declared.faults.EditFault.{EditFault}
use Rattle.step_edits.specs.declared.faults.EditFault.TheVariants.{Sequence}
use Rattle.step_edits.specs.Edits.{edited, edit_fault, place_of}
use Rattle.port_call.specs.Grounds.{GroundRecord, list_fault, steps_on}
use Rattle.running_sums.specs.Fours.{CostsUpTo, change_of, fours}

-- Inputs define a base, and a list of steps that can be done from there.
pub record AreTold (inputs : Inputs) (base : GroundRecord) (ops : List Op) : Type 0 where
  pub ship : ship_in inputs ≡ Ok base.ship
  pub items : items_in inputs ≡ Ok base.arrival.items
  pub fills : base.arrival.fills ≡ base.ship.fills
  pub orders : orders_in inputs ≡ Ok ops
  pub legal : list_fault base ops ≡ None

-- Why an edit of a list is refused: its numbers, or that it reweighs what is no load; and then the
-- first step of the edited list that can't be done.
abbrev pub refusal : GroundRecord → List Op → Edit → Option EditFault
refusal base ops edit =
    option_or (edit_fault ops edit) (option_map Sequence (list_fault base (edited ops edit)))

-- a list of steps that can be done from a base, and how many joins were counted while its sums were
-- kept
pub record Summed : Type 0 where
  pub base : GroundRecord
  pub ops : List Op
  pub joins : ℕ

-- what each step of a list changes of the sum of what is aboard
abbrev pub changes_on : GroundRecord → List Op → List Kept
changes_on base ops = map (change_of base.ship.ship.frames) (steps_on base ops)

-- what is kept of a list: the sequence was made from the base, and the sums are of what each four
-- steps change
pub record IsSummed (base : GroundRecord) (sequence : SequenceRecord)
    (sums : Counted Kept) : Type 0 where
  pub legal : list_fault base sequence.ops ≡ None
  pub steps : sequence.steps ≡ steps_on base sequence.ops
  pub changes : sums.values ≡ fours (changes_on base sequence.ops)

-- how often the container that the load at a place brings aboard is restowed behind it
abbrev pub restows_behind : List Op → ℕ → ℕ
restows_behind ops place = restows_in (loaded_at ops place) (drop (place + 1) ops)

-- Another weight of a load takes at most (r + 2) (l + 1) joins, where its container is restowed r
-- times and there are at most 2^l steps, and an exchange of two steps 2 (l + 1); any other edit
-- takes none.
abbrev pub CostsLittle : Edit → List Op → ℕ → ℕ → Type 0
CostsLittle (Reweigh at kg) ops old new =
    CostsUpTo (restows_behind ops (place_of at) + 2) (length ops) old new
CostsLittle (Swap a b) ops old new = CostsUpTo 2 (length ops) old new
CostsLittle edit ops old new = new ≡ old

-- what a session is: besides the list, the earlier ones, newest first
pub record SessionRecord : Type 0 where
  pub base : GroundRecord
  pub ops : List Op
  pub past : List (List Op)
  pub joins : ℕ

-- the earlier lists, by the edits that lead back to them one after another
abbrev pub past_of : List Op → List Edit → List (List Op)
past_of ops [] = []
past_of ops (edit ∷ more) = edited ops edit ∷ past_of (edited ops edit) more

-- each of these edits can be made in its turn
abbrev pub ArePast : GroundRecord → List Op → List Edit → Type 0
ArePast base ops [] = ⊤
ArePast base ops (edit ∷ more) = (refusal base ops edit ≡ None)
    × ArePast base (edited ops edit) more

-- what is kept of the past: room for 64 edits, and edits that lead back
pub record IsPast (base : GroundRecord) (ops : List Op) (past : Buffer Edit) : Type 0 where
  pub room : past.capacity ≡ 64
  pub leads_back : ArePast base ops past.items

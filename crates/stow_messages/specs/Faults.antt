-- A bay plan with its items, a movement instruction with its lifts, and the fault of a text that is
-- none.
use Rattle.std.specs.Prelude.{◌≡◌, ◌⊎◌, ℕ, ◌≤◌, List, ◌∷◌, ◌++◌, length, Option, Some, Result, Ok}
use Rattle.std.specs.Prelude.{Err}
use Rattle.edifact_text.specs.Faults.{IsMessage, IsFault}
use Rattle.edifact_text.specs.Interchange.{Numbered, Opened}
use Rattle.edifact_text.specs.declared.faults.EdiFault.{EdiFault}
use Rattle.edifact_text.specs.declared.faults.Kind.{Kind}
use Rattle.edifact_text.specs.declared.faults.Kind.TheVariants.{Baplie, Movins}
use Rattle.stow_messages.specs.declared.items.Item.{Item}
use Rattle.stow_messages.specs.declared.lifts.Lift.{Lift}
use Rattle.stow_messages.specs.declared.faults.StowFault.{StowFault}
use Rattle.stow_messages.specs.declared.faults.StowCode.TheVariants.{Envelope, TooMany}
use Rattle.stow_messages.specs.Entries.{fault_at, AreEntries}
use Rattle.stow_messages.specs.Groups.{Found, HandledPart, location_of}
use Rattle.stow_messages.specs.Items.{item_in, item_groups}
use Rattle.stow_messages.specs.Lifts.{lift_under, lift_parts}

-- What the items of a text are: the text is a message, no group of it has a fault, and the items
-- are those that the groups give, in their order, at most 30,000.
abbrev pub AreItems : List ℕ → List Item → Type 0
AreItems text items =
    (m : Opened) × IsMessage Baplie text m.mark m.segments
    × AreEntries (item_in m.mark) (item_groups m) items
    × (length items ≤ 30000)

-- What the lifts of a text are: the text is a message, no part of it has a fault under the last
-- handling before it, and the lifts are those that the parts give, in their order, at most 200,000.
abbrev pub AreLifts : List ℕ → List Lift → Type 0
AreLifts text lifts =
    (m : Opened) × IsMessage Movins text m.mark m.segments
    × AreEntries (lift_under m.mark) (lift_parts m) lifts
    × (length lifts ≤ 200000)

-- Behind these entries, what a part gives is refused: it is a fault, or one entry more than a
-- message may have.
abbrev pub IsRefused : {X : Type 0} → ℕ → List X → Numbered → Result (Option X) StowFault
    → StowFault → Type 0
IsRefused {X} most entries location gives f =
    (gives ≡ Err f)
    ⊎ ((entry : X) × (gives ≡ Ok (Some entry)) × (length entries ≡ most)
    × (f ≡ fault_at TooMany location))

-- A part of the message is refused with this fault, and none before it is refused.
pub record IsFirstFault {X P : Type 0} (most : ℕ) (location : P → Numbered)
    (gives : P → Result (Option X) StowFault)
    (parts : List P) (f : StowFault) : Type 0 where
  pub before : List P
  pub part : P
  pub behind : List P
  pub entries : List X
  pub parts_are : parts ≡ before ++ part ∷ behind
  pub given_before : AreEntries gives before entries
  pub few : length entries ≤ most
  pub refused : IsRefused most entries (location part) (gives part) f

-- The text is no message of the kind. The fault has the cause that the interchange has, and no
-- segment.
abbrev pub IsEnvelopeFault : Kind → List ℕ → StowFault → Type 0
IsEnvelopeFault kind text f = (e : EdiFault) × IsFault kind text e
    × (f ≡ record { code = Envelope e; segment = 0 })

abbrev pub IsPlanFault : List ℕ → StowFault → Type 0
IsPlanFault text f =
    IsEnvelopeFault Baplie text f
    ⊎ ((m : Opened) × IsMessage Baplie text m.mark m.segments
    × IsFirstFault 30000 (λ (g : Found). g.location) (item_in m.mark) (item_groups m) f)

abbrev pub IsInstructionFault : List ℕ → StowFault → Type 0
IsInstructionFault text f =
    IsEnvelopeFault Movins text f
    ⊎ ((m : Opened) × IsMessage Movins text m.mark m.segments
    × IsFirstFault 200000 (λ (p : HandledPart). location_of p.part) (lift_under m.mark)
    (lift_parts m) f)

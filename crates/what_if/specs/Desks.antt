-- A desk: lists of steps that were published on one base; and a ticket, which names one of them.
use Rattle.std.specs.Prelude.{ℕ, List, Vec}
use Rattle.std.specs.declared.alloc.Global.{Global}
use Rattle.boxcar.specs.Table.{Shelves, Where, Shows}
use Rattle.lift_sequence.specs.declared.operations.Op.{Op}
use Rattle.port_call.specs.Grounds.{GroundRecord}

pub record DeskRecord : Type 0 where
  pub base : GroundRecord
  pub lists : Shelves

-- a number, and the list at that place of the desk; the place alone determines the list
pub record TicketRecord : Type 0 where
  pub place : ℕ
  pub list : Where (Vec Op Global)

-- a ticket of this desk
abbrev pub IsOf : DeskRecord → TicketRecord → Type 0
IsOf desk ticket = Shows desk.lists ticket.list

-- the list that it names
abbrev pub list_of : TicketRecord → List Op
list_of ticket = ticket.list.value.items

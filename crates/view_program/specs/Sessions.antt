-- What a session on inputs leaves.
use Rattle.std.specs.Prelude.{ℕ, List}
use Rattle.lift_sequence.specs.declared.operations.Op.{Op}
use Rattle.port_call.specs.Grounds.{GroundRecord}
use Rattle.port_call.specs.declared.inputs.Inputs.{Inputs}
use Rattle.what_if.specs.Sessions.{AreTold}
use Rattle.view_sittings.specs.Sessions.{IsLeftBy}

-- a session on inputs, which order the list that it began with: what is left of it
abbrev pub IsLeftOn : Inputs → ℕ → List ℕ → Type 0
IsLeftOn inputs status text =
    (base : GroundRecord) × (from : List Op) × AreTold inputs base from
    × IsLeftBy base from status text

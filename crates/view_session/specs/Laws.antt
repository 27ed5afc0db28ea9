-- What the text of a trail is worth: whoever reads it gets to the same list.
use Rattle.std.specs.Prelude.{◌≡◌, List, [], ◌∷◌, map, None, Ok}
use Rattle.edits_file.specs.declared.forms.EditLine.TheVariants.{Edit as EditOf}
use Rattle.edits_file.specs.Reading.{edits_of}
use Rattle.lift_sequence.specs.declared.operations.Op.{Op}
use Rattle.port_call.specs.Grounds.{GroundRecord}
use Rattle.step_edits.specs.declared.edits.Edit.{Edit}
use Rattle.step_edits.specs.Edits.{edited}
use Rattle.what_if.specs.Sessions.{refusal}
use Rattle.view_session.specs.Trails.{IsTrail, TriedRecord, file_of}

-- none of these edits is refused, one after another, and the last leaves this list
abbrev pub Replays : GroundRecord → List Op → List Edit → List Op → Type 0
Replays base from [] to = from ≡ to
Replays base from (edit ∷ edits) to =
    (refusal base from edit ≡ None) × Replays base (edited from edit) edits to

abbrev pub KeptEditsLead : Type 0
KeptEditsLead = (from : List Op) (tried : TriedRecord) → IsTrail from tried
    → (edits : List Edit) × (edits_of (file_of tried.lines) ≡ Ok (map EditOf edits))
    × Replays tried.session.base from edits tried.session.ops

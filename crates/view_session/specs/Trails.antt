-- The lines whose edits led from one list of steps to another.
use Rattle.std.specs.Prelude.{◌≡◌, ℕ, List, [], ◌∷◌, ◌++◌, Some, None, false, ◌==◌, All}
use Rattle.std.specs.Prelude.{Vec, map}
use Rattle.std.specs.List.{flat_map}
use Rattle.std.specs.declared.alloc.Global.{Global}
use Rattle.edits_file.specs.declared.forms.EditLine.TheVariants.{Edit as EditOf}
use Rattle.edits_file.specs.Forms.{line_in}
use Rattle.lift_sequence.specs.declared.operations.Op.{Op}
use Rattle.port_call.specs.Grounds.{GroundRecord}
use Rattle.step_edits.specs.declared.edits.Edit.{Edit}
use Rattle.step_edits.specs.Edits.{edited}
use Rattle.what_if.specs.Sessions.{SessionRecord, refusal}

-- no end of a line (code 10) is in it
abbrev pub IsOneLine : List ℕ → Type 0
IsOneLine line = All (λ c. (c == 10) ≡ false) line

-- the line orders an edit that can be made of a list, and this is the list behind it
abbrev pub MakesOf : GroundRecord → List Op → List ℕ → List Op → Type 0
MakesOf base from line to = (edit : Edit) × (line_in line ≡ Some (EditOf edit)) × IsOneLine line
    × (refusal base from edit ≡ None) × (edited from edit ≡ to)

-- these lines, one after another
abbrev pub Leads : GroundRecord → List Op → List (List ℕ) → List Op → Type 0
Leads base from [] to = from ≡ to
Leads base from (line ∷ lines) to =
    (next : List Op) × MakesOf base from line next × Leads base next lines to

-- and the last of them were made of these earlier lists, newest first
abbrev pub LedBy : GroundRecord → List Op → List (List ℕ) → List Op → List (List Op) → Type 0
LedBy base from lines to [] = Leads base from lines to
LedBy base from lines to (newest ∷ past) =
    (before : List (List ℕ)) × (last : List ℕ) × (lines ≡ before ++ last ∷ [])
    × MakesOf base newest last to × LedBy base from before newest past

-- the bytes of texts
abbrev pub texts_of : List (Vec ℕ Global) → List (List ℕ)
texts_of lines = map (λ l. l.items) lines

-- the lines, each with LF behind it
abbrev pub file_of : List (List ℕ) → List ℕ
file_of lines = flat_map (λ line. line ++ 10 ∷ []) lines

-- a session with the lines that are kept
pub record TriedRecord : Type 0 where
  pub session : SessionRecord
  pub lines : List (List ℕ)

abbrev pub IsTrail : List Op → TriedRecord → Type 0
IsTrail from t = LedBy t.session.base from t.lines t.session.ops t.session.past

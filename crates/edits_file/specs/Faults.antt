-- An edits file with its orders, or the first line that makes a text none.
use Rattle.std.specs.Prelude.{◌≡◌, ◌⊎◌, ℕ, ◌+◌, List, [], ◌∷◌, ◌++◌, map, length, Some, None}
use Rattle.std.specs.List.{flat_map}
use Rattle.edits_file.specs.declared.files.EditsFault.{EditsFault}
use Rattle.edits_file.specs.declared.files.EditsFault.TheVariants.{Line}
use Rattle.edits_file.specs.declared.forms.EditLine.{EditLine}
use Rattle.edits_file.specs.Forms.{line_in}
use Rattle.edits_file.specs.Words.{lines_in}

-- the text is these lines, each with LF (code 10) behind it; behind the last it may be missing
abbrev pub AreLines : List ℕ → List (List ℕ) → Type 0
AreLines text lines = (text ≡ flat_map (λ line. line ++ 10 ∷ []) lines)
    ⊎ (text ++ 10 ∷ [] ≡ flat_map (λ line. line ++ 10 ∷ []) lines)

-- each line of the text orders its edit, one after another
abbrev pub AreEdits : List ℕ → List EditLine → Type 0
AreEdits text edits = map line_in (lines_in text) ≡ map Some edits

-- a line is of no form, each line before it is of one, and the fault names its number
pub record IsRefusal (text : List ℕ) (f : EditsFault) : Type 0 where
  pub before : List (List ℕ)
  pub line : List ℕ
  pub behind : List (List ℕ)
  pub edits : List EditLine
  pub lines_are : lines_in text ≡ before ++ line ∷ behind
  pub are_edits : map line_in before ≡ map Some edits
  pub no_form : line_in line ≡ None
  pub fault_is : f ≡ Line (length before + 1)

-- What a line of a session orders: an edit or an undo exactly where a line of an edits file does.
use Rattle.std.specs.Prelude.{◌≡◌, ℕ, List, Some, None}
use Rattle.edits_file.specs.declared.forms.EditLine.TheVariants as line
use Rattle.edits_file.specs.Forms.{line_in}
use Rattle.view_session.specs.declared.commands.Command.{Command}
use Rattle.view_session.specs.declared.commands.Command.TheVariants.{Edit, Undo, Other}

abbrev pub IsOrderedBy : List ℕ → Command → Type 0
IsOrderedBy text (Edit edit) = line_in text ≡ Some (line.Edit edit)
IsOrderedBy text Undo = line_in text ≡ Some line.Undo
IsOrderedBy text (Other request) = line_in text ≡ None

-- The code's values, as the definitions see them.
use Rattle.std.specs.Prelude.{List, ◌∷◌, Option, None, Some, option_map}
use Rattle.edifact_text.specs.Interchange.{Numbered}
use Rattle.edifact_text.specs.Views.{numbered_view, left_of}
use Rattle.stow_messages.specs.declared.groups.Group.{Group}
use Rattle.stow_messages.specs.declared.known.Known.{Known}
use Rattle.stow_messages.specs.declared.parts.Part as declared
use Rattle.stow_messages.specs.declared.parts.Part.TheVariants as code
use Rattle.stow_messages.specs.declared.parts.Parts.{Parts}
use Rattle.stow_messages.specs.Groups.{Found, Part, Handled, Located, parts_of}
use Rattle.stow_messages.specs.Kinds.{has_kind}
use Rattle.stow_messages.specs.declared.groups.SegmentKind.TheVariants.{Equipment, Verified, Gross}
use Rattle.std.specs.Option.{option_or}
use Rattle.std.specs.Prelude.{find}

abbrev pub found_view : Group → Found
found_view g = record {
  location = numbered_view g.location;
  equipment = option_map numbered_view g.equipment;
  verified = option_map numbered_view g.verified;
  gross = option_map numbered_view g.gross;
}

abbrev pub part_view : declared.Part → Part
part_view (code.Handled s) = Handled (numbered_view s)
part_view (code.Located g) = Located (found_view g)

-- a group that was begun, with the segments behind it
abbrev pub more_found : Found → List Numbered → Found
more_found f behind = record {
  location = f.location;
  equipment = option_or f.equipment (find (has_kind Equipment) behind);
  verified = option_or f.verified (find (has_kind Verified) behind);
  gross = option_or f.gross (find (has_kind Gross) behind);
}

-- the segments that are left, with the one that was taken ahead
abbrev pub with_ahead : Option Known → List Numbered → List Numbered
with_ahead None segments = segments
with_ahead (Some s) segments = numbered_view s.segment ∷ segments

abbrev pub segments_left : Parts → List Numbered
segments_left parts = with_ahead parts.ahead (left_of parts.left)

-- the parts that are left
abbrev pub parts_left : Parts → List Part
parts_left parts = parts_of parts.handles (segments_left parts)

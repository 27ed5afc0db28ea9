-- How the segments of a message are cut into parts: a location of a cell (LOC+147) begins a group,
-- and in a movement instruction a handling (HAN) is a part by itself. A group runs to the next part
-- or to the end of the message.
use Rattle.std.specs.Prelude.{List, [], ◌∷◌, Option, Some, None, Bool, true, ◌&&◌, ◌||◌}
use Rattle.std.specs.Prelude.{if◌then◌else◌, find}
use Rattle.std.specs.Option.{option_or, is_some}
use Rattle.edifact_text.specs.Interchange.{Numbered}
use Rattle.stow_messages.specs.declared.groups.SegmentKind.TheVariants.{Location, Handling}
use Rattle.stow_messages.specs.declared.groups.SegmentKind.TheVariants.{Equipment, Verified, Gross}
use Rattle.stow_messages.specs.Kinds.{has_kind}

-- What counts of a group: its location, and the first container, verified mass and gross mass
-- behind it.
pub record Found : Type 0 where
  pub location : Numbered
  pub equipment : Option Numbered
  pub verified : Option Numbered
  pub gross : Option Numbered

abbrev pub found_in : Numbered → List Numbered → Found
found_in location behind = record {
  location = location;
  equipment = find (has_kind Equipment) behind;
  verified = find (has_kind Verified) behind;
  gross = find (has_kind Gross) behind;
}

-- the group has a container or a mass
abbrev pub names_a_container : Found → Bool
names_a_container f = is_some f.equipment || (is_some f.verified || is_some f.gross)

-- a part of a message
pub data Part : Type 0 where
  Handled : Numbered → Part
  Located : Found → Part

-- The segment begins a part. Handlings are parts of a movement instruction; in a bay plan they are
-- ignored.
abbrev pub begins : Bool → Numbered → Bool
begins handles s = if has_kind Location s then true else handles && has_kind Handling s

abbrev pub until_part : Bool → List Numbered → List Numbered
until_part handles [] = []
until_part handles (s ∷ more) = if begins handles s then [] else s ∷ until_part handles more

-- the part that a segment begins, with the segments behind it
abbrev pub part_at : Numbered → List Numbered → Part
part_at s behind = if has_kind Location s then Located (found_in s behind) else Handled s

abbrev pub parts_of : Bool → List Numbered → List Part
parts_of handles [] = []
parts_of handles (s ∷ more) =
    if begins handles s then part_at s (until_part handles more) ∷ parts_of handles more
    else parts_of handles more

-- What is found where nothing is behind the location yet, and with one more segment: the first of
-- each kind counts.
abbrev pub found_at : Numbered → Found
found_at location = found_in location []

abbrev pub first_of : (Numbered → Bool) → Option Numbered → Numbered → Option Numbered
first_of is_kind found s = option_or found (if is_kind s then Some s else None)

abbrev pub with_segment : Found → Numbered → Found
with_segment f s = record {
  location = f.location;
  equipment = first_of (has_kind Equipment) f.equipment s;
  verified = first_of (has_kind Verified) f.verified s;
  gross = first_of (has_kind Gross) f.gross s;
}

abbrev pub part_with_segment : Part → Numbered → Part
part_with_segment (Handled handling) s = Handled handling
part_with_segment (Located f) s = Located (with_segment f s)

-- the groups among the parts, in their order
abbrev pub groups_in : List Part → List Found
groups_in [] = []
groups_in (Handled s ∷ more) = groups_in more
groups_in (Located f ∷ more) = f ∷ groups_in more

-- a part, and the last handling before it
pub record HandledPart : Type 0 where
  pub handling : Option Numbered
  pub part : Part

-- the last handling behind a part, where this is the last one before it
abbrev pub handling_behind : Option Numbered → Part → Option Numbered
handling_behind last (Handled s) = Some s
handling_behind last (Located f) = last

-- the parts in their order, where this is the last handling before them
abbrev pub handled_parts : Option Numbered → List Part → List HandledPart
handled_parts last [] = []
handled_parts last (p ∷ more) =
    record { handling = last; part = p } ∷ handled_parts (handling_behind last p) more

-- the segment that begins a part
abbrev pub location_of : Part → Numbered
location_of (Handled s) = s
location_of (Located f) = f.location

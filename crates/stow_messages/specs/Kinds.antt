-- The kind of a segment in a message, by its tag and, for some tags, by its qualifier.
use Rattle.std.specs.Prelude.{ℕ, List, Bool, true, false, if◌then◌else◌, codes}
use Rattle.std.specs.Str.{bytes_eq}
use Rattle.edifact_text.specs.Interchange.{Numbered, component}
use Rattle.stow_messages.specs.declared.groups.SegmentKind.{SegmentKind}
use Rattle.stow_messages.specs.declared.groups.SegmentKind.TheVariants.{Location, Handling}
use Rattle.stow_messages.specs.declared.groups.SegmentKind.TheVariants.{Equipment, Verified, Gross}
use Rattle.stow_messages.specs.declared.groups.SegmentKind.TheVariants.{Other}

-- component j of element i of the segment is this text
abbrev pub has : Numbered → ℕ → ℕ → List ℕ → Bool
has s i j text = bytes_eq (component s.parts i j) text

-- a measurement, by its qualifier
abbrev pub measurement_of : Numbered → SegmentKind
measurement_of s =
    if has s 1 0 (codes "VGM") then Verified else if has s 1 0 (codes "WT") then Gross else Other

abbrev pub kind_of : Numbered → SegmentKind
kind_of s =
    if has s 0 0 (codes "LOC") then (if has s 1 0 (codes "147") then Location else Other)
    else if has s 0 0 (codes "HAN") then Handling
    else if has s 0 0 (codes "EQD") then Equipment
    else if has s 0 0 (codes "MEA") then measurement_of s
    else Other

-- the segment is of this kind
abbrev pub same : SegmentKind → SegmentKind → Bool
same Location Location = true
same Handling Handling = true
same Equipment Equipment = true
same Verified Verified = true
same Gross Gross = true
same Other Other = true
same _ _ = false

abbrev pub has_kind : SegmentKind → Numbered → Bool
has_kind kind s = same kind (kind_of s)

-- The characters with a meaning of their own: the service characters, which an interchange may set,
-- and the blanks.
use Rattle.std.specs.Prelude.{ℕ, Option, Some, None, Bool, false, nat_le, nat_eq, ◌==◌, ◌&&◌, ◌||◌}
use Rattle.std.specs.Prelude.{if◌then◌else◌, not}
use Rattle.edifact_text.specs.declared.service.Service.{Service}

-- Carriage return, line feed, tab and space.
abbrev pub is_blank : ℕ → Bool
is_blank b = b == 13 || b == 10 || b == 9 || b == 32

-- The byte is the release character, where there is one.
abbrev pub is_release : Option ℕ → ℕ → Bool
is_release None byte = false
is_release (Some r) byte = nat_eq byte r

-- The service characters where there is no advice: `:`, `+`, `.`, `?` and `'`.
abbrev pub default_service : Service
default_service =
    record { component = 58; element = 43; mark = 46; release = Some 63; terminator = 39 }

-- A letter, a digit or a blank other than the space.
abbrev pub is_plain : ℕ → Bool
is_plain b = (nat_le 48 b && nat_le b 57) || (nat_le 65 b && nat_le b 90)
    || (nat_le 97 b && nat_le b 122) || b == 13 || b == 10 || b == 9

-- It can't separate.
abbrev pub is_unfit : ℕ → Bool
is_unfit b = is_plain b || b == 32

-- A space says that there is no release character.
abbrev pub release_of : ℕ → Option ℕ
release_of b = if b == 32 then None else Some b

abbrev pub is_bad_release : Service → Option ℕ → Bool
is_bad_release sv None = false
is_bad_release sv (Some r) =
    is_plain r || r == sv.component || r == sv.element || r == sv.terminator

-- A separator, the terminator or the release character can't serve, or two of them are one. The
-- decimal mark may be any byte.
abbrev pub is_bad_service : Service → Bool
is_bad_service sv =
    is_unfit sv.component || is_unfit sv.element || is_unfit sv.terminator
    || sv.component == sv.element || sv.component == sv.terminator || sv.element == sv.terminator
    || is_bad_release sv sv.release

-- The characters can serve.
unfoldable pub serves : Service → Bool
serves sv = not (is_bad_service sv)

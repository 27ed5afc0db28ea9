-- The document of `ship.toml` as TOML (toml.io, version 1.1) and the kit's `toml` define it, and
-- the values at its keys.
use Rattle.std.specs.Prelude.{codes, ℕ, ℤ, pos, neg_ℤ, List, [], ◌∷◌, if◌then◌else◌, nat_le, length}
use Rattle.std.specs.Prelude.{Option, Some, None, Result, Ok}
use Rattle.std.specs.Str.{is_utf8}
use Rattle.toml.specs.Data.{Data, Items, no_items, item, Members, get_member, as_integer, as_str}
use Rattle.toml.specs.Data.{as_array, as_table}
use Rattle.toml.specs.Parse.{parse_document}
use Rattle.ship_tables.specs.declared.faults.File.TheVariants as file
use Rattle.ship_profile.specs.declared.faults.Key.{Key}
use Rattle.ship_profile.specs.declared.faults.Key.TheVariants as key
use Rattle.ship_profile.specs.declared.faults.ProfileFault.{ProfileFault}
use Rattle.ship_profile.specs.declared.faults.ProfileFault.TheVariants.{BadToml, MissingKey, BadKey}
use Rattle.ship_profile.specs.declared.faults.ProfileFault.TheVariants.{OutOfLimits, TooFewRows}
use Rattle.units_core.specs.Outcome.{◌>>=◌, or_fault, demand, within}
use Rattle.ship_profile.specs.Outcome.{one_by_one}

-- a key as it is written
abbrev pub name_of : Key → List ℕ
name_of key.Lbp = codes "lbp_mm"
name_of key.Downflooding = codes "downflooding_deg"
name_of key.DraughtMax = codes "draught_max_mm"
name_of key.TrimMax = codes "trim_max_mm"
name_of key.ListMax = codes "list_max"
name_of key.ClosingMax = codes "closing_max_kg"
name_of key.Stations = codes "stations_mm"
name_of key.Blocks = codes "blocks"
name_of key.Frames = codes "frames"
name_of key.Fills = codes "fills"

-- the document that a text is: one of more than 1,048,576 bytes is none, whatever it says
abbrev pub document_of : List ℕ → Option Members
document_of text =
    if nat_le (length text) 1048576 then (if is_utf8 text then parse_document text else None)
    else None

-- the document, or the fault of a text that is none
abbrev pub document_in : List ℕ → Result Members ProfileFault
document_in text = or_fault BadToml (document_of text)

-- the items of an array
abbrev pub items_in : Items → List Data
items_in no_items = []
items_in (item d ds) = d ∷ items_in ds

-- the number that a value is: of another type, out of limits, in this order
abbrev pub number_of : Key → ℤ → ℤ → Data → Result ℤ ProfileFault
number_of key low high d =
    or_fault (BadKey key) (as_integer d) >>= within (OutOfLimits file.Ship 0) low high

-- the number at a name in a table, where the key is that of the table's array
abbrev pub number_in_table : Key → List ℕ → ℤ → ℤ → Members → Result ℤ ProfileFault
number_in_table key name low high ms =
    or_fault (MissingKey key) (get_member name ms) >>= number_of key low high

-- a length in mm in a table, of at most 10^6 either way
abbrev pub length_in_table : Key → List ℕ → Members → Result ℤ ProfileFault
length_in_table key name ms = number_in_table key name (neg_ℤ (pos 1000000)) (pos 1000000) ms

-- the text at a name in a table
abbrev pub text_in_table : Key → List ℕ → Members → Result (List ℕ) ProfileFault
text_in_table key name ms =
    or_fault (MissingKey key) (get_member name ms) >>= (λ d. or_fault (BadKey key) (as_str d))

-- the table that an element of an array is
abbrev pub table_of : Key → Data → Result Members ProfileFault
table_of key d = or_fault (BadKey key) (as_table d)

-- the number at a key of the document
abbrev pub number_at : Key → ℤ → ℤ → Members → Result ℤ ProfileFault
number_at key low high ms = number_in_table key (name_of key) low high ms

-- The elements that the array of a key has, each read after those before it: no array, too many
-- elements, each element, too few elements, in this order.
abbrev pub elements_of : {A : Type 0} → Key → ℕ → ℕ → (List A → Data → Result A ProfileFault)
    → Data → Result (List A) ProfileFault
elements_of key least most next d =
    or_fault (BadKey key) (as_array d) >>= (λ ds.
    demand (OutOfLimits file.Ship 0) (nat_le (length (items_in ds)) most) (items_in ds) >>= (λ es.
    one_by_one next [] es >>= (λ xs.
    demand (TooFewRows file.Ship) (nat_le least (length xs)) xs)))

abbrev pub elements_at : {A : Type 0} → Key → ℕ → ℕ → (List A → Data → Result A ProfileFault)
    → Members → Result (List A) ProfileFault
elements_at key least most next ms =
    or_fault (MissingKey key) (get_member (name_of key) ms) >>= elements_of key least most next

-- the elements of an array whose key may be missing; a missing one has no elements
abbrev pub optional_of : {A : Type 0} → Key → ℕ → (List A → Data → Result A ProfileFault)
    → Option Data → Result (List A) ProfileFault
optional_of key most next None = Ok []
optional_of key most next (Some d) = elements_of key 0 most next d

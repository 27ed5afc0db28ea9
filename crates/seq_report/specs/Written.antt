-- What is written to a writer whose bytes are known.
use Rattle.std.specs.Prelude.{ℕ, List, Option}
use Rattle.std.specs.Io.KnownBytes.{Appends}

-- what is held grew by a text of which this holds
abbrev pub HasWritten : Option (List ℕ) → Option (List ℕ) → (List ℕ → Type 0) → Type 0
HasWritten old new holds = (text : List ℕ) × holds text × Appends old new text

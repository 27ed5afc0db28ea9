-- What is written to a writer whose bytes are known: nothing, or one text behind another.
use Rattle.std.proofs.Common.{◌≡◌, ℕ, List, [], ◌++◌, Option, sym, subst}
use Rattle.std.proofs.KnownBytes.{Appends-nil, Appends-trans}
use Rattle.std.specs.Io.KnownBytes.{Appends}
use Rattle.seq_report.specs.Written.{HasWritten}

-- what is held stayed as it was
pub nothing : (old new : Option (List ℕ)) (holds : List ℕ → Type 0) → new ≡ old → holds [] → HasWritten old new holds
nothing old new holds same h = ([], h, subst (λ (held : Option (List ℕ)). Appends old held []) (sym same) (Appends-nil old))

-- a text was written behind another
pub behind : (old mid new : Option (List ℕ)) (one : List ℕ → Type 0) (holds : List ℕ → Type 0) (text : List ℕ) → HasWritten old mid one → Appends mid new text
    → ((front : List ℕ) → one front → holds (front ++ text)) → HasWritten old new holds
behind old mid new one holds text w more h = (w.0 ++ text, h w.0 w.1, Appends-trans old mid new w.0 text w.2 more)

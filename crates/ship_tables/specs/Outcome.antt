-- The result of reading a list of fields, or of records, up to the first fault.
use Rattle.std.specs.Prelude.{List, [], ◌∷◌, Result, Ok}
use Rattle.units_core.specs.Outcome.{◌>>=◌}

-- what each of these gives, or the first fault
abbrev pub each : {A B E : Type 0} → (A → Result B E) → List A → Result (List B) E
each f [] = Ok []
each f (x ∷ xs) = f x >>= (λ y. each f xs >>= (λ ys. Ok (y ∷ ys)))

-- each of these added in turn to what came before it, or the first fault
abbrev pub in_turn : {A B E : Type 0} → (B → A → Result B E) → B → List A → Result B E
in_turn add done [] = Ok done
in_turn add done (x ∷ xs) = add done x >>= (λ more. in_turn add more xs)

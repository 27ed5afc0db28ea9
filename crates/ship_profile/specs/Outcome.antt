-- The result of reading the elements of an array, up to the first fault.
use Rattle.std.specs.Prelude.{List, [], ◌∷◌, ◌++◌, Result, Ok}
use Rattle.units_core.specs.Outcome.{◌>>=◌}

-- what each of these stands for after those before it, or the first fault; some are done
abbrev pub one_by_one : {A B E : Type 0} → (List B → A → Result B E) → List B → List A
    → Result (List B) E
one_by_one next done [] = Ok done
one_by_one next done (x ∷ xs) = next done x >>= (λ y. one_by_one next (done ++ y ∷ []) xs)

-- What one thread would answer.
use Rattle.std.specs.Prelude.{ℕ, List, map}
use Rattle.std.specs.List.{range_with_len}

-- the values of the pieces 0, 1, .. below n, in order
abbrev pub one_thread_values : {X : Type 0} → (ℕ → X) → ℕ → List X
one_thread_values value n = map value (range_with_len 0 n)

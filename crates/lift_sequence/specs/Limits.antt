-- How much a port call has at most.
use Rattle.std.specs.Prelude.{ℕ}

-- steps of a sequence
abbrev pub most_steps : ℕ
most_steps = 120000

-- bodies on arrival: 30,000 containers, the fills of 200 tanks and the 200 blocks of the light ship
abbrev pub most_bodies : ℕ
most_bodies = 30400

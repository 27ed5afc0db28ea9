-- Where the numbers from 0 to a length are cut into chunks: each chunk ends before the next begins.
use Rattle.std.specs.Prelude.{◌≡◌, ◌≢◌, ◌⊎◌, ℕ, zero, suc, ◌+◌, ◌*◌, ◌<◌, List, length, slice_index}
use Rattle.std.specs.Prelude.{min}
use Rattle.prefix_scan.specs.declared.divisions.CutFault.{CutFault}
use Rattle.prefix_scan.specs.declared.divisions.CutFault.TheVariants.{Empty, NotRising, WrongEnd}
use Rattle.prefix_scan.specs.declared.divisions.CutFault.TheVariants.{NoMemory}

-- where a chunk begins: the first at 0, each other where the one before it ends
abbrev pub start_of : List ℕ → ℕ → ℕ
start_of ends zero = 0
start_of ends (suc k) = slice_index ends k

-- no chunk is empty
abbrev pub IsRising : List ℕ → Type 0
IsRising ends = (k : ℕ) → k < length ends → start_of ends k < slice_index ends k

-- the ends divide the numbers from 0 to len into chunks
pub record Divides (ends : List ℕ) (len : ℕ) : Type 0 where
  pub some : 0 < length ends
  pub rising : IsRising ends
  pub whole : start_of ends (length ends) ≡ len

-- The first fault of ends that are given, in the order K1 to K3; out of memory (K4) only where they
-- have none.
abbrev pub IsFault : List ℕ → ℕ → CutFault → Type 0
IsFault ends len Empty = (length ends ≡ 0) ⊎ (len ≡ 0)
IsFault ends len NotRising = (0 < length ends) × (0 < len) × (IsRising ends → ⊥)
IsFault ends len WrongEnd = (0 < length ends) × (0 < len) × IsRising ends
    × (start_of ends (length ends) ≢ len)
IsFault ends len NoMemory = Divides ends len × (0 < len)

-- the chunks where all but the last have one length
abbrev pub IsFaultOfEvery : ℕ → ℕ → CutFault → Type 0
IsFaultOfEvery n len Empty = (n ≡ 0) ⊎ (len ≡ 0)
IsFaultOfEvery n len NotRising = ⊥
IsFaultOfEvery n len WrongEnd = ⊥
IsFaultOfEvery n len NoMemory = (0 < n) × (0 < len)

-- every chunk has n numbers but the last, which has what is left
pub record IsEvery (n len : ℕ) (ends : List ℕ) : Type 0 where
  pub divides : Divides ends len
  pub each : (k : ℕ) → k < length ends → slice_index ends k ≡ min ((k + 1) * n) len

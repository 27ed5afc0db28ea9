-- Buoyancy of a hull whose sections' areas are linear between stations, by the place and the area
-- of each station's number. Lengths in mm, areas in cm2.
use Rattle.std.specs.Prelude.{◌≡◌, ℕ, zero, suc, ◌+◌, ℤ, pos, ◌+ℤ◌, ◌-ℤ◌, ◌*ℤ◌, List, [], ◌∷◌}
use Rattle.std.specs.Prelude.{int_lt, drop, if◌then◌else◌}
use Rattle.units_core.specs.Ratio.{Ratio, ◌over◌, whole, ◌⊕◌, ◌⊗◌, ◌⊘◌, floor_of}

-- the volume between the stations k and k + 1: s (a + b) / 2
abbrev pub force_top : (ℕ → ℤ) → (ℕ → ℤ) → ℕ → ℤ
force_top xs ys k = (xs (k + 1) -ℤ xs k) *ℤ (ys k +ℤ ys (k + 1))

abbrev pub volume_of : (ℕ → ℤ) → (ℕ → ℤ) → ℕ → Ratio
volume_of xs ys k = whole (force_top xs ys k) ⊘ whole (pos 2)

-- its moment about f: s (a (2 u + v) + b (u + 2 v)) / 6, with the arms u and v of its ends
abbrev pub moment_top : (ℕ → ℤ) → (ℕ → ℤ) → ℤ → ℕ → ℤ
moment_top xs ys f k =
    let u = f -ℤ xs k in
    let v = f -ℤ xs (k + 1) in
    (xs (k + 1) -ℤ xs k) *ℤ ((ys k *ℤ ((pos 2 *ℤ u) +ℤ v)) +ℤ (ys (k + 1) *ℤ (u +ℤ (pos 2 *ℤ v))))

-- six times its moment about x = 0, from x to z: s (a (2 x + z) + b (2 z + x)); six times that
-- about f is 3 f times twice the volume, less this
abbrev pub arm_top : (ℕ → ℤ) → (ℕ → ℤ) → ℕ → ℤ
arm_top xs ys k =
    (xs (k + 1) -ℤ xs k) *ℤ
    ((ys k *ℤ ((pos 2 *ℤ xs k) +ℤ xs (k + 1))) +ℤ (ys (k
    + 1) *ℤ ((pos 2 *ℤ xs (k + 1)) +ℤ xs k)))

abbrev pub moment_of : (ℕ → ℤ) → (ℕ → ℤ) → ℤ → ℕ → Ratio
moment_of xs ys f k = whole (moment_top xs ys f k) ⊘ whole (pos 6)

-- over the first n
abbrev pub sum_of : (ℕ → Ratio) → ℕ → Ratio
sum_of g zero = whole (pos 0)
sum_of g (suc n) = sum_of g n ⊕ g n

-- of water of 1025 kg/m3, in kg and in kg mm: 1 cm2 mm is 10^-7 m3
abbrev pub force_of : (ℕ → ℤ) → (ℕ → ℤ) → ℕ → Ratio
force_of xs ys n = sum_of (volume_of xs ys) n ⊗ (pos 1025 over pos 10000000)

abbrev pub moment_of_buoyancy : (ℕ → ℤ) → (ℕ → ℤ) → ℤ → ℕ → Ratio
moment_of_buoyancy xs ys f n = sum_of (moment_of xs ys f) n ⊗ (pos 1025 over pos 10000000)

-- whole numbers added up
abbrev pub tops : (ℕ → ℤ) → ℕ → ℤ
tops g zero = pos 0
tops g (suc n) = tops g n +ℤ g n

-- the buoyancy of the first intervals, whichever have this for twice their volume; and its moment
-- about f, where six times their moment about x = 0 is this too
abbrev pub IsBuoyancy : ℤ → ℤ → Type 0
IsBuoyancy kg volume = (xs ys : ℕ → ℤ) (n : ℕ) → volume ≡ tops (force_top xs ys) n
    → kg ≡ floor_of (force_of xs ys n)

abbrev pub IsMoment : ℤ → ℤ → ℤ → ℤ → Type 0
IsMoment moment f volume arm = (xs ys : ℕ → ℤ) (n : ℕ) → volume ≡ tops (force_top xs ys) n
    → arm ≡ tops (arm_top xs ys) n
    → moment ≡ floor_of (moment_of_buoyancy xs ys f n)

-- the intervals that lie wholly aft of f: the stations from the second on that aren't before it
abbrev pub aft_in : List ℤ → ℤ → ℕ → ℕ
aft_in [] f n = n
aft_in (x ∷ xs) f n = if int_lt f x then n else aft_in xs f (suc n)

abbrev pub intervals_aft : List ℤ → ℤ → ℕ
intervals_aft xs f = aft_in (drop 1 xs) f 0

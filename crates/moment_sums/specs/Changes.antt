-- What a body changes of a sum: what it adds where it is put in, and the same with the other sign
-- where it is taken out.
use Rattle.std.specs.Prelude.{◌≡◌, ℕ, ◌≤◌, ℤ, ◌+ℤ◌, neg_ℤ, List, Bool, true, false, length}
use Rattle.std.specs.Prelude.{slice_get, Option, unsigned_abs}
use Rattle.units_core.specs.Bodies.{Mass}
use Rattle.units_core.specs.Interpolation.{at}
use Rattle.units_core.specs.declared.frames.Frame.{Frame}
use Rattle.moment_sums.specs.Sum.{Sum, at_frame, in_option, of_body}

-- a number that is added, or with the other sign
abbrev pub signed : Bool → ℤ → ℤ
signed false z = z
signed true z = neg_ℤ z

-- a body that is put in, or taken out
abbrev pub change_of : Bool → List Frame → Mass → Sum
change_of taken frames b = λ c. signed taken (of_body frames b c)

-- a body that is put in or taken out, if there is one
abbrev pub change_in : Bool → List Frame → Option Mass → Sum
change_in taken frames body = λ c. signed taken (in_option frames body c)

-- sixteen numbers, each with a body's share at its frame, none of which is greater than `most`
pub record AreShared (share : ℤ → Mass → ℤ) (most : ℕ) (taken : Bool) (frames : List Frame)
    (b : Mass) (old new : List ℤ) : Type 0 where
  pub places : length new ≡ 16
  pub each : (i : ℕ) → at new i ≡ at old i +ℤ signed taken (at_frame share (slice_get frames i) b)
  pub small : (i : ℕ) → unsigned_abs (at_frame share (slice_get frames i) b) ≤ most

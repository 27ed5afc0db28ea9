-- The values of a sum, and what a body adds to each.
use Rattle.std.specs.Prelude.{ℕ, ℤ, pos, ◌+ℤ◌, ◌*ℤ◌, neg_ℤ, List, slice_get, Option, Some, None}
use Rattle.std.specs.Option.{option_to_list}
use Rattle.units_core.specs.Bodies.{Mass}
use Rattle.units_core.specs.declared.frames.Frame.{Frame}
use Rattle.units_core.specs.declared.steps.Step.{Step}
use Rattle.units_core.specs.Steps.{change}
use Rattle.units_core.specs.Totals.{total}
use Rattle.moment_sums.specs.Shares.{weight_aft, moment_aft}

-- the mass; its moments about the after perpendicular, the centre line and the keel; the free
-- surface moment; and at each frame, by its number from 0, the mass aft of it and that mass's
-- moment about it
pub data Column : Type 0 where
  Weight : Column
  MomentX : Column
  MomentY : Column
  MomentZ : Column
  Surface : Column
  WeightAft : ℕ → Column
  MomentAft : ℕ → Column

-- a sum is a number for each value
abbrev pub Sum : Type 0
Sum = Column → ℤ

-- at a frame that isn't there a body adds nothing
abbrev pub at_frame : (ℤ → Mass → ℤ) → Option Frame → Mass → ℤ
at_frame share None b = pos 0
at_frame share (Some frame) b = share frame.x b

-- what a body adds to a value
abbrev pub value : List Frame → Column → Mass → ℤ
value frames Weight b = pos b.kg
value frames MomentX b = pos b.kg *ℤ b.place.x
value frames MomentY b = pos b.kg *ℤ b.place.y
value frames MomentZ b = pos b.kg *ℤ b.place.z
value frames Surface b = b.fsm
value frames (WeightAft i) b = at_frame weight_aft (slice_get frames i) b
value frames (MomentAft i) b = at_frame moment_aft (slice_get frames i) b

-- a body as a sum; nothing; two sums as one; a sum taken away
abbrev pub of_body : List Frame → Mass → Sum
of_body frames b = λ c. value frames c b

abbrev pub nothing : Sum
nothing = λ c. pos 0

abbrev pub joined : Sum → Sum → Sum
joined a b = λ c. a c +ℤ b c

abbrev pub negated : Sum → Sum
negated a = λ c. neg_ℤ (a c)

-- what is aboard, added up: each value over all bodies
abbrev pub sum_of : List Frame → List Mass → Sum
sum_of frames bodies = λ c. total (value frames c) bodies

-- a body's values, where there is one; what a step changes of each value: what it puts in, less
-- what it takes out
abbrev pub in_option : List Frame → Option Mass → Sum
in_option frames body = λ c. total (value frames c) (option_to_list body)

abbrev pub changed_by : List Frame → Step → Sum
changed_by frames step = λ c. change (value frames c) step

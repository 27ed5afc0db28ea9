-- What a step changes: what it puts in, and what it takes out.
use Rattle.std.specs.Prelude.{ℕ, ℤ, ◌-ℤ◌, option_map}
use Rattle.std.specs.Option.{option_to_list}
use Rattle.units_core.specs.Bodies.{Mass}
use Rattle.units_core.specs.declared.steps.Step.{Step}
use Rattle.units_core.specs.Totals.{total}

-- what a step changes of a total: what it puts in, less what it takes out
abbrev pub change : (Mass → ℤ) → Step → ℤ
change f step = total f (option_to_list step.put) -ℤ total f (option_to_list step.out)

-- what a step takes out and puts in, of another weight
abbrev pub body_weighed : ℕ → Mass → Mass
body_weighed kg body = record { kg = kg; place = body.place; fsm = body.fsm }

abbrev pub step_weighed : ℕ → Step → Step
step_weighed kg step =
    record {
      out = option_map (body_weighed kg) step.out;
      put = option_map (body_weighed kg) step.put;
    }

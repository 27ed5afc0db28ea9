use Rattle.std.proofs.Common.{◌≡◌, Some, None, refl, sym, ◌∙◌}
use Rattle.edifact_text.specs.Views.{numbered_view}
use Rattle.stow_messages.specs.Weights.{in_six_digits}
use Rattle.stow_messages.proofs.CountedLemmas.{counted}
use Rattle.stow_messages.proofs.groups.kg_at.Goals as goal

pub returns-in-Some-in_six_digits : goal.returns-in-Some-in_six_digits
returns-in-Some-in_six_digits c =
    let h = counted c.args.mark c.in-Some.number (numbered_view c.args.segment.now) c.in-Some.ensures.unit c.in-Some.ensures.number in
    let e : in_six_digits c.in-Some.number ≡ Some c.in-Some-in_six_digits.kg = sym c.in_six_digits.ensures ∙ c.in-Some-in_six_digits.is in
    rw (h, e) refl

pub returns-in-None-in_six_digits : goal.returns-in-None-in_six_digits
returns-in-None-in_six_digits c =
    let h = counted c.args.mark c.in-Some.number (numbered_view c.args.segment.now) c.in-Some.ensures.unit c.in-Some.ensures.number in
    let e : in_six_digits c.in-Some.number ≡ None = sym c.in_six_digits.ensures ∙ c.in-None-in_six_digits.is in
    rw (h, e, c.fault_at.ensures) refl

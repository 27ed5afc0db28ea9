use Rattle.std.proofs.Common.{◌+◌, ◌∙◌, sym, arith}
use Rattle.stow_messages.proofs.StepLemmas.{flag-before, missing-at, missing-none}
use Rattle.stow_messages.proofs.step_files.least_missing.Goals as goal

pub returns-then-not-stands : goal.returns-then-not-stands
returns-then-not-stands c lifts rows are =
    let size = are.size in
    sym (missing-at rows 1 lifts (c.loop-place.place + 1) (omega arith) (omega (arith, size)) (flag-before lifts rows _ are _ c.loop-place.invariant) (sym (are.each c.loop-place.place) ∙ c.if-not-stands.true))

pub returns : goal.returns
returns c lifts rows are =
    let size = are.size in
    sym (missing-none rows 1 lifts (λ j low high. flag-before lifts rows _ are _ c.loop-place.invariant j low (omega (arith, size))))

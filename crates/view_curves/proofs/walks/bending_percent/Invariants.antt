use Rattle.std.proofs.Common.{◌≡◌, drop, fold, pos}
use Rattle.std.specs.Int.{int_max}
use Rattle.units_core.specs.Interpolation.{at}
use Rattle.view_curves.specs.Series.{bending_percents}
use Rattle.view_curves.proofs.walks.bending_percent.Given as goal

abbrev pub invariant-loop-i : goal.invariant-loop-i
invariant-loop-i l = fold int_max (pos 0) (bending_percents (λ j. at l.bending j) 0 l.frames)
    ≡ fold int_max l.most (bending_percents (λ j. at l.bending j) l.i (drop l.i l.frames))

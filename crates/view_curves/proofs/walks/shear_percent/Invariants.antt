use Rattle.std.proofs.Common.{◌≡◌, drop, fold, pos}
use Rattle.std.specs.Int.{int_max}
use Rattle.units_core.specs.Interpolation.{at}
use Rattle.view_curves.specs.Series.{shear_percents}
use Rattle.view_curves.proofs.walks.shear_percent.Given as goal

abbrev pub invariant-loop-i : goal.invariant-loop-i
invariant-loop-i l = fold int_max (pos 0) (shear_percents (λ j. at l.shear j) 0 l.frames)
    ≡ fold int_max l.most (shear_percents (λ j. at l.shear j) l.i (drop l.i l.frames))

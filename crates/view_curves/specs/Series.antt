-- The figures that are drawn of each condition: those of the report's line, and of the loads how
-- much of their limits they use, in percent and rounded up.
use Rattle.std.specs.Prelude.{ℕ, suc, ℤ, pos, int_lt, unsigned_abs, cond, List, [], ◌∷◌, fold}
use Rattle.std.specs.Prelude.{Option, None, Some}
use Rattle.std.specs.Int.{int_max}
use Rattle.std.specs.Ordering.{int_eq}
use Rattle.units_core.specs.Ratio.{◌over◌}
use Rattle.units_core.specs.declared.frames.Frame.{Frame}
use Rattle.fractions.specs.Rounded.{up}
use Rattle.criteria.specs.Judgement.{Judgement, IsOutside, Fails, Passes, Printed}
use Rattle.port_call.specs.Cases.{CaseRecord}
use Rattle.seq_report.specs.Cases.{line_in}
use Rattle.worst_values.specs.Limits.{bending_limit}
use Rattle.view_curves.specs.declared.series.Figure.{Figure}
use Rattle.view_curves.specs.declared.series.Figure.TheVariants as figure
use Rattle.view_curves.specs.declared.series.Plotted.{Plotted}

abbrev pub at_most_999 : ℤ → ℤ
at_most_999 n = cond (int_lt n (pos 999)) n (pos 999)

-- How much of its limit a load uses, in percent, at most 999. Of a limit of 0 no load uses all of
-- it, and any other more than any percentage.
abbrev pub percent_of : ℤ → ℤ → ℤ
percent_of load limit =
    cond (int_lt (pos 0) limit) (at_most_999 (up (pos (unsigned_abs load) over limit) 100))
    (cond (int_eq load (pos 0)) (pos 100) (pos 999))

-- the percentages at the frames, numbered from i, and the greatest of them
abbrev pub shear_percents : (ℕ → ℤ) → ℕ → List Frame → List ℤ
shear_percents shear i [] = []
shear_percents shear i (frame ∷ more) =
    percent_of (shear i) frame.shear_max ∷ shear_percents shear (suc i) more

abbrev pub bending_percents : (ℕ → ℤ) → ℕ → List Frame → List ℤ
bending_percents bending i [] = []
bending_percents bending i (frame ∷ more) =
    percent_of (bending i) (bending_limit frame (bending i)) ∷ bending_percents bending (suc i) more

abbrev pub shear_percent : (ℕ → ℤ) → List Frame → ℤ
shear_percent shear frames = fold int_max (pos 0) (shear_percents shear 0 frames)

abbrev pub bending_percent : (ℕ → ℤ) → List Frame → ℤ
bending_percent bending frames = fold int_max (pos 0) (bending_percents bending 0 frames)

abbrev pub plotted_of : List Frame → Printed → Plotted
plotted_of frames f = record {
  gm = f.gm;
  list = f.list;
  aft = f.aft;
  fwd = f.fwd;
  trim = f.trim;
  shear = shear_percent f.shear frames;
  bending = bending_percent f.bending frames;
}

abbrev pub plotted_by : List Frame → Judgement → Option Plotted
plotted_by frames (IsOutside outside) = None
plotted_by frames (Fails criterion f) = Some (plotted_of frames f)
plotted_by frames (Passes f) = Some (plotted_of frames f)

-- of the report's line k
unfoldable pub plotted_in : CaseRecord → ℕ → Option Plotted
plotted_in case k = plotted_by case.profile.ship.frames (line_in case k).step.judgement

abbrev pub figure_of : Figure → Plotted → Option ℤ
figure_of figure.Gm p = Some p.gm
figure_of figure.List p = p.list
figure_of figure.Aft p = Some p.aft
figure_of figure.Fwd p = Some p.fwd
figure_of figure.Trim p = Some p.trim
figure_of figure.Shear p = Some p.shear
figure_of figure.Bending p = Some p.bending

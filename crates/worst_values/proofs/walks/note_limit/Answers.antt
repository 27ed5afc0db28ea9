use Rattle.std.proofs.Common.{◌≡◌, ◌∙◌, List, sym, ap}
use Rattle.units_core.specs.Interpolation.{at}
use Rattle.units_core.specs.declared.frames.Frame.{Frame}
use Rattle.criteria.specs.Exact.{condition_by}
use Rattle.worst_values.specs.declared.limits.Limit.{Limit}
use Rattle.worst_values.specs.Limits.{bendings, candidates_of, shears}
use Rattle.worst_values.specs.Rows.{row_of}
use Rattle.worst_values.specs.Worst.{joined, worst_of}
use Rattle.worst_values.proofs.walks.note_limit.Goals as goal

pub returns-in-Shear-clause-here : goal.returns-in-Shear-clause-here
returns-in-Shear-clause-here c =
    let old = row_of c.args.rows.now c.args.row in
    let loads = c.args.strains.now in
    λ y are. c.note_shears.ensures.here
    ∙ ap (λ (frames : List Frame). joined old (worst_of (shears (λ i. at loads.shear i) c.args.step frames 0))) (c.as_slice-frames.ensures.value ∙ c.frames.ensures.value)
    ∙ ap (λ (l : Limit). joined old (worst_of (candidates_of c.args.profile.now.ship (condition_by c.args.exact.now y loads) l c.args.step))) (sym c.in-Shear.is ∙ c.limit_at-limit.ensures)

pub returns-in-Bending-clause-here : goal.returns-in-Bending-clause-here
returns-in-Bending-clause-here c =
    let old = row_of c.args.rows.now c.args.row in
    let loads = c.args.strains.now in
    λ y are. c.note_bendings.ensures.here
    ∙ ap (λ (frames : List Frame). joined old (worst_of (bendings (λ i. at loads.bending i) c.args.step frames 0))) (c.as_slice-frames.ensures.value ∙ c.frames.ensures.value)
    ∙ ap (λ (l : Limit). joined old (worst_of (candidates_of c.args.profile.now.ship (condition_by c.args.exact.now y loads) l c.args.step))) (sym c.in-Bending.is ∙ c.limit_at-limit.ensures)

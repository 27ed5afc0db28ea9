use Rattle.std.proofs.Common.{◌∙◌, Result, Some, sym, ap, subst}
use Rattle.hydrostat.specs.declared.outside.Outside.{Outside}
use Rattle.moment_sums.specs.Kept.{values}
use Rattle.criteria.specs.Assessment.{Assessment, assessment_of}
use Rattle.criteria.specs.Criteria.{not_met}
use Rattle.criteria.specs.Exact.{IsExact, condition_by}
use Rattle.criteria.specs.Judgement.{printed_of, rounded}
use Rattle.criteria.specs.declared.exact.Exact.{Exact}
use Rattle.view_curves.specs.declared.series.Plotted.{Plotted}
use Rattle.view_curves.specs.Series.{plotted_by, plotted_of}
use Rattle.view_curves.proofs.SeriesLemmas.{plotted_assessed}
use Rattle.view_curves.proofs.walks.chart_line.Goals as goal

pub round-requires : goal.round-requires
round-requires c =
    let profile = c.args.profile.now in
    let is = subst (λ (r : Result Exact Outside). IsExact r c.note_line.new.strains profile.ship (assessment_of profile (values c.args.sum.now))) c.in-Ok.is c.in_ok-exact.ensures.exact in
    is.1.length ∙ sym c.lbp.ensures.value

pub note-requires-clause-length : goal.note-requires-clause-length
note-requires-clause-length c =
    let profile = c.args.profile.now in
    let is = subst (λ (r : Result Exact Outside). IsExact r c.note_line.new.strains profile.ship (assessment_of profile (values c.args.sum.now))) c.in-Ok.is c.in_ok-exact.ensures.exact in
    is.1.length

pub note-requires-clause-least : goal.note-requires-clause-least
note-requires-clause-least c =
    let profile = c.args.profile.now in
    let is = subst (λ (r : Result Exact Outside). IsExact r c.note_line.new.strains profile.ship (assessment_of profile (values c.args.sum.now))) c.in-Ok.is c.in_ok-exact.ensures.exact in
    is.1.small

pub returns-in_ok-note-in-Ok-clause-plotted : goal.returns-in_ok-note-in-Ok-clause-plotted
returns-in_ok-note-in-Ok-clause-plotted c =
    let profile = c.args.profile.now in
    let ship = profile.ship in
    let is = subst (λ (r : Result Exact Outside). IsExact r c.note_line.new.strains ship (assessment_of profile (values c.args.sum.now))) c.in-Ok.is c.in_ok-exact.ensures.exact in
    let condition = condition_by c.in-Ok.exact is.0 c.note_line.new.strains in
    ap (λ (p : Plotted). Some p) c.plotted_of.ensures
    ∙ (λ i. Some (plotted_of (c.frames.ensures.value i) (c.round.ensures is.0 is.1.measures i)))
    ∙ (λ i. Some (plotted_of ship.frames (printed_of (c.lbp.ensures.value i) condition)))
    ∙ sym (plotted_assessed ship.frames ship.lbp (not_met ship condition) condition)
    ∙ ap (λ (a : Assessment). plotted_by ship.frames (rounded ship.lbp a)) (sym is.1.assessed)

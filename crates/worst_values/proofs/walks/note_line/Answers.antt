use Rattle.std.proofs.Common.{◌∙◌, ◌++◌, [], ◌∷◌, Bool, List, ap, sym}
use Rattle.moment_sums.specs.Kept.{values}
use Rattle.criteria.specs.Criteria.{not_met}
use Rattle.criteria.specs.Exact.{condition_by}
use Rattle.worst_values.specs.Findings.{candidates_by, unmet_by, unmet_with}
use Rattle.worst_values.specs.Rows.{row_of}
use Rattle.worst_values.specs.Worst.{Candidate, joined, worst_of}
use Rattle.worst_values.proofs.GatherLemmas.{assessed_candidates, assessed_unmet}
use Rattle.worst_values.proofs.WorstLemmas.{joined_none, worst_none}
use Rattle.worst_values.proofs.walks.note_line.Goals as goal

pub note_condition-requires-clause-length : goal.note_condition-requires-clause-length
note_condition-requires-clause-length c = c.in-Ok.ensures.1.length

pub note_condition-requires-clause-least : goal.note_condition-requires-clause-least
note_condition-requires-clause-least c = c.in-Ok.ensures.1.small

pub unmet_of-requires-clause-length : goal.unmet_of-requires-clause-length
unmet_of-requires-clause-length c = c.in-Ok.ensures.1.length

pub unmet_of-requires-clause-least : goal.unmet_of-requires-clause-least
unmet_of-requires-clause-least c = c.in-Ok.ensures.1.small

pub returns-in_err-push-in-Ok-clause-rows : goal.returns-in_err-push-in-Ok-clause-rows
returns-in_err-push-in-Ok-clause-rows c =
    let ship = c.args.profile.now.ship in
    let is = c.in-Ok.ensures in
    let condition = condition_by c.in-Ok.exact is.0 c.exact_into.new.strains in
    let old = c.args.found.now.rows in
    let k = c.args.k in
    λ j low. c.note_condition.ensures.each is.0 is.1.measures j low
    ∙ ap (λ (l : List Candidate). joined (row_of old j) (worst_of l)) (sym (assessed_candidates ship j k (not_met ship condition) condition) ∙ ap (candidates_by ship j k) (sym is.1.assessed))

pub returns-in_ok-push-in-Ok-clause-rows : goal.returns-in_ok-push-in-Ok-clause-rows
returns-in_ok-push-in-Ok-clause-rows c =
    let ship = c.args.profile.now.ship in
    let is = c.in-Ok.ensures in
    let condition = condition_by c.in-Ok.exact is.0 c.exact_into.new.strains in
    let old = c.args.found.now.rows in
    let k = c.args.k in
    λ j low. c.note_condition.ensures.each is.0 is.1.measures j low
    ∙ ap (λ (l : List Candidate). joined (row_of old j) (worst_of l)) (sym (assessed_candidates ship j k (not_met ship condition) condition) ∙ ap (candidates_by ship j k) (sym is.1.assessed))

pub returns-in_ok-push-in-Ok-clause-unmet : goal.returns-in_ok-push-in-Ok-clause-unmet
returns-in_ok-push-in-Ok-clause-unmet c =
    let ship = c.args.profile.now.ship in
    let is = c.in-Ok.ensures in
    let condition = condition_by c.in-Ok.exact is.0 c.exact_into.new.strains in
    let same = c.unmet_of.ensures is.0 is.1.measures ∙ sym (assessed_unmet ship (not_met ship condition) condition) ∙ ap (unmet_by ship) (sym is.1.assessed) in
    c.in_ok-push-in-Ok.ensures ∙ ap (λ (u : List Bool). c.args.found.now.unmet ++ u ∷ []) same

pub returns-in_err-push-in-Err-clause-rows : goal.returns-in_err-push-in-Err-clause-rows
returns-in_err-push-in-Err-clause-rows c =
    let ship = c.args.profile.now.ship in
    let old = c.args.found.now.rows in
    λ j low. sym (ap (λ (l : List Candidate). joined (row_of old j) (worst_of l)) (ap (candidates_by ship j c.args.k) c.in-Err.ensures)
    ∙ ap (joined (row_of old j)) worst_none ∙ joined_none (row_of old j))

pub returns-in_ok-push-in-Err-clause-rows : goal.returns-in_ok-push-in-Err-clause-rows
returns-in_ok-push-in-Err-clause-rows c =
    let ship = c.args.profile.now.ship in
    let old = c.args.found.now.rows in
    λ j low. sym (ap (λ (l : List Candidate). joined (row_of old j) (worst_of l)) (ap (candidates_by ship j c.args.k) c.in-Err.ensures)
    ∙ ap (joined (row_of old j)) worst_none ∙ joined_none (row_of old j))

pub returns-in_ok-push-in-Err-clause-unmet : goal.returns-in_ok-push-in-Err-clause-unmet
returns-in_ok-push-in-Err-clause-unmet c =
    let ship = c.args.profile.now.ship in
    let same = c.unmet_outside.ensures ∙ ap (unmet_by ship) (sym c.in-Err.ensures) in
    c.in_ok-push-in-Err.ensures ∙ ap (λ (u : List Bool). c.args.found.now.unmet ++ u ∷ []) same

use Rattle.std.proofs.Common.{subst}
use Rattle.port_call.specs.Cases.{CaseRecord, IsReady, case_on}
use Rattle.seq_report.proofs.LawLemmas.{offsets_are_sums, sums_are_folds}
use Rattle.seq_report.proofs.laws.sums_are_folds.Goals as goal

pub returns-clause-folds : goal.returns-clause-folds
returns-clause-folds c =
    sums_are_folds (case_on c.args.profile.now c.args.arrival.now c.args.sequence.now) (subst IsReady c.new.ensures c.new.result.ready)

pub returns-clause-chunks : goal.returns-clause-chunks
returns-clause-chunks c =
    offsets_are_sums (case_on c.args.profile.now c.args.arrival.now c.args.sequence.now) (subst IsReady c.new.ensures c.new.result.ready)

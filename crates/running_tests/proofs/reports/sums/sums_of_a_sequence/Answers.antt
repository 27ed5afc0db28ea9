use Rattle.std.proofs.Common.{◌≡◌, slice_get, ap, arith}
use Rattle.moment_sums.specs.Kept.{size_of}
use Rattle.running_sums.proofs.SumLemmas.{few_bodies}
use Rattle.running_tests.proofs.reports.sums.sums_of_a_sequence.Goals as goal

pub pass_line-requires-clause-room : goal.pass_line-requires-clause-room
pass_line-requires-clause-room g c =
    let none : size_of c.unit-change.result ≡ 0 = ap size_of c.unit-change.ensures in
    omega (arith, none, few_bodies (slice_get c.case-case.result.sequence.now.steps 0))

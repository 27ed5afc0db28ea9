use Rattle.std.proofs.Common.{List}
use Rattle.lift_sequence.specs.declared.operations.Op.{Op}
use Rattle.port_call.specs.Grounds.{GroundRecord}
use Rattle.seq_report.specs.Written.{HasWritten}
use Rattle.view_sittings.specs.Sessions.{IsFrom}
use Rattle.view_sittings.proofs.sessions.sit.Given as goal

abbrev pub invariant-loop : goal.invariant-loop
invariant-loop g l = record {
  from : (base : GroundRecord) (from : List Op) → IsFrom base from l.initial.now → IsFrom base from l.now;
  written : HasWritten (g.O.Write.contents l.initial.out) (g.O.Write.contents l.out) (λ _. Unit {0});
}

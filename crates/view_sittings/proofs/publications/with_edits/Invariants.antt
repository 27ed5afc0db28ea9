use Rattle.std.proofs.Common.{◌≡◌, List}
use Rattle.lift_sequence.specs.declared.operations.Op.{Op}
use Rattle.view_session.specs.Trails.{IsTrail}
use Rattle.view_sittings.proofs.publications.with_edits.Given as goal

abbrev pub invariant-loop-number : goal.invariant-loop-number
invariant-loop-number l = record {
  base : l.now.session.base ≡ l.initial.now.session.base;
  trail : (from : List Op) → IsTrail from l.initial.now → IsTrail from l.now;
}

use Rattle.std.proofs.Common.{◌≡◌, refl, arith}
use Rattle.edifact_text.proofs.FarLemmas.{other_of, up_to_near}
use Rattle.edifact_text.proofs.pieces.near_length.Goals as goal
use Rattle.edifact_text.proofs.pieces.near_length.Goals.{in-Some, in-None}

pub returns-then-at-lt32-clause-quiet : goal.returns-then-at-lt32-clause-quiet
returns-then-at-lt32-clause-quiet c =
    let other : c.match-release.other ≡ other_of c.args.release c.args.separator = elim c.match-release.branch [
      | in-Some w ↦ rw (w.in-Some.is, w.other-is) refl
      | in-None w ↦ rw (w.in-None.is, w.other-is) refl
    ] in
    up_to_near c.args.release c.args.separator c.match-release.other c.min-at.result c.args.bytes.now other c.if-bytes-lt32.false (omega (arith, c.if-at-lt32.true))
    (omega (arith, c.min-at.ensures, c.place_in_vector.ensures)) (omega (arith, c.min-at.ensures, c.place_in_vector-2.ensures))

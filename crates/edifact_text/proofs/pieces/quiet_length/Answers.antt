use Rattle.std.proofs.Common.{◌≡◌, refl}
use Rattle.edifact_text.proofs.FarLemmas.{other_of, up_to_first, up_to_end}
use Rattle.edifact_text.proofs.pieces.quiet_length.Goals as goal
use Rattle.edifact_text.proofs.pieces.quiet_length.Goals.{in-Some, in-None}

pub returns-in-Some-memchr2-clause-quiet : goal.returns-in-Some-memchr2-clause-quiet
returns-in-Some-memchr2-clause-quiet c =
    let other : c.match-release.other ≡ other_of c.args.release c.args.separator = elim c.match-release.branch [
      | in-Some w ↦ rw (w.in-Some.is, w.other-is) refl
      | in-None w ↦ rw (w.in-None.is, w.other-is) refl
    ] in
    up_to_first c.args.release c.args.separator c.match-release.other _ c.args.bytes.now c.memchr2.result other c.in-Some-memchr2.is c.memchr2.ensures

pub returns-in-None-memchr2-clause-quiet : goal.returns-in-None-memchr2-clause-quiet
returns-in-None-memchr2-clause-quiet c =
    let other : c.match-release.other ≡ other_of c.args.release c.args.separator = elim c.match-release.branch [
      | in-Some w ↦ rw (w.in-Some.is, w.other-is) refl
      | in-None w ↦ rw (w.in-None.is, w.other-is) refl
    ] in
    up_to_end c.args.release c.args.separator c.match-release.other c.args.bytes.now c.memchr2.result other c.in-None-memchr2.is c.memchr2.ensures

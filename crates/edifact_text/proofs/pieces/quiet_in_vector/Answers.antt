use Rattle.std.proofs.Common.{◌≡◌, ◌≤◌, ◌==◌, take, refl, arith, not}
use Rattle.std.proofs.lemmas.List.{length-take-le}
use Rattle.std.proofs.lemmas.List.Sums.{prefix_len-le-length}
use Rattle.edifact_text.proofs.FarLemmas.{other_of, up_to_near}
use Rattle.edifact_text.proofs.pieces.quiet_in_vector.Goals as goal
use Rattle.edifact_text.proofs.pieces.quiet_in_vector.Goals.{in-Some, in-None}

pub returns-clause-within : goal.returns-clause-within
returns-clause-within c =
    let most = prefix_len-le-length (λ b. not (b == c.args.separator)) (take 32 c.args.bytes.now) in
    omega (arith, c.min.ensures, c.place_in_vector.ensures, most, length-take-le 32 c.args.bytes.now c.requires)

pub returns-clause-quiet : goal.returns-clause-quiet
returns-clause-quiet c =
    let other : c.match-release.other ≡ other_of c.args.release c.args.separator = elim c.match-release.branch [
      | in-Some w ↦ rw (w.in-Some.is, w.other-is) refl
      | in-None w ↦ rw (w.in-None.is, w.other-is) refl
    ] in
    let most = prefix_len-le-length (λ b. not (b == c.args.separator)) (take 32 c.args.bytes.now) in
    let within : c.min.result ≤ 32 = omega (arith, c.min.ensures, c.place_in_vector.ensures, most, length-take-le 32 c.args.bytes.now c.requires) in
    up_to_near c.args.release c.args.separator c.match-release.other c.min.result c.args.bytes.now other c.requires within
    (omega (arith, c.min.ensures, c.place_in_vector.ensures)) (omega (arith, c.min.ensures, c.place_in_vector-2.ensures))

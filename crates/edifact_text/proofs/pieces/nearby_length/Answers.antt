use Rattle.std.proofs.Common.{◌≡◌, ◌+◌, drop, subst, option_map, false, arith}
use Rattle.edifact_text.specs.Pieces.{end_from}
use Rattle.edifact_text.proofs.pieces.nearby_length.Goals as goal

pub second_length-requires : goal.second_length-requires
second_length-requires c =
    let r = c.args.release in
    let sep = c.args.separator in
    let xs = c.args.bytes.now in
    let all : c.quiet_in_vector-at.result ≡ 32 = omega (arith, c.quiet_in_vector-at.ensures.within, c.if-at-lt32.false) in
    subst (λ n. end_from r sep false xs ≡ option_map (λ k. n + k) (end_from r sep false (drop n xs))) all c.quiet_in_vector-at.ensures.quiet

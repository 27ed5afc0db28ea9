use Rattle.std.proofs.Common.{◌≡◌, ◌+◌, drop, subst, option_map, false}
use Rattle.edifact_text.specs.Pieces.{end_from}
use Rattle.edifact_text.proofs.FarLemmas.{up_to_both}
use Rattle.edifact_text.proofs.pieces.second_length.Goals as goal

pub returns-then-behind-lt32-clause-quiet : goal.returns-then-behind-lt32-clause-quiet
returns-then-behind-lt32-clause-quiet c =
    let r = c.args.release in
    let sep = c.args.separator in
    let behind = c.quiet_in_vector-behind.result in
    let more = subst (λ l. end_from r sep false l ≡ option_map (λ k. behind + k) (end_from r sep false (drop behind l))) c.split_at.ensures.back c.quiet_in_vector-behind.ensures.quiet in
    up_to_both r sep 32 behind c.args.bytes.now c.requires more

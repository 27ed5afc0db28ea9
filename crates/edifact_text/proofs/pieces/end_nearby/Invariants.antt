use Rattle.std.proofs.Common.{◌≡◌, ◌+◌, drop, option_map, false}
use Rattle.edifact_text.specs.Pieces.{end_from}
use Rattle.edifact_text.proofs.pieces.end_nearby.Given as goal

abbrev pub invariant-loop-at : goal.invariant-loop-at
invariant-loop-at l = option_map (λ n. l.at + n) (end_from l.release l.separator false
    (drop l.at l.bytes)) ≡ end_from l.release l.separator false l.bytes

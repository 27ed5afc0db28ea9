use Rattle.std.proofs.Common.{◌≡◌, drop, length}
use Rattle.ship_profile.specs.Record.{fills_in, fill_in}
use Rattle.ship_profile.specs.Outcome.{one_by_one}
use Rattle.ship_profile.proofs.fills.fill_tanks.Given as goal

-- the fills that are left come after those that are in their tanks
abbrev pub invariant-loop-fill : goal.invariant-loop-fill
invariant-loop-fill l = record {
  left : fills_in l.tables l.named ≡ one_by_one (fill_in l.tables) l.fills.items (drop l.fill-index l.named);
  count : length l.fills.items ≡ l.fill-index;
}

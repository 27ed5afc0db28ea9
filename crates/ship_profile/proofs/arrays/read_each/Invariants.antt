use Rattle.std.proofs.Common.{◌≡◌, drop, [], length}
use Rattle.toml.specs.View.{items_view}
use Rattle.ship_profile.specs.Keys.{items_in}
use Rattle.ship_profile.specs.Outcome.{one_by_one}
use Rattle.ship_profile.proofs.arrays.read_each.Given as goal

-- the values that are left to read come after those that were read
abbrev pub invariant-loop-value : goal.invariant-loop-value
invariant-loop-value g l = record {
  left : one_by_one (g.E.Element.next l.element) [] (items_in (items_view l.values)) ≡ one_by_one (g.E.Element.next l.element) l.items.items (items_in (items_view (drop l.value-index l.values)));
  count : length l.items.items ≡ l.value-index;
}

use Rattle.std.proofs.Common.{◌≡◌, rules}
use Rattle.ship_tables.proofs.tanks.TankRows.place.Goals as goal

pub returns-clause-placed : goal.returns-clause-placed
returns-clause-placed c =
    let half : c.as_slice-4.result.now ≡ c.self.inside.centres.half.items = search rules in
    record {
      x_within = c.length_at.ensures.size;
      y_within = c.length_at-2.ensures.size;
      z_within = c.length_at-3.ensures.size;
      half_least = c.length_at-4.ensures.least (rw half c.self.invariant.half_least);
      half_within = c.length_at-4.ensures.size;
    }

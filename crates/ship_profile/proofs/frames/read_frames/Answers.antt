use Rattle.std.proofs.Common.{subst, sym}
use Rattle.toml.specs.View.{table_view}
use Rattle.ship_profile.specs.Ship.{AreFrames}
use Rattle.ship_profile.proofs.MeaningLemmas.{frames-sound}
use Rattle.ship_profile.proofs.frames.read_frames.Goals as goal

pub new-requires : goal.new-requires
new-requires c =
    let sound = frames-sound c.args.stations.now (table_view c.args.table.now) _ c.in_ok-frames.ensures.ok in
    (sound.some, sound.few)

pub returns-clause-meaning : goal.returns-clause-meaning
returns-clause-meaning c =
    subst (AreFrames c.args.stations.now) (sym c.new.ensures)
    (frames-sound c.args.stations.now (table_view c.args.table.now) _ c.in_ok-frames.ensures.ok)

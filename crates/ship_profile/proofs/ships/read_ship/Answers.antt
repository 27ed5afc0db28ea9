use Rattle.std.proofs.Common.{◌≡◌, FitsSigned, w64, rules}
use Rattle.std.proofs.lemmas.Int.{to_z-of_z}
use Rattle.ship_profile.proofs.ships.read_ship.Goals as goal

pub returns-clause-meaning : goal.returns-clause-meaning
returns-clause-meaning c =
    let stations : c.as_slice.result.now ≡ c.in_ok-stations.stations.items = search rules in
    let frame_stations : c.as_slice-2.result.now ≡ c.in_ok-stations.stations.items = search rules in
    let list_fits : FitsSigned w64 c.in_ok-list_max.list_max = search rules in
    let closing_fits : FitsSigned w64 c.in_ok-closing_max.closing_max = search rules in
    rw (to_z-of_z w64 c.in_ok-list_max.list_max list_fits, to_z-of_z w64 c.in_ok-closing_max.closing_max closing_fits)
    (record {
      lbp_least = c.in_ok-lbp.ensures.within.0;
      lbp_most = c.in_ok-lbp.ensures.within.1;
      downflooding_least = c.in_ok-downflooding.ensures.within.0;
      downflooding_most = c.in_ok-downflooding.ensures.within.1;
      draught_least = c.in_ok-draught_max.ensures.within.0;
      draught_most = c.in_ok-draught_max.ensures.within.1;
      trim_least = c.in_ok-trim_max.ensures.within.0;
      trim_most = c.in_ok-trim_max.ensures.within.1;
      list_least = c.in_ok-list_max.ensures.within.0;
      list_most = c.in_ok-list_max.ensures.within.1;
      closing_least = c.in_ok-closing_max.ensures.within.0;
      closing_most = c.in_ok-closing_max.ensures.within.1;
      stations = c.in_ok-stations.ensures.meaning;
      blocks = rw (← stations, ← c.extent_of-extent.ensures) c.in_ok-blocks.ensures.meaning;
      frames = rw (← frame_stations) c.in_ok-frames.ensures.meaning;
    })

use Rattle.ship_profile.specs.declared.faults.Key.TheVariants.{Stations, Blocks, Frames, Fills}
use Rattle.ship_profile.specs.Ship.{block_of, frame_of, named_fill_of, station_of}
use Rattle.ship_profile.proofs.ArrayWalks.{array_answer, optional_answer}
use Rattle.ship_profile.proofs.laws.one_array.Goals as goal

pub returns : goal.returns
returns c = record {
  stations = λ ms. array_answer Stations 2 64 station_of ms;
  blocks = λ extent ms. array_answer Blocks 1 200 (block_of extent) ms;
  frames = λ at ms. array_answer Frames 1 16 (frame_of at) ms;
  fills = λ ms. optional_answer Fills 200 named_fill_of ms;
}

use Rattle.ship_tables.proofs.HydroReading.{hydro_read}
use Rattle.ship_tables.proofs.laws.sound_hydro_is_read.Goals as goal

pub returns : goal.returns
returns c = λ text h sound written six. hydro_read text h sound written six

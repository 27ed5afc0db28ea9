use Rattle.ship_tables.proofs.SetWalks.{set_sound, set_fault, set_either}
use Rattle.ship_tables.proofs.laws.one_set.Goals as goal

pub returns : goal.returns
returns c = record {
  sound = λ extent stations texts t h. set_sound extent stations texts t h;
  fault = λ extent stations texts f h. set_fault extent stations texts f h;
  either = λ extent stations texts. set_either extent stations texts;
  not_both = λ extent stations texts t f h g.
      let a = set_sound extent stations texts t h in
      let b = set_fault extent stations texts f g in
      cc;
}

use Rattle.ship_profile.proofs.ProfileWalks.{profile_sound, profile_fault, profile_either}
use Rattle.ship_profile.proofs.laws.one_profile.Goals as goal

pub returns : goal.returns
returns c = record {
  sound = λ texts p h. profile_sound texts p h;
  fault = λ texts f h. profile_fault texts f h;
  either = λ texts. profile_either texts;
  not_both = λ texts p f h g.
      let a = profile_sound texts p h in
      let b = profile_fault texts f g in
      cc;
}

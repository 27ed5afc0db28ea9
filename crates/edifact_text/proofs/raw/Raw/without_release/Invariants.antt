use Rattle.std.proofs.Common.{◌≡◌, ◌++◌, take, drop}
use Rattle.edifact_text.specs.Pieces.{literal}
use Rattle.edifact_text.specs.Views.{meaning_of, up_to}
use Rattle.edifact_text.proofs.raw.Raw.without_release.Given as goal

abbrev pub invariant-loop-at : goal.invariant-loop-at
invariant-loop-at l = meaning_of l.self ≡ take l.at l.self.bytes.now ++ literal l.self.release (up_to l.self.release l.self.ends (drop l.at l.self.bytes.now))

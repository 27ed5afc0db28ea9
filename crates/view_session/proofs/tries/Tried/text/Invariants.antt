use Rattle.std.proofs.Common.{◌≡◌, take}
use Rattle.view_session.specs.Trails.{file_of}
use Rattle.view_session.proofs.tries.Tried.text.Given as goal

abbrev pub invariant-loop-line : goal.invariant-loop-line
invariant-loop-line l = l.text.items ≡ file_of (take l.line-index l.self.lines)

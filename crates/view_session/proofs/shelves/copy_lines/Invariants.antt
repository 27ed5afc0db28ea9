use Rattle.std.proofs.Common.{◌≡◌, take}
use Rattle.view_session.specs.Trails.{texts_of}
use Rattle.view_session.proofs.shelves.copy_lines.Given as goal

abbrev pub invariant-loop-line : goal.invariant-loop-line
invariant-loop-line l = texts_of l.list.items ≡ take l.line-index (texts_of l.lines)

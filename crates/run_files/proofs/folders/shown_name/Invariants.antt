use Rattle.std.proofs.Common.{◌≡◌, string_bytes, map, take}
use Rattle.port_call.specs.Shown.{shown}
use Rattle.run_files.proofs.folders.shown_name.Given as goal

abbrev pub invariant-loop-byte : goal.invariant-loop-byte
invariant-loop-byte l = string_bytes l.text ≡ map shown (take l.byte-index l.byte-items)

use Rattle.std.proofs.Common.{◌≡◌, string_bytes, map, take}
use Rattle.command_line.specs.Arguments.{masked}
use Rattle.command_line.proofs.arguments.masked_text.Given as goal

abbrev pub invariant-loop-byte : goal.invariant-loop-byte
invariant-loop-byte l = string_bytes l.text ≡ map masked (take l.byte-index l.bytes)

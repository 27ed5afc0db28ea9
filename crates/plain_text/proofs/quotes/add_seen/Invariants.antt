use Rattle.std.proofs.Common.{◌≡◌, ◌++◌, string_bytes, map, take}
use Rattle.plain_text.specs.Quotes.{seen}
use Rattle.plain_text.proofs.quotes.add_seen.Given as goal

abbrev pub invariant-loop-byte : goal.invariant-loop-byte
invariant-loop-byte l =
    string_bytes l.text ≡ string_bytes l.initial.text ++ map seen (take l.byte-index l.bytes)

use Rattle.std.proofs.Common.{◌≡◌, ◌+◌, ◌*◌, ◌%◌, ◌^◌, fold, take}
use Rattle.lift_sequence.proofs.hashing.CellHasherHasher.write.Given as goal

abbrev pub invariant-loop-byte : goal.invariant-loop-byte
invariant-loop-byte l = l.last_four ≡ fold (λ n b. ((n * 256) % 2 ^ 32 + b) % 2 ^ 32) l.fn.self.last_four (take l.byte-index l.bytes)

use Rattle.std.proofs.Common.{◌+◌, length, arith}
use Rattle.running_sums.proofs.OffsetLemmas.{few_chunks}
use Rattle.running_sums.proofs.chunk_sums.chunk_count.Goals as goal

pub overflow_cast-result : goal.overflow_cast-result
overflow_cast-result c =
    let few = few_chunks c.args.cuts.now (length c.args.sequence.now.ops + 1) c.requires in
    omega (arith, c.chunks.ensures.count, few, c.facts.ensures.few)

use Rattle.std.proofs.Common.{◌+◌, suc, length, arith}
use Rattle.prefix_scan.proofs.CutLemmas.{start_within}
use Rattle.running_sums.proofs.chunk_sums.lines_of.Goals as goal

pub returns-clause-inside : goal.returns-clause-inside
returns-clause-inside c =
    let within = start_within c.args.cuts.now (length c.args.sequence.now.ops + 1) (suc c.args.k) c.requires.cut (omega (arith, c.requires.there)) in
    omega (arith, within, c.range.ensures.bounds.1)

use Rattle.std.proofs.Common.{map, codes, arith}
use Rattle.std.specs.Str.Parse.{ParsesUnsigned, ExplainsUnsignedError, HasUnsignedDigitsIfOk}
use Rattle.clap.specs.Words.{takes}
use Rattle.command_line.specs.Words.{command_of}
use Rattle.command_line.proofs.LineReads.{edits_are, not_true, number_is, option_is, word_is}
use Rattle.command_line.proofs.lines.line_for.Goals as goal

pub returns-in-Err-clause-usage : goal.returns-in-Err-clause-usage
returns-in-Err-clause-usage c usage =
    not_true (takes (command_of c.args.task) (map (λ w. w.now) c.args.words.now)) (λ t. c.usage_fault.ensures usage (c.in-Err.ensures.refused t))

pub returns-clause-ok : goal.returns-clause-ok
returns-clause-ok c =
    let m = c.in-Ok.matches in
    let rows = c.in-Ok.ensures.rows in
    let workers = number_is _ 32 1 16 4 (codes "workers") (λ text r. ParsesUnsigned 32 10 text r × ExplainsUnsignedError 10 text r × HasUnsignedDigitsIfOk text r)
    m _ c.get_one.result c.unwrap_or-workers.result (omega arith) (omega arith) (omega arith) rows (λ u x g. g.0)
    c.unwrap_or-workers.ensures c.get_one.ensures.none c.get_one.ensures.value c.in-Ok.ensures.promised.workers in
    let number = number_is _ 32 1 200_000 256 (codes "chunk") (λ text r. ParsesUnsigned 32 10 text r × ExplainsUnsignedError 10 text r × HasUnsignedDigitsIfOk text r)
    m _ c.get_one-2.result c.unwrap_or-chunk.result (omega arith) (omega arith) (omega arith) rows (λ u x g. g.0)
    c.unwrap_or-chunk.ensures c.get_one-2.ensures.none c.get_one-2.ensures.value c.in-Ok.ensures.promised.chunk in
    record {
      folder = word_is m _ (codes "FOLDER") c.get_str.result _ rows c.get_str.ensures c.unwrap-folder.ensures;
      baplie = word_is m _ (codes "BAPLIE") c.get_str-2.result _ rows c.get_str-2.ensures c.unwrap-baplie.ensures;
      movins = word_is m _ (codes "MOVINS") c.get_str-3.result _ rows c.get_str-3.ensures c.unwrap-movins.ensures;
      edits = edits_are c.args.task m _ c.edits_in-edits.result rows c.edits_in-edits.ensures c.in-Ok.ensures.promised.edits;
      steps = option_is m _ (codes "steps") c.get_str-steps.result rows c.get_str-steps.ensures;
      workers = workers.0;
      some_workers = workers.1;
      few_workers = workers.2;
      chunk = number.0;
      at_least = number.1;
      at_most = number.2;
    }

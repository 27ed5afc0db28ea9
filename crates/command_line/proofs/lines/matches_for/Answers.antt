use Rattle.std.proofs.Common.{map}
use Rattle.std.proofs.lemmas.Result.{IfOk-weaker}
use Rattle.clap.specs.Words.{app_of}
use Rattle.command_line.specs.Words.{arguments_of, bare, command_of}
use Rattle.command_line.proofs.Chain.{app_of_rules}
use Rattle.command_line.proofs.CheckWords.{has_words, refused_by, rows_by, simple, simple_and_free, taken_by}
use Rattle.command_line.proofs.lines.matches_for.Goals as goal

pub returns-clause-rows : goal.returns-clause-rows
returns-clause-rows c =
    let parse = c.try_get_matches_from in
    rows_by parse.result (app_of c.in_ok-command.command) (command_of c.args.task) (map (λ w. w.now) c.args.words.now) (app_of_rules (bare c.args.task) (arguments_of c.args.task) c.in_ok-command.command c.in_ok-command.ensures) (simple c.args.task) parse.ensures.matches

pub returns-clause-refused : goal.returns-clause-refused
returns-clause-refused c =
    let parse = c.try_get_matches_from in
    refused_by parse.result (app_of c.in_ok-command.command) (command_of c.args.task) (map (λ w. w.now) c.args.words.now) (app_of_rules (bare c.args.task) (arguments_of c.args.task) c.in_ok-command.command c.in_ok-command.ensures) parse.ensures.passes

pub returns-clause-taken : goal.returns-clause-taken
returns-clause-taken c =
    let parse = c.try_get_matches_from in
    taken_by parse.result (app_of c.in_ok-command.command) (command_of c.args.task) (map (λ w. w.now) c.args.words.now) (app_of_rules (bare c.args.task) (arguments_of c.args.task) c.in_ok-command.command c.in_ok-command.ensures) (simple_and_free c.args.task) parse.ensures.kinds

pub returns-clause-promised : goal.returns-clause-promised
returns-clause-promised c =
    let parse = c.try_get_matches_from in
    IfOk-weaker parse.result _ _ (λ m p. has_words c.args.task c.in_ok-command.command m c.in_ok-command.ensures p) parse.ensures.parsed

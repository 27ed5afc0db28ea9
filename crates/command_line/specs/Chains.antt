-- Bookkeeping: a command that was given arguments of these rules, one after another.
use Rattle.std.specs.Prelude.{◌≡◌, ⊤, true, false, List, [], ◌∷◌}
use Rattle.clap.specs.Facts.{args_of, groups_of}
use Rattle.clap.specs.Built.{AddsArg, AddsInTurn, IsPlainArg, TakesValue}
use Rattle.clap.specs.Words.{App, Rule, app_of, rule_of}
use Rattle.clap.specs.declared.builder.arg.Arg.{Arg}
use Rattle.clap.specs.declared.builder.command.Command.{Command}
use Rattle.clap.specs.declared.builder.command.Command.TheViews.{out-Command}

-- an argument of this rule, which excludes nothing and is this command's alone; one that has to be
-- there takes a value
pub record IsArgumentOf (rule : Rule) (argument : Arg) : Type 0 where
  pub same : rule_of argument ≡ rule
  pub plain : IsPlainArg argument
  pub one : argument.global ≡ false
  pub value : rule.required ≡ true → TakesValue argument

abbrev pub AreArgumentsOf : List Rule → List Arg → Type 0
AreArgumentsOf [] [] = ⊤
AreArgumentsOf [] (argument ∷ arguments) = ⊥
AreArgumentsOf (rule ∷ rules) [] = ⊥
AreArgumentsOf (rule ∷ rules) (argument ∷ arguments) =
    IsArgumentOf rule argument × AreArgumentsOf rules arguments

-- a command that takes nothing yet
pub record IsBare (app : App) (command : Command) : Type 0 where
  pub app_is : app_of command ≡ app
  pub args : args_of command ≡ []
  pub groups : groups_of command ≡ []
  pub local : (out-Command command).has_globals ≡ false
  pub negates : (out-Command command).subcommand_negates_reqs ≡ false

-- it was given arguments of these rules in their order
pub record TakesRules (app : App) (rules : List Rule) (command : Command) : Type 0 where
  pub start : Command
  pub arguments : List Arg
  pub is_bare : IsBare app start
  pub of_rules : AreArgumentsOf rules arguments
  pub added : AddsInTurn AddsArg start arguments command

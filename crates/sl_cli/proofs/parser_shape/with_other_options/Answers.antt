use Rattle.clap.specs.Simple.{app_of}
use Rattle.sl_cli.proofs.AddedRules.{three_added}
use Rattle.sl_cli.proofs.parser_shape.with_other_options.Goals as goal
use Rattle.sl_cli.specs.ParserShape.{option_rule}
use Rattle.std.specs.Prelude.{codes}

pub returns-clause-app : goal.returns-clause-app
returns-clause-app c =
    three_added (app_of c.args.command) (app_of c.in_ok-command.command) (app_of c.in_ok-command-2.command)
    (option_rule (codes "stretch") 100) (option_rule (codes "geometry") 103) (option_rule (codes "format") 118) c.with_option-3.result
    c.in_ok-command.ensures.app c.in_ok-command-2.ensures.app c.with_option-3.ensures.app

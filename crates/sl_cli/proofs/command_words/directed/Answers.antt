use Rattle.sl_cli.proofs.ActionTexts.{given_can}
use Rattle.sl_cli.proofs.command_words.directed.Goals as goal
use Rattle.std.proofs.Common.{sym, ◌∙◌}

pub returns-clause-can : goal.returns-clause-can
returns-clause-can c = given_can c.args.given.now c.in_ok-action.field-0 (sym c.action.ensures ∙ c.in_ok-action.was)

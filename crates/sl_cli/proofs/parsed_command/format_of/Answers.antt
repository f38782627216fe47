use Rattle.sl_cli.proofs.OptionValueLaws.{format_said}
use Rattle.sl_cli.proofs.parsed_command.format_of.Goals as goal
use Rattle.std.proofs.Common.{◌∙◌}
use Rattle.std.specs.Prelude.{option_map}

pub returns : goal.returns
returns c = c.paired_said.ensures ∙ format_said (option_map (λ w. w.now) c.args.word)

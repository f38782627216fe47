use Rattle.clap.proofs.WalkLemmas.{first_value-rows}
use Rattle.clap.specs.Matches.{found_of}
use Rattle.sl_cli.proofs.parsed_command.value_of.Goals as goal
use Rattle.std.proofs.Common.{◌∙◌}

pub returns : goal.returns
returns c = c.get_str.ensures ∙ first_value-rows (found_of c.args.matches.now) c.args.id.now

use Rattle.sl_command.proofs.CommandLaws.{reads_commands}
use Rattle.sl_command.proofs.laws.commands_have_one_text.Goals as goal

pub returns : goal.returns
returns c = reads_commands

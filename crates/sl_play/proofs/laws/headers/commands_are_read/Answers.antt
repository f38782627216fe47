use Rattle.sl_play.proofs.Headers.CommandsAreRead.{commands_are_read}
use Rattle.sl_play.proofs.laws.headers.commands_are_read.Goals as goal

pub returns : goal.returns
returns c = commands_are_read

use Rattle.sl_play.proofs.Headers.CommandsAreRead.{whole_language_may_play}
use Rattle.sl_play.proofs.laws.headers.whole_language_may_play.Goals as goal

pub returns : goal.returns
returns c = whole_language_may_play

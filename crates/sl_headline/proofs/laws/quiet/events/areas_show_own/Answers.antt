use Rattle.sl_headline.proofs.Quiet.Events.AreasShowOwn.{areas_show_own}
use Rattle.sl_headline.proofs.laws.quiet.events.areas_show_own.Goals as goal

pub returns : goal.returns
returns c = areas_show_own

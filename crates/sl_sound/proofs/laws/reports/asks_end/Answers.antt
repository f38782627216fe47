use Rattle.sl_sound.proofs.Reports.EventsAskFew.{asks_end}
use Rattle.sl_sound.proofs.laws.reports.asks_end.Goals as goal

pub returns : goal.returns
returns c = asks_end

use Rattle.sl_sound.proofs.Reports.EventsAskFew.{events_ask_few}
use Rattle.sl_sound.proofs.laws.reports.events_ask_few.Goals as goal

pub returns : goal.returns
returns c = events_ask_few

use Rattle.sl_run_law.proofs.FatesStay.{event_fates}
use Rattle.sl_run_law.proofs.laws.fates_stay.Goals as goal

pub returns : goal.returns
returns c = event_fates

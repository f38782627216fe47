use Rattle.sl_world_law.proofs.DirectChanges.{quiet_events}
use Rattle.sl_world_law.proofs.direct_changes.quiet_events.Goals as goal

pub returns : goal.returns
returns c = quiet_events

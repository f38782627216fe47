use Rattle.sl_run_law.proofs.Place.PlaceLaws.{lockspaces_hold_deltas}
use Rattle.sl_run_law.proofs.laws.place.lockspaces_hold_deltas.Goals as goal

pub returns : goal.returns
returns c = lockspaces_hold_deltas

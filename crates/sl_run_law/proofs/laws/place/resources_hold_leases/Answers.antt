use Rattle.sl_run_law.proofs.Place.PlaceLaws.{resources_hold_leases}
use Rattle.sl_run_law.proofs.laws.place.resources_hold_leases.Goals as goal

pub returns : goal.returns
returns c = resources_hold_leases

use Rattle.sl_world_law.proofs.FlightEvents.{flights_are_kept}
use Rattle.sl_world_law.proofs.changes.flights_are_kept.Goals as goal

pub returns : goal.returns
returns c = flights_are_kept

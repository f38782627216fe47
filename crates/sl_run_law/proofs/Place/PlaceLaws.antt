-- The laws of this crate, over those of the crates below.
use Rattle.sl_run_law.proofs.Course.CountedDaemons.{courses_have_daemons}
use Rattle.sl_run_law.proofs.Course.DaemonsOfWorld.{daemons_are_of_world}
use Rattle.sl_run_law.proofs.Course.CoursesAreCalls.{courses_are_calls}
use Rattle.sl_run_law.proofs.Landing.LandingLaws.{landings_are_written}
use Rattle.sl_run_law.proofs.Place.LandingsAtHome.{lockspaces_hold_deltas_given, nothing_lands_elsewhere_given, resources_hold_leases_given}
use Rattle.sl_run_law.proofs.Place.TracesOnMachines.{IsPromised}
use Rattle.sl_run_law.specs.Place.Homes.{LockspacesHoldDeltas, NothingLandsElsewhere, ResourcesHoldLeases}
use Rattle.sl_run_law.proofs.Sample.SampleLaws.{done_reads_are_whole, sampled_are_sectors, samples_are_landings}

pub promised : IsPromised
promised =
    record {
      calls = courses_are_calls;
      daemons = courses_have_daemons;
      of_world = daemons_are_of_world;
      written = landings_are_written;
      samples = samples_are_landings;
      sectors = sampled_are_sectors;
      done = done_reads_are_whole;
    }

pub lockspaces_hold_deltas : LockspacesHoldDeltas
lockspaces_hold_deltas = lockspaces_hold_deltas_given promised

pub resources_hold_leases : ResourcesHoldLeases
resources_hold_leases = resources_hold_leases_given promised

pub nothing_lands_elsewhere : NothingLandsElsewhere
nothing_lands_elsewhere = nothing_lands_elsewhere_given promised

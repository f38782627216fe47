-- The laws of this crate, over those of the crates below.
use Rattle.sl_run_law.proofs.Course.CountedDaemons.{courses_have_daemons}
use Rattle.sl_run_law.proofs.Course.DaemonsOfWorld.{daemons_are_of_world}
use Rattle.sl_run_law.proofs.Course.CoursesAreCalls.{courses_are_calls}
use Rattle.sl_run_law.proofs.Course.MachinesMirror.{machines_mirror}
use Rattle.sl_run_law.proofs.Course.EntriesAreStamped.{entries_are_stamped}
use Rattle.sl_run_law.proofs.Moment.MomentsFollowSteps.{drift_between}
use Rattle.sl_run_law.proofs.Watchdog.WritersMayAct.{covered_are_connected_given, covered_may_act_given, writers_may_act_given, writes_in_flight_are_covered_given}
use Rattle.sl_run_law.specs.Watchdog.WatchdogLaws.{CoveredAreConnected, CoveredMayAct, WritersMayAct, WritesInFlightAreCovered}

pub covered_are_connected : CoveredAreConnected
covered_are_connected = covered_are_connected_given machines_mirror entries_are_stamped daemons_are_of_world drift_between

pub covered_may_act : CoveredMayAct
covered_may_act = covered_may_act_given machines_mirror entries_are_stamped daemons_are_of_world drift_between

pub writers_may_act : WritersMayAct
writers_may_act = writers_may_act_given courses_are_calls machines_mirror entries_are_stamped daemons_are_of_world drift_between

pub writes_in_flight_are_covered : WritesInFlightAreCovered
writes_in_flight_are_covered = writes_in_flight_are_covered_given courses_are_calls courses_have_daemons machines_mirror entries_are_stamped daemons_are_of_world drift_between

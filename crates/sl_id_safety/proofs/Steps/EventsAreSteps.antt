-- The laws of this crate, over those of the crates below.
use Rattle.sl_run_law.proofs.Course.CallsAreDistinct.{each_distinct}
use Rattle.sl_run_law.proofs.Course.MachinesMirror.{machines_mirror}
use Rattle.sl_id_safety.proofs.Steps.BetweenIsBounded.{between_is_bounded_given}
use Rattle.sl_id_safety.proofs.State.SessionFacts.{claims_have_decided, grounds, ids_are_bounded, join_reads_are_own, renewals_have_verified}
use Rattle.sl_id_safety.proofs.Steps.EndingSteps.{endings_go_on_given}
use Rattle.sl_id_safety.proofs.Steps.EntriesGoOn.{entries_go_on_by}
use Rattle.sl_id_safety.proofs.Steps.LandingsElsewhere.{RestsOn}
use Rattle.sl_id_safety.proofs.Steps.LandingEvents.{landings_go_on_given}
use Rattle.sl_id_safety.proofs.Steps.Newcomers.{new_are_blank}
use Rattle.sl_id_safety.proofs.Steps.OwnSessions.{own_sessions_act_by}
use Rattle.sl_id_safety.proofs.Steps.QuietEvents.{quiet_changes_go_on_given}
use Rattle.sl_id_safety.proofs.Steps.Renewals.{renewals_go_by}
use Rattle.sl_id_safety.proofs.Steps.CountedRenewals.{counted_renew}
use Rattle.sl_id_safety.specs.Steps.EventParts.{BetweenIsBounded, EndingsGoOn, EntriesGoOn, LandingsGoOn, QuietChangesGoOn}
use Rattle.sl_run_law.proofs.Landing.LandingLaws.{landings_are_written}
use Rattle.sl_run_law.proofs.Place.PlaceLaws.{lockspaces_hold_deltas, promised}
use Rattle.sl_run_law.proofs.Sample.SampleLaws.{samples_are_landings}

pub quiet_changes_go_on : QuietChangesGoOn
quiet_changes_go_on = quiet_changes_go_on_given machines_mirror

pub endings_go_on : EndingsGoOn
endings_go_on = endings_go_on_given each_distinct machines_mirror landings_are_written

pub between_is_bounded : BetweenIsBounded
between_is_bounded = between_is_bounded_given ids_are_bounded

rests_on : RestsOn
rests_on =
    record {
      grounds = grounds;
      promised = promised;
      distinct = each_distinct;
      mirror = machines_mirror;
      written = landings_are_written;
      samples = samples_are_landings;
      reads = join_reads_are_own;
      claims = claims_have_decided;
      renewals = renewals_have_verified;
      deltas = lockspaces_hold_deltas;
    }

pub landings_go_on : LandingsGoOn
landings_go_on = landings_go_on_given rests_on

pub entries_go_on : EntriesGoOn
entries_go_on =
    entries_go_on_by each_distinct machines_mirror landings_are_written
    (own_sessions_act_by each_distinct machines_mirror landings_are_written new_are_blank (renewals_go_by counted_renew))

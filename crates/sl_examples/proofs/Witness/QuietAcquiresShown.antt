-- Two acquires that nothing stands in the way of, exclusive and shared: they begin quietly, stay so, and are granted.
use Rattle.sl_due.specs.Due.{after_input, before_input, due, due_step}
use Rattle.sl_due.specs.DueAnswers.{after_answer, after_answer_of}
use Rattle.sl_due.specs.DueCommands.{after_end, carry_decision, decided, on_line}
use Rattle.sl_due.specs.CarriedDelta.{after_free, after_join_answer, after_renewal, after_survey, carry_delta, see_requests}
use Rattle.sl_due.specs.DueRecovery.{begin_recoveries, begin_recovery, kill_holders, kills, signal_and_refuse}
use Rattle.sl_due.specs.DueTimeOuts.{refuse, time_out, time_outs}
use Rattle.sl_due.specs.DueInputs.{leave_holdings, on_exit, on_spawned, take_input}
use Rattle.sl_due.specs.CarriedLease.{after_lease_answer, carry_lease, settle}
use Rattle.sl_due.specs.DueRequests.{after_request_read, after_see_request, after_value_read, request_refusal}
use Rattle.sl_due.specs.DueWake.{finish, finish_session, join_on_wake, on_wake, renew_on_wake, settle_on_wake, settlings}
use Rattle.sl_trace.specs.Ballots.{instance_of, phase1_block, phase2_block, stop_of}
use Rattle.sl_trace.specs.LeaseDecisions.{after_bytes, area_next, begin_next, lease_next, settle_begin, settle_next, within_turn}
use Rattle.sl_trace.specs.Leases.{known}
use Rattle.sl_run.specs.Lvm.{begins, goes_on_with, lvm_turn}
use Rattle.sl_run.specs.LvmLines.{lvm_forms}
use Rattle.sl_report.specs.Reports.{count_event}
use Rattle.sl_report.specs.EventLines.{event_forms}
use Rattle.sl_report.specs.HeaderLines.{header_forms, header_of}
use Rattle.sl_report.specs.HeaderRefusals.{header_tests}
use Rattle.sl_run.specs.Locks.{locks_after, told_effects}
use Rattle.sl_sector.specs.FieldBytes.{u32_at, u32_bytes, u64_at, u64_bytes}
use Rattle.sl_sector.specs.SectorLayouts.{block_rules, checked_part, decoded, delta_rules, field_bytes, fields_of, leader_rules, magic, own_rules, request_rules, spelling, value_rules}
use Rattle.sl_trace.specs.DeltaDecisions.{next_after_deciding, next_after_first, next_after_verify, next_after_watch, next_in_joining, next_on_wake, next_renewal}
use Rattle.sl_text.specs.Names.{padded_text}
use Rattle.sl_trace.specs.CommandForms.{forms}
use Rattle.sl_trace.specs.EffectTexts.{reply_words}
use Rattle.sl_examples.proofs.Witness.HeaderSearch.{seek_header}
use Rattle.sl_examples.proofs.Witness.RunSearch.{cheap_is_digest, seek_run}
use Rattle.sl_examples.proofs.Witness.TraceSearch.{seek_each_daemon}
use Rattle.std.specs.Fmt.{digits}
use Rattle.sl_examples.specs.CheapDigest.{cheap_program}
use Rattle.sl_run.specs.Lawful.{Lawful}
use Rattle.sl_report.specs.DueRuns.{due_run}
use Rattle.sl_run.specs.Refusals.{event_tests}
use Rattle.sl_run.specs.Premises.{pass_tests}
use Rattle.sl_run.specs.EventChanges.{first_change}
use Rattle.sl_run.specs.Quiet.{QuietStart, before_command}
use Rattle.sl_run.specs.Runs.{EachDaemon, Happening}
use Rattle.sl_run.specs.Safety.{LawfulRun, world_at}
use Rattle.sl_run.specs.Worlds.{Daemon, Machine, World, initial_record, machine_at, machine_of_header, reading_now}
use Rattle.sl_trace.specs.Sessions.{session_named}
use Rattle.sl_trace.specs.Traces.{next_job}
use Rattle.sl_trace.specs.declared.session.Session.{Session}
use Rattle.sl_examples.proofs.Witness.QuietSearch.{Ends, seek_ends, seek_quiet, seek_start}
use Rattle.sl_examples.proofs.Witness.ProofSearch.{found, seek_for, seek_same}
use Rattle.sl_examples.specs.Witness.QuietRun.{IsQuietlyGranted, QuietAcquiresAreShown, exclusive_events, exclusive_text, quiet_resource, shared_events, shared_text}
use Rattle.sl_examples.specs.Witness.Witness.{witness_header, witness_world}
use Rattle.std.specs.Prelude.{IsSome, List, Option, Some, false, refl, true, ◌≡◌}

abbrev world : World
world = witness_world

-- ---- numbers

abbrev pub FirstJob : Machine → Type 0
FirstJob a = (d : Daemon) → a.daemon ≡ Some d → next_job d.setting d.trace ≡ 1

abbrev pub seek_job : (a : Machine) → Option (FirstJob a)
seek_job a = seek_for (λ d. next_job d.setting d.trace ≡ 1) a.daemon (λ d. seek_same (next_job d.setting d.trace) 1)

abbrev pub FirstSession : Machine → Type 0
FirstSession a =
    (d : Daemon) → a.daemon ≡ Some d → (s : Session) → session_named d.setting (before_command d (reading_now a)) quiet_resource.lockspace ≡ Some s → s.number ≡ 0

abbrev pub seek_session : (a : Machine) → Option (FirstSession a)
seek_session a =
    seek_for (λ d. (s : Session) → session_named d.setting (before_command d (reading_now a)) quiet_resource.lockspace ≡ Some s → s.number ≡ 0) a.daemon
    (λ d. seek_for (λ s. s.number ≡ 0) (session_named d.setting (before_command d (reading_now a)) quiet_resource.lockspace) (λ s. seek_same s.number 0))

job_found : IsSome (seek_for FirstJob (machine_at world 1) seek_job)
unfolding after_answer after_answer_of after_bytes after_end after_free after_input after_join_answer after_lease_answer after_renewal after_request_read after_see_request after_survey after_value_read area_next before_input begin_next begin_recoveries begin_recovery begins block_rules carry_decision carry_delta carry_lease checked_part count_event decided decoded delta_rules digits due due_step event_forms event_tests field_bytes fields_of finish finish_session first_change forms goes_on_with header_forms header_of header_tests initial_record instance_of join_on_wake kill_holders kills known leader_rules lease_next leave_holdings locks_after lvm_forms lvm_turn machine_of_header magic next_after_deciding next_after_first next_after_verify next_after_watch next_in_joining next_on_wake next_renewal on_exit on_line on_spawned on_wake own_rules padded_text pass_tests phase1_block phase2_block refuse renew_on_wake reply_words request_refusal request_rules see_requests settle settle_begin settle_next settle_on_wake settlings signal_and_refuse spelling stop_of take_input time_out time_outs told_effects u32_at u32_bytes u64_at u64_bytes value_rules within_turn
job_found = refl

session_found : IsSome (seek_for FirstSession (machine_at world 1) seek_session)
unfolding after_answer after_answer_of after_bytes after_end after_free after_input after_join_answer after_lease_answer after_renewal after_request_read after_see_request after_survey after_value_read area_next before_input begin_next begin_recoveries begin_recovery begins block_rules carry_decision carry_delta carry_lease checked_part count_event decided decoded delta_rules digits due due_step event_forms event_tests field_bytes fields_of finish finish_session first_change forms goes_on_with header_forms header_of header_tests initial_record instance_of join_on_wake kill_holders kills known leader_rules lease_next leave_holdings locks_after lvm_forms lvm_turn machine_of_header magic next_after_deciding next_after_first next_after_verify next_after_watch next_in_joining next_on_wake next_renewal on_exit on_line on_spawned on_wake own_rules padded_text pass_tests phase1_block phase2_block refuse renew_on_wake reply_words request_refusal request_rules see_requests settle settle_begin settle_next settle_on_wake settlings signal_and_refuse spelling stop_of take_input time_out time_outs told_effects u32_at u32_bytes u64_at u64_bytes value_rules within_turn
session_found = refl

header_found : IsSome (seek_header witness_header)
header_found = refl

-- ---- exclusive

abbrev exclusive_run : List Happening
exclusive_run = due_run world exclusive_events

abbrev exclusive_end : World
exclusive_end = world_at cheap_program witness_header exclusive_run

exclusive_is_run : IsSome (seek_run world exclusive_events)
unfolding after_answer after_answer_of after_bytes after_end after_free after_input after_join_answer after_lease_answer after_renewal after_request_read after_see_request after_survey after_value_read area_next before_input begin_next begin_recoveries begin_recovery begins block_rules carry_decision carry_delta carry_lease checked_part count_event decided decoded delta_rules digits due due_step event_forms event_tests field_bytes fields_of finish finish_session first_change forms goes_on_with header_forms header_of header_tests initial_record instance_of join_on_wake kill_holders kills known leader_rules lease_next leave_holdings locks_after lvm_forms lvm_turn machine_of_header magic next_after_deciding next_after_first next_after_verify next_after_watch next_in_joining next_on_wake next_renewal on_exit on_line on_spawned on_wake own_rules padded_text pass_tests phase1_block phase2_block refuse renew_on_wake reply_words request_refusal request_rules see_requests settle settle_begin settle_next settle_on_wake settlings signal_and_refuse spelling stop_of take_input time_out time_outs told_effects u32_at u32_bytes u64_at u64_bytes value_rules within_turn
exclusive_is_run = refl

exclusive_laws : IsSome (seek_each_daemon exclusive_end)
unfolding after_answer after_answer_of after_bytes after_end after_free after_input after_join_answer after_lease_answer after_renewal after_request_read after_see_request after_survey after_value_read area_next before_input begin_next begin_recoveries begin_recovery begins block_rules carry_decision carry_delta carry_lease checked_part count_event decided decoded delta_rules digits due due_step event_forms event_tests field_bytes fields_of finish finish_session first_change forms goes_on_with header_forms header_of header_tests initial_record instance_of join_on_wake kill_holders kills known leader_rules lease_next leave_holdings locks_after lvm_forms lvm_turn machine_of_header magic next_after_deciding next_after_first next_after_verify next_after_watch next_in_joining next_on_wake next_renewal on_exit on_line on_spawned on_wake own_rules padded_text pass_tests phase1_block phase2_block refuse renew_on_wake reply_words request_refusal request_rules see_requests settle settle_begin settle_next settle_on_wake settlings signal_and_refuse spelling stop_of take_input time_out time_outs told_effects u32_at u32_bytes u64_at u64_bytes value_rules within_turn
exclusive_laws = refl

exclusive_start : IsSome (seek_start world 1 exclusive_text quiet_resource false 7)
unfolding after_answer after_answer_of after_bytes after_end after_free after_input after_join_answer after_lease_answer after_renewal after_request_read after_see_request after_survey after_value_read area_next before_input begin_next begin_recoveries begin_recovery begins block_rules carry_decision carry_delta carry_lease checked_part count_event decided decoded delta_rules digits due due_step event_forms event_tests field_bytes fields_of finish finish_session first_change forms goes_on_with header_forms header_of header_tests initial_record instance_of join_on_wake kill_holders kills known leader_rules lease_next leave_holdings locks_after lvm_forms lvm_turn machine_of_header magic next_after_deciding next_after_first next_after_verify next_after_watch next_in_joining next_on_wake next_renewal on_exit on_line on_spawned on_wake own_rules padded_text pass_tests phase1_block phase2_block refuse renew_on_wake reply_words request_refusal request_rules see_requests settle settle_begin settle_next settle_on_wake settlings signal_and_refuse spelling stop_of take_input time_out time_outs told_effects u32_at u32_bytes u64_at u64_bytes value_rules within_turn
exclusive_start = refl

exclusive_quiet : IsSome (seek_quiet world exclusive_run 1 1 quiet_resource false 7 0)
unfolding after_answer after_answer_of after_bytes after_end after_free after_input after_join_answer after_lease_answer after_renewal after_request_read after_see_request after_survey after_value_read area_next before_input begin_next begin_recoveries begin_recovery begins block_rules carry_decision carry_delta carry_lease checked_part count_event decided decoded delta_rules digits due due_step event_forms event_tests field_bytes fields_of finish finish_session first_change forms goes_on_with header_forms header_of header_tests initial_record instance_of join_on_wake kill_holders kills known leader_rules lease_next leave_holdings locks_after lvm_forms lvm_turn machine_of_header magic next_after_deciding next_after_first next_after_verify next_after_watch next_in_joining next_on_wake next_renewal on_exit on_line on_spawned on_wake own_rules padded_text pass_tests phase1_block phase2_block refuse renew_on_wake reply_words request_refusal request_rules see_requests settle settle_begin settle_next settle_on_wake settlings signal_and_refuse spelling stop_of take_input time_out time_outs told_effects u32_at u32_bytes u64_at u64_bytes value_rules within_turn
exclusive_quiet = refl

exclusive_ends : IsSome (seek_ends exclusive_end 1 1 6 1)
unfolding after_answer after_answer_of after_bytes after_end after_free after_input after_join_answer after_lease_answer after_renewal after_request_read after_see_request after_survey after_value_read area_next before_input begin_next begin_recoveries begin_recovery begins block_rules carry_decision carry_delta carry_lease checked_part count_event decided decoded delta_rules digits due due_step event_forms event_tests field_bytes fields_of finish finish_session first_change forms goes_on_with header_forms header_of header_tests initial_record instance_of join_on_wake kill_holders kills known leader_rules lease_next leave_holdings locks_after lvm_forms lvm_turn machine_of_header magic next_after_deciding next_after_first next_after_verify next_after_watch next_in_joining next_on_wake next_renewal on_exit on_line on_spawned on_wake own_rules padded_text pass_tests phase1_block phase2_block refuse renew_on_wake reply_words request_refusal request_rules see_requests settle settle_begin settle_next settle_on_wake settlings signal_and_refuse spelling stop_of take_input time_out time_outs told_effects u32_at u32_bytes u64_at u64_bytes value_rules within_turn
exclusive_ends = refl

exclusive_each : EachDaemon Lawful exclusive_end
exclusive_each = found (seek_each_daemon exclusive_end) exclusive_laws

exclusive_is_lawful : LawfulRun cheap_program witness_header exclusive_run
exclusive_is_lawful =
    record {
      header = found (seek_header witness_header) header_found;
      digest = cheap_is_digest;
      is_run = found (seek_run world exclusive_events) exclusive_is_run;
      lawful = λ d has. (exclusive_each d has).orderly;
    }

exclusive_granted : IsQuietlyGranted exclusive_events exclusive_text false 6
exclusive_granted =
    let start : QuietStart world 1 exclusive_text quiet_resource false 7 = found (seek_start world 1 exclusive_text quiet_resource false 7) exclusive_start in
    let ends : Ends exclusive_end 1 1 6 1 = found (seek_ends exclusive_end 1 1 6 1) exclusive_ends in
    record {
      lawful = exclusive_is_lawful;
      each = exclusive_each;
      start = start;
      job = found (seek_for FirstJob (machine_at world 1) seek_job) job_found start.machine start.runs.0 start.daemon start.runs.1;
      session = found (seek_for FirstSession (machine_at world 1) seek_session) session_found start.machine start.runs.0 start.daemon start.runs.1 start.session start.named;
      stays = found (seek_quiet world exclusive_run 1 1 quiet_resource false 7 0) exclusive_quiet;
      machine = ends.machine;
      daemon = ends.daemon;
      after = ends.after;
      count = ends.count;
      granted = ends.granted;
    }

-- ---- shared

abbrev shared_run : List Happening
shared_run = due_run world shared_events

abbrev shared_end : World
shared_end = world_at cheap_program witness_header shared_run

shared_is_run : IsSome (seek_run world shared_events)
unfolding after_answer after_answer_of after_bytes after_end after_free after_input after_join_answer after_lease_answer after_renewal after_request_read after_see_request after_survey after_value_read area_next before_input begin_next begin_recoveries begin_recovery begins block_rules carry_decision carry_delta carry_lease checked_part count_event decided decoded delta_rules digits due due_step event_forms event_tests field_bytes fields_of finish finish_session first_change forms goes_on_with header_forms header_of header_tests initial_record instance_of join_on_wake kill_holders kills known leader_rules lease_next leave_holdings locks_after lvm_forms lvm_turn machine_of_header magic next_after_deciding next_after_first next_after_verify next_after_watch next_in_joining next_on_wake next_renewal on_exit on_line on_spawned on_wake own_rules padded_text pass_tests phase1_block phase2_block refuse renew_on_wake reply_words request_refusal request_rules see_requests settle settle_begin settle_next settle_on_wake settlings signal_and_refuse spelling stop_of take_input time_out time_outs told_effects u32_at u32_bytes u64_at u64_bytes value_rules within_turn
shared_is_run = refl

shared_laws : IsSome (seek_each_daemon shared_end)
unfolding after_answer after_answer_of after_bytes after_end after_free after_input after_join_answer after_lease_answer after_renewal after_request_read after_see_request after_survey after_value_read area_next before_input begin_next begin_recoveries begin_recovery begins block_rules carry_decision carry_delta carry_lease checked_part count_event decided decoded delta_rules digits due due_step event_forms event_tests field_bytes fields_of finish finish_session first_change forms goes_on_with header_forms header_of header_tests initial_record instance_of join_on_wake kill_holders kills known leader_rules lease_next leave_holdings locks_after lvm_forms lvm_turn machine_of_header magic next_after_deciding next_after_first next_after_verify next_after_watch next_in_joining next_on_wake next_renewal on_exit on_line on_spawned on_wake own_rules padded_text pass_tests phase1_block phase2_block refuse renew_on_wake reply_words request_refusal request_rules see_requests settle settle_begin settle_next settle_on_wake settlings signal_and_refuse spelling stop_of take_input time_out time_outs told_effects u32_at u32_bytes u64_at u64_bytes value_rules within_turn
shared_laws = refl

shared_start : IsSome (seek_start world 1 shared_text quiet_resource true 7)
unfolding after_answer after_answer_of after_bytes after_end after_free after_input after_join_answer after_lease_answer after_renewal after_request_read after_see_request after_survey after_value_read area_next before_input begin_next begin_recoveries begin_recovery begins block_rules carry_decision carry_delta carry_lease checked_part count_event decided decoded delta_rules digits due due_step event_forms event_tests field_bytes fields_of finish finish_session first_change forms goes_on_with header_forms header_of header_tests initial_record instance_of join_on_wake kill_holders kills known leader_rules lease_next leave_holdings locks_after lvm_forms lvm_turn machine_of_header magic next_after_deciding next_after_first next_after_verify next_after_watch next_in_joining next_on_wake next_renewal on_exit on_line on_spawned on_wake own_rules padded_text pass_tests phase1_block phase2_block refuse renew_on_wake reply_words request_refusal request_rules see_requests settle settle_begin settle_next settle_on_wake settlings signal_and_refuse spelling stop_of take_input time_out time_outs told_effects u32_at u32_bytes u64_at u64_bytes value_rules within_turn
shared_start = refl

shared_quiet : IsSome (seek_quiet world shared_run 1 1 quiet_resource true 7 0)
unfolding after_answer after_answer_of after_bytes after_end after_free after_input after_join_answer after_lease_answer after_renewal after_request_read after_see_request after_survey after_value_read area_next before_input begin_next begin_recoveries begin_recovery begins block_rules carry_decision carry_delta carry_lease checked_part count_event decided decoded delta_rules digits due due_step event_forms event_tests field_bytes fields_of finish finish_session first_change forms goes_on_with header_forms header_of header_tests initial_record instance_of join_on_wake kill_holders kills known leader_rules lease_next leave_holdings locks_after lvm_forms lvm_turn machine_of_header magic next_after_deciding next_after_first next_after_verify next_after_watch next_in_joining next_on_wake next_renewal on_exit on_line on_spawned on_wake own_rules padded_text pass_tests phase1_block phase2_block refuse renew_on_wake reply_words request_refusal request_rules see_requests settle settle_begin settle_next settle_on_wake settlings signal_and_refuse spelling stop_of take_input time_out time_outs told_effects u32_at u32_bytes u64_at u64_bytes value_rules within_turn
shared_quiet = refl

shared_ends : IsSome (seek_ends shared_end 1 1 8 1)
unfolding after_answer after_answer_of after_bytes after_end after_free after_input after_join_answer after_lease_answer after_renewal after_request_read after_see_request after_survey after_value_read area_next before_input begin_next begin_recoveries begin_recovery begins block_rules carry_decision carry_delta carry_lease checked_part count_event decided decoded delta_rules digits due due_step event_forms event_tests field_bytes fields_of finish finish_session first_change forms goes_on_with header_forms header_of header_tests initial_record instance_of join_on_wake kill_holders kills known leader_rules lease_next leave_holdings locks_after lvm_forms lvm_turn machine_of_header magic next_after_deciding next_after_first next_after_verify next_after_watch next_in_joining next_on_wake next_renewal on_exit on_line on_spawned on_wake own_rules padded_text pass_tests phase1_block phase2_block refuse renew_on_wake reply_words request_refusal request_rules see_requests settle settle_begin settle_next settle_on_wake settlings signal_and_refuse spelling stop_of take_input time_out time_outs told_effects u32_at u32_bytes u64_at u64_bytes value_rules within_turn
shared_ends = refl

shared_each : EachDaemon Lawful shared_end
shared_each = found (seek_each_daemon shared_end) shared_laws

shared_is_lawful : LawfulRun cheap_program witness_header shared_run
shared_is_lawful =
    record {
      header = found (seek_header witness_header) header_found;
      digest = cheap_is_digest;
      is_run = found (seek_run world shared_events) shared_is_run;
      lawful = λ d has. (shared_each d has).orderly;
    }

shared_granted : IsQuietlyGranted shared_events shared_text true 8
shared_granted =
    let start : QuietStart world 1 shared_text quiet_resource true 7 = found (seek_start world 1 shared_text quiet_resource true 7) shared_start in
    let ends : Ends shared_end 1 1 8 1 = found (seek_ends shared_end 1 1 8 1) shared_ends in
    record {
      lawful = shared_is_lawful;
      each = shared_each;
      start = start;
      job = found (seek_for FirstJob (machine_at world 1) seek_job) job_found start.machine start.runs.0 start.daemon start.runs.1;
      session = found (seek_for FirstSession (machine_at world 1) seek_session) session_found start.machine start.runs.0 start.daemon start.runs.1 start.session start.named;
      stays = found (seek_quiet world shared_run 1 1 quiet_resource true 7 0) shared_quiet;
      machine = ends.machine;
      daemon = ends.daemon;
      after = ends.after;
      count = ends.count;
      granted = ends.granted;
    }

pub quiet_acquires_are_shown : QuietAcquiresAreShown
quiet_acquires_are_shown = record { exclusive = exclusive_granted; shared = shared_granted }

-- The laws that refuse these traces.
use Rattle.sl_due.specs.Due.{after_input, before_input, due, due_step}
use Rattle.sl_due.specs.DueAnswers.{after_answer, after_answer_of}
use Rattle.sl_due.specs.DueCommands.{after_end, carry_decision, decided, on_line}
use Rattle.sl_due.specs.CarriedDelta.{after_free, after_join_answer, after_renewal, after_survey, carry_delta, see_requests}
use Rattle.sl_due.specs.DueRecovery.{begin_recoveries, begin_recovery, kill_holders, kills, signal_and_refuse}
use Rattle.sl_due.specs.DueTimeOuts.{refuse, time_out, time_outs}
use Rattle.sl_due.specs.DueInputs.{leave_holdings, on_exit, on_spawned, take_input}
use Rattle.sl_due.specs.CarriedLease.{after_lease_answer, carry_lease, settle}
use Rattle.sl_due.specs.DueRequests.{after_request_read, after_see_request, after_value_read, request_refusal}
use Rattle.sl_due.specs.DueWake.{finish, finish_session, join_on_wake, on_wake, renew_on_wake, settle_on_wake, settlings}
use Rattle.sl_examples.specs.HandmadeTraces.{broken_by}
use Rattle.sl_examples.specs.WorkedSchedules.{two_machines}
use Rattle.sl_trace.specs.Ballots.{instance_of, phase1_block, phase2_block, stop_of}
use Rattle.sl_trace.specs.LeaseDecisions.{after_bytes, area_next, begin_next, lease_next, settle_begin, settle_next, within_turn}
use Rattle.sl_trace.specs.Leases.{known}
use Rattle.sl_run.specs.Lvm.{begins, goes_on_with, lvm_turn}
use Rattle.sl_run.specs.LvmLines.{lvm_forms}
use Rattle.sl_report.specs.Reports.{count_event}
use Rattle.sl_report.specs.EventLines.{event_forms}
use Rattle.sl_report.specs.HeaderLines.{header_forms, header_of}
use Rattle.sl_report.specs.HeaderRefusals.{header_tests}
use Rattle.sl_run.specs.Refusals.{event_tests}
use Rattle.sl_run.specs.Premises.{pass_tests}
use Rattle.sl_run.specs.EventChanges.{first_change}
use Rattle.sl_run.specs.Locks.{locks_after, told_effects}
use Rattle.sl_run.specs.Worlds.{initial_record, machine_of_header}
use Rattle.sl_sector.specs.FieldBytes.{u32_at, u32_bytes, u64_at, u64_bytes}
use Rattle.sl_sector.specs.SectorLayouts.{block_rules, checked_part, decoded, delta_rules, field_bytes, fields_of, leader_rules, magic, own_rules, request_rules, spelling, value_rules}
use Rattle.sl_trace.specs.DeltaDecisions.{next_after_deciding, next_after_first, next_after_verify, next_after_watch, next_in_joining, next_on_wake, next_renewal}
use Rattle.sl_text.specs.Names.{padded_text}
use Rattle.sl_trace.specs.CommandForms.{forms}
use Rattle.sl_trace.specs.EffectTexts.{reply_words}
use Rattle.std.specs.Fmt.{digits}
use Rattle.std.specs.Prelude.{codes, refl, [], ◌++◌, ◌∷◌, ◌≡◌}
use Rattle.sl_examples.specs.RefusedTraces.{TracesAreRefused, acquire, after_the_free, before_joining, early_free, early_joining, early_read, freed_instance, hidden_free, higher_renewal, idle_removal, in_order_free, late_expiry, mode_and_vote, none, older_instance, other_lockspace, past_torn, registered_anew, same_renewal, second_write, shifted_grant, unregistered_read, value_unheld, written_watch}

pub overlapping_writes : broken_by (two_machines ++ acquire ∷ codes "do 1 1" ∷ codes "pass 100" ∷ codes "wake 1" ∷ []) 1 second_write ≡ ((3 ∷ []) ∷ [])
unfolding after_answer after_answer_of after_bytes after_end after_free after_input after_join_answer after_lease_answer after_renewal after_request_read after_see_request after_survey after_value_read area_next before_input begin_next begin_recoveries begin_recovery begins block_rules carry_decision carry_delta carry_lease checked_part count_event decided decoded delta_rules digits due due_step event_forms event_tests field_bytes fields_of finish finish_session first_change forms goes_on_with header_forms header_of header_tests initial_record instance_of join_on_wake kill_holders kills known leader_rules lease_next leave_holdings locks_after lvm_forms lvm_turn machine_of_header magic next_after_deciding next_after_first next_after_verify next_after_watch next_in_joining next_on_wake next_renewal on_exit on_line on_spawned on_wake own_rules padded_text pass_tests phase1_block phase2_block refuse renew_on_wake reply_words request_refusal request_rules see_requests settle settle_begin settle_next settle_on_wake settlings signal_and_refuse spelling stop_of take_input time_out time_outs told_effects u32_at u32_bytes u64_at u64_bytes value_rules within_turn
overlapping_writes = refl

pub freed_before_mode :
    broken_by (two_machines ++ codes "command 1 acquire -r ls:r:/d:1048576:SH -p 7" ∷ codes "do 1 1" ∷ codes "do 1 2" ∷ codes "do 1 3" ∷ codes "do 1 4" ∷ []) 1 early_free
    ≡ ([] ∷ [] ∷ [] ∷ (6 ∷ []) ∷ [])
unfolding after_answer after_answer_of after_bytes after_end after_free after_input after_join_answer after_lease_answer after_renewal after_request_read after_see_request after_survey after_value_read area_next before_input begin_next begin_recoveries begin_recovery begins block_rules carry_decision carry_delta carry_lease checked_part count_event decided decoded delta_rules digits due due_step event_forms event_tests field_bytes fields_of finish finish_session first_change forms goes_on_with header_forms header_of header_tests initial_record instance_of join_on_wake kill_holders kills known leader_rules lease_next leave_holdings locks_after lvm_forms lvm_turn machine_of_header magic next_after_deciding next_after_first next_after_verify next_after_watch next_in_joining next_on_wake next_renewal on_exit on_line on_spawned on_wake own_rules padded_text pass_tests phase1_block phase2_block refuse renew_on_wake reply_words request_refusal request_rules see_requests settle settle_begin settle_next settle_on_wake settlings signal_and_refuse spelling stop_of take_input time_out time_outs told_effects u32_at u32_bytes u64_at u64_bytes value_rules within_turn
freed_before_mode = refl

pub freed_after_mode :
    broken_by (two_machines ++ codes "command 1 acquire -r ls:r:/d:1048576:SH -p 7" ∷ codes "do 1 1" ∷ codes "do 1 2" ∷ codes "do 1 3" ∷ codes "do 1 4" ∷ []) 1 in_order_free
    ≡ ([] ∷ [] ∷ [] ∷ [])
unfolding after_answer after_answer_of after_bytes after_end after_free after_input after_join_answer after_lease_answer after_renewal after_request_read after_see_request after_survey after_value_read area_next before_input begin_next begin_recoveries begin_recovery begins block_rules carry_decision carry_delta carry_lease checked_part count_event decided decoded delta_rules digits due due_step event_forms event_tests field_bytes fields_of finish finish_session first_change forms goes_on_with header_forms header_of header_tests initial_record instance_of join_on_wake kill_holders kills known leader_rules lease_next leave_holdings locks_after lvm_forms lvm_turn machine_of_header magic next_after_deciding next_after_first next_after_verify next_after_watch next_in_joining next_on_wake next_renewal on_exit on_line on_spawned on_wake own_rules padded_text pass_tests phase1_block phase2_block refuse renew_on_wake reply_words request_refusal request_rules see_requests settle settle_begin settle_next settle_on_wake settlings signal_and_refuse spelling stop_of take_input time_out time_outs told_effects u32_at u32_bytes u64_at u64_bytes value_rules within_turn
freed_after_mode = refl

pub below_own_block :
    broken_by (two_machines ++ acquire ∷ codes "do 1 1" ∷ codes "do 1 2" ∷ codes "do 1 3" ∷ codes "do 1 4" ∷ codes "do 1 5" ∷ codes "do 1 6"
    ∷ codes "command 1 release -r ls:r:/d:1048576 -p 7" ∷ codes "do 1 7" ∷ acquire ∷ codes "do 1 8" ∷ codes "do 1 9" ∷ codes "do 1 10" ∷ codes "do 1 11" ∷ []) 1 older_instance
    ≡ ((4 ∷ []) ∷ [])
unfolding after_answer after_answer_of after_bytes after_end after_free after_input after_join_answer after_lease_answer after_renewal after_request_read after_see_request after_survey after_value_read area_next before_input begin_next begin_recoveries begin_recovery begins block_rules carry_decision carry_delta carry_lease checked_part count_event decided decoded delta_rules digits due due_step event_forms event_tests field_bytes fields_of finish finish_session first_change forms goes_on_with header_forms header_of header_tests initial_record instance_of join_on_wake kill_holders kills known leader_rules lease_next leave_holdings locks_after lvm_forms lvm_turn machine_of_header magic next_after_deciding next_after_first next_after_verify next_after_watch next_in_joining next_on_wake next_renewal on_exit on_line on_spawned on_wake own_rules padded_text pass_tests phase1_block phase2_block refuse renew_on_wake reply_words request_refusal request_rules see_requests settle settle_begin settle_next settle_on_wake settlings signal_and_refuse spelling stop_of take_input time_out time_outs told_effects u32_at u32_bytes u64_at u64_bytes value_rules within_turn
below_own_block = refl

pub freed_again :
    broken_by (two_machines ++ acquire ∷ codes "do 1 1" ∷ codes "do 1 2" ∷ codes "do 1 3" ∷ codes "do 1 4" ∷ codes "do 1 5" ∷ codes "do 1 6"
    ∷ codes "command 1 release -r ls:r:/d:1048576 -p 7" ∷ codes "do 1 7" ∷ []) 1 freed_instance
    ≡ ((4 ∷ []) ∷ [])
unfolding after_answer after_answer_of after_bytes after_end after_free after_input after_join_answer after_lease_answer after_renewal after_request_read after_see_request after_survey after_value_read area_next before_input begin_next begin_recoveries begin_recovery begins block_rules carry_decision carry_delta carry_lease checked_part count_event decided decoded delta_rules digits due due_step event_forms event_tests field_bytes fields_of finish finish_session first_change forms goes_on_with header_forms header_of header_tests initial_record instance_of join_on_wake kill_holders kills known leader_rules lease_next leave_holdings locks_after lvm_forms lvm_turn machine_of_header magic next_after_deciding next_after_first next_after_verify next_after_watch next_in_joining next_on_wake next_renewal on_exit on_line on_spawned on_wake own_rules padded_text pass_tests phase1_block phase2_block refuse renew_on_wake reply_words request_refusal request_rules see_requests settle settle_begin settle_next settle_on_wake settlings signal_and_refuse spelling stop_of take_input time_out time_outs told_effects u32_at u32_bytes u64_at u64_bytes value_rules within_turn
freed_again = refl

pub torn_block : broken_by (two_machines ++ acquire ∷ codes "do 1 1" ∷ codes "do 1 2" ∷ []) 1 past_torn ≡ ((4 ∷ []) ∷ [])
unfolding after_answer after_answer_of after_bytes after_end after_free after_input after_join_answer after_lease_answer after_renewal after_request_read after_see_request after_survey after_value_read area_next before_input begin_next begin_recoveries begin_recovery begins block_rules carry_decision carry_delta carry_lease checked_part count_event decided decoded delta_rules digits due due_step event_forms event_tests field_bytes fields_of finish finish_session first_change forms goes_on_with header_forms header_of header_tests initial_record instance_of join_on_wake kill_holders kills known leader_rules lease_next leave_holdings locks_after lvm_forms lvm_turn machine_of_header magic next_after_deciding next_after_first next_after_verify next_after_watch next_in_joining next_on_wake next_renewal on_exit on_line on_spawned on_wake own_rules padded_text pass_tests phase1_block phase2_block refuse renew_on_wake reply_words request_refusal request_rules see_requests settle settle_begin settle_next settle_on_wake settlings signal_and_refuse spelling stop_of take_input time_out time_outs told_effects u32_at u32_bytes u64_at u64_bytes value_rules within_turn
torn_block = refl

pub of_another : broken_by (two_machines ++ acquire ∷ []) 1 other_lockspace ≡ ((3 ∷ 4 ∷ []) ∷ [])
unfolding after_answer after_answer_of after_bytes after_end after_free after_input after_join_answer after_lease_answer after_renewal after_request_read after_see_request after_survey after_value_read area_next before_input begin_next begin_recoveries begin_recovery begins block_rules carry_decision carry_delta carry_lease checked_part count_event decided decoded delta_rules digits due due_step event_forms event_tests field_bytes fields_of finish finish_session first_change forms goes_on_with header_forms header_of header_tests initial_record instance_of join_on_wake kill_holders kills known leader_rules lease_next leave_holdings locks_after lvm_forms lvm_turn machine_of_header magic next_after_deciding next_after_first next_after_verify next_after_watch next_in_joining next_on_wake next_renewal on_exit on_line on_spawned on_wake own_rules padded_text pass_tests phase1_block phase2_block refuse renew_on_wake reply_words request_refusal request_rules see_requests settle settle_begin settle_next settle_on_wake settlings signal_and_refuse spelling stop_of take_input time_out time_outs told_effects u32_at u32_bytes u64_at u64_bytes value_rules within_turn
of_another = refl

pub not_joined : broken_by (none ++ codes "do 1 1" ∷ codes "do 1 2" ∷ codes "do 1 3" ∷ []) 1 before_joining ≡ ((3 ∷ []) ∷ [])
unfolding after_answer after_answer_of after_bytes after_end after_free after_input after_join_answer after_lease_answer after_renewal after_request_read after_see_request after_survey after_value_read area_next before_input begin_next begin_recoveries begin_recovery begins block_rules carry_decision carry_delta carry_lease checked_part count_event decided decoded delta_rules digits due due_step event_forms event_tests field_bytes fields_of finish finish_session first_change forms goes_on_with header_forms header_of header_tests initial_record instance_of join_on_wake kill_holders kills known leader_rules lease_next leave_holdings locks_after lvm_forms lvm_turn machine_of_header magic next_after_deciding next_after_first next_after_verify next_after_watch next_in_joining next_on_wake next_renewal on_exit on_line on_spawned on_wake own_rules padded_text pass_tests phase1_block phase2_block refuse renew_on_wake reply_words request_refusal request_rules see_requests settle settle_begin settle_next settle_on_wake settlings signal_and_refuse spelling stop_of take_input time_out time_outs told_effects u32_at u32_bytes u64_at u64_bytes value_rules within_turn
not_joined = refl

pub equal_renewal : broken_by (two_machines ++ codes "pass 200" ∷ []) 1 same_renewal ≡ ((2 ∷ []) ∷ [])
unfolding after_answer after_answer_of after_bytes after_end after_free after_input after_join_answer after_lease_answer after_renewal after_request_read after_see_request after_survey after_value_read area_next before_input begin_next begin_recoveries begin_recovery begins block_rules carry_decision carry_delta carry_lease checked_part count_event decided decoded delta_rules digits due due_step event_forms event_tests field_bytes fields_of finish finish_session first_change forms goes_on_with header_forms header_of header_tests initial_record instance_of join_on_wake kill_holders kills known leader_rules lease_next leave_holdings locks_after lvm_forms lvm_turn machine_of_header magic next_after_deciding next_after_first next_after_verify next_after_watch next_in_joining next_on_wake next_renewal on_exit on_line on_spawned on_wake own_rules padded_text pass_tests phase1_block phase2_block refuse renew_on_wake reply_words request_refusal request_rules see_requests settle settle_begin settle_next settle_on_wake settlings signal_and_refuse spelling stop_of take_input time_out time_outs told_effects u32_at u32_bytes u64_at u64_bytes value_rules within_turn
equal_renewal = refl

pub rising_renewal : broken_by (two_machines ++ codes "pass 200" ∷ []) 1 higher_renewal ≡ ([] ∷ [])
unfolding after_answer after_answer_of after_bytes after_end after_free after_input after_join_answer after_lease_answer after_renewal after_request_read after_see_request after_survey after_value_read area_next before_input begin_next begin_recoveries begin_recovery begins block_rules carry_decision carry_delta carry_lease checked_part count_event decided decoded delta_rules digits due due_step event_forms event_tests field_bytes fields_of finish finish_session first_change forms goes_on_with header_forms header_of header_tests initial_record instance_of join_on_wake kill_holders kills known leader_rules lease_next leave_holdings locks_after lvm_forms lvm_turn machine_of_header magic next_after_deciding next_after_first next_after_verify next_after_watch next_in_joining next_on_wake next_renewal on_exit on_line on_spawned on_wake own_rules padded_text pass_tests phase1_block phase2_block refuse renew_on_wake reply_words request_refusal request_rules see_requests settle settle_begin settle_next settle_on_wake settlings signal_and_refuse spelling stop_of take_input time_out time_outs told_effects u32_at u32_bytes u64_at u64_bytes value_rules within_turn
rising_renewal = refl

pub vote_undone :
    broken_by (two_machines ++ codes "command 1 acquire -r ls:r:/d:1048576:SH -p 7" ∷ codes "do 1 1" ∷ codes "do 1 2" ∷ codes "do 1 3" ∷ codes "do 1 4" ∷ codes "do 1 5" ∷ []) 1 mode_and_vote
    ≡ ((4 ∷ []) ∷ [])
unfolding after_answer after_answer_of after_bytes after_end after_free after_input after_join_answer after_lease_answer after_renewal after_request_read after_see_request after_survey after_value_read area_next before_input begin_next begin_recoveries begin_recovery begins block_rules carry_decision carry_delta carry_lease checked_part count_event decided decoded delta_rules digits due due_step event_forms event_tests field_bytes fields_of finish finish_session first_change forms goes_on_with header_forms header_of header_tests initial_record instance_of join_on_wake kill_holders kills known leader_rules lease_next leave_holdings locks_after lvm_forms lvm_turn machine_of_header magic next_after_deciding next_after_first next_after_verify next_after_watch next_in_joining next_on_wake next_renewal on_exit on_line on_spawned on_wake own_rules padded_text pass_tests phase1_block phase2_block refuse renew_on_wake reply_words request_refusal request_rules see_requests settle settle_begin settle_next settle_on_wake settlings signal_and_refuse spelling stop_of take_input time_out time_outs told_effects u32_at u32_bytes u64_at u64_bytes value_rules within_turn
vote_undone = refl

pub connection_removed : broken_by two_machines 1 idle_removal ≡ ((9 ∷ []) ∷ [])
unfolding after_answer after_answer_of after_bytes after_end after_free after_input after_join_answer after_lease_answer after_renewal after_request_read after_see_request after_survey after_value_read area_next before_input begin_next begin_recoveries begin_recovery begins block_rules carry_decision carry_delta carry_lease checked_part count_event decided decoded delta_rules digits due due_step event_forms event_tests field_bytes fields_of finish finish_session first_change forms goes_on_with header_forms header_of header_tests initial_record instance_of join_on_wake kill_holders kills known leader_rules lease_next leave_holdings locks_after lvm_forms lvm_turn machine_of_header magic next_after_deciding next_after_first next_after_verify next_after_watch next_in_joining next_on_wake next_renewal on_exit on_line on_spawned on_wake own_rules padded_text pass_tests phase1_block phase2_block refuse renew_on_wake reply_words request_refusal request_rules see_requests settle settle_begin settle_next settle_on_wake settlings signal_and_refuse spelling stop_of take_input time_out time_outs told_effects u32_at u32_bytes u64_at u64_bytes value_rules within_turn
connection_removed = refl

pub expiry_too_late : broken_by (two_machines ++ codes "pass 200" ∷ codes "wake 1" ∷ codes "pass 90" ∷ []) 1 late_expiry ≡ ((7 ∷ []) ∷ [])
unfolding after_answer after_answer_of after_bytes after_end after_free after_input after_join_answer after_lease_answer after_renewal after_request_read after_see_request after_survey after_value_read area_next before_input begin_next begin_recoveries begin_recovery begins block_rules carry_decision carry_delta carry_lease checked_part count_event decided decoded delta_rules digits due due_step event_forms event_tests field_bytes fields_of finish finish_session first_change forms goes_on_with header_forms header_of header_tests initial_record instance_of join_on_wake kill_holders kills known leader_rules lease_next leave_holdings locks_after lvm_forms lvm_turn machine_of_header magic next_after_deciding next_after_first next_after_verify next_after_watch next_in_joining next_on_wake next_renewal on_exit on_line on_spawned on_wake own_rules padded_text pass_tests phase1_block phase2_block refuse renew_on_wake reply_words request_refusal request_rules see_requests settle settle_begin settle_next settle_on_wake settlings signal_and_refuse spelling stop_of take_input time_out time_outs told_effects u32_at u32_bytes u64_at u64_bytes value_rules within_turn
expiry_too_late = refl

pub deciding_unregistered : broken_by none 1 unregistered_read ≡ ((2 ∷ 7 ∷ []) ∷ [])
unfolding after_answer after_answer_of after_bytes after_end after_free after_input after_join_answer after_lease_answer after_renewal after_request_read after_see_request after_survey after_value_read area_next before_input begin_next begin_recoveries begin_recovery begins block_rules carry_decision carry_delta carry_lease checked_part count_event decided decoded delta_rules digits due due_step event_forms event_tests field_bytes fields_of finish finish_session first_change forms goes_on_with header_forms header_of header_tests initial_record instance_of join_on_wake kill_holders kills known leader_rules lease_next leave_holdings locks_after lvm_forms lvm_turn machine_of_header magic next_after_deciding next_after_first next_after_verify next_after_watch next_in_joining next_on_wake next_renewal on_exit on_line on_spawned on_wake own_rules padded_text pass_tests phase1_block phase2_block refuse renew_on_wake reply_words request_refusal request_rules see_requests settle settle_begin settle_next settle_on_wake settlings signal_and_refuse spelling stop_of take_input time_out time_outs told_effects u32_at u32_bytes u64_at u64_bytes value_rules within_turn
deciding_unregistered = refl

pub call_after_free : broken_by (two_machines ++ codes "command 1 rem_lockspace -s ls:1:/d:0" ∷ []) 1 after_the_free ≡ ((1 ∷ 2 ∷ []) ∷ [])
unfolding after_answer after_answer_of after_bytes after_end after_free after_input after_join_answer after_lease_answer after_renewal after_request_read after_see_request after_survey after_value_read area_next before_input begin_next begin_recoveries begin_recovery begins block_rules carry_decision carry_delta carry_lease checked_part count_event decided decoded delta_rules digits due due_step event_forms event_tests field_bytes fields_of finish finish_session first_change forms goes_on_with header_forms header_of header_tests initial_record instance_of join_on_wake kill_holders kills known leader_rules lease_next leave_holdings locks_after lvm_forms lvm_turn machine_of_header magic next_after_deciding next_after_first next_after_verify next_after_watch next_in_joining next_on_wake next_renewal on_exit on_line on_spawned on_wake own_rules padded_text pass_tests phase1_block phase2_block refuse renew_on_wake reply_words request_refusal request_rules see_requests settle settle_begin settle_next settle_on_wake settlings signal_and_refuse spelling stop_of take_input time_out time_outs told_effects u32_at u32_bytes u64_at u64_bytes value_rules within_turn
call_after_free = refl

pub value_without_holding : broken_by (two_machines ++ acquire ∷ codes "do 1 1" ∷ codes "answer 1 2 failed" ∷ []) 1 value_unheld ≡ ((10 ∷ []) ∷ [])
unfolding after_answer after_answer_of after_bytes after_end after_free after_input after_join_answer after_lease_answer after_renewal after_request_read after_see_request after_survey after_value_read area_next before_input begin_next begin_recoveries begin_recovery begins block_rules carry_decision carry_delta carry_lease checked_part count_event decided decoded delta_rules digits due due_step event_forms event_tests field_bytes fields_of finish finish_session first_change forms goes_on_with header_forms header_of header_tests initial_record instance_of join_on_wake kill_holders kills known leader_rules lease_next leave_holdings locks_after lvm_forms lvm_turn machine_of_header magic next_after_deciding next_after_first next_after_verify next_after_watch next_in_joining next_on_wake next_renewal on_exit on_line on_spawned on_wake own_rules padded_text pass_tests phase1_block phase2_block refuse renew_on_wake reply_words request_refusal request_rules see_requests settle settle_begin settle_next settle_on_wake settlings signal_and_refuse spelling stop_of take_input time_out time_outs told_effects u32_at u32_bytes u64_at u64_bytes value_rules within_turn
value_without_holding = refl

pub connection_anew :
    broken_by (none ++ codes "do 1 1" ∷ codes "do 1 2" ∷ codes "do 1 3" ∷ codes "pass 600" ∷ codes "test 1" ∷ codes "pass 600" ∷ codes "test 1" ∷ codes "pass 301"
    ∷ codes "wake 1" ∷ codes "test 1" ∷ codes "pass 200" ∷ []) 1 registered_anew
    ≡ ((7 ∷ []) ∷ [])
unfolding after_answer after_answer_of after_bytes after_end after_free after_input after_join_answer after_lease_answer after_renewal after_request_read after_see_request after_survey after_value_read area_next before_input begin_next begin_recoveries begin_recovery begins block_rules carry_decision carry_delta carry_lease checked_part count_event decided decoded delta_rules digits due due_step event_forms event_tests field_bytes fields_of finish finish_session first_change forms goes_on_with header_forms header_of header_tests initial_record instance_of join_on_wake kill_holders kills known leader_rules lease_next leave_holdings locks_after lvm_forms lvm_turn machine_of_header magic next_after_deciding next_after_first next_after_verify next_after_watch next_in_joining next_on_wake next_renewal on_exit on_line on_spawned on_wake own_rules padded_text pass_tests phase1_block phase2_block refuse renew_on_wake reply_words request_refusal request_rules see_requests settle settle_begin settle_next settle_on_wake settlings signal_and_refuse spelling stop_of take_input time_out time_outs told_effects u32_at u32_bytes u64_at u64_bytes value_rules within_turn
connection_anew = refl

pub read_before_answer : broken_by (two_machines ++ acquire ∷ codes "do 1 1" ∷ codes "do 1 2" ∷ codes "do 1 3" ∷ []) 1 early_read ≡ ((3 ∷ 4 ∷ []) ∷ [])
unfolding after_answer after_answer_of after_bytes after_end after_free after_input after_join_answer after_lease_answer after_renewal after_request_read after_see_request after_survey after_value_read area_next before_input begin_next begin_recoveries begin_recovery begins block_rules carry_decision carry_delta carry_lease checked_part count_event decided decoded delta_rules digits due due_step event_forms event_tests field_bytes fields_of finish finish_session first_change forms goes_on_with header_forms header_of header_tests initial_record instance_of join_on_wake kill_holders kills known leader_rules lease_next leave_holdings locks_after lvm_forms lvm_turn machine_of_header magic next_after_deciding next_after_first next_after_verify next_after_watch next_in_joining next_on_wake next_renewal on_exit on_line on_spawned on_wake own_rules padded_text pass_tests phase1_block phase2_block refuse renew_on_wake reply_words request_refusal request_rules see_requests settle settle_begin settle_next settle_on_wake settlings signal_and_refuse spelling stop_of take_input time_out time_outs told_effects u32_at u32_bytes u64_at u64_bytes value_rules within_turn
read_before_answer = refl

pub joined_by_claim : broken_by (none ++ codes "do 1 1" ∷ codes "do 1 2" ∷ []) 1 early_joining ≡ ((2 ∷ []) ∷ [])
unfolding after_answer after_answer_of after_bytes after_end after_free after_input after_join_answer after_lease_answer after_renewal after_request_read after_see_request after_survey after_value_read area_next before_input begin_next begin_recoveries begin_recovery begins block_rules carry_decision carry_delta carry_lease checked_part count_event decided decoded delta_rules digits due due_step event_forms event_tests field_bytes fields_of finish finish_session first_change forms goes_on_with header_forms header_of header_tests initial_record instance_of join_on_wake kill_holders kills known leader_rules lease_next leave_holdings locks_after lvm_forms lvm_turn machine_of_header magic next_after_deciding next_after_first next_after_verify next_after_watch next_in_joining next_on_wake next_renewal on_exit on_line on_spawned on_wake own_rules padded_text pass_tests phase1_block phase2_block refuse renew_on_wake reply_words request_refusal request_rules see_requests settle settle_begin settle_next settle_on_wake settlings signal_and_refuse spelling stop_of take_input time_out time_outs told_effects u32_at u32_bytes u64_at u64_bytes value_rules within_turn
joined_by_claim = refl

pub watch_that_writes : broken_by none 1 written_watch ≡ ((2 ∷ []) ∷ [])
unfolding after_answer after_answer_of after_bytes after_end after_free after_input after_join_answer after_lease_answer after_renewal after_request_read after_see_request after_survey after_value_read area_next before_input begin_next begin_recoveries begin_recovery begins block_rules carry_decision carry_delta carry_lease checked_part count_event decided decoded delta_rules digits due due_step event_forms event_tests field_bytes fields_of finish finish_session first_change forms goes_on_with header_forms header_of header_tests initial_record instance_of join_on_wake kill_holders kills known leader_rules lease_next leave_holdings locks_after lvm_forms lvm_turn machine_of_header magic next_after_deciding next_after_first next_after_verify next_after_watch next_in_joining next_on_wake next_renewal on_exit on_line on_spawned on_wake own_rules padded_text pass_tests phase1_block phase2_block refuse renew_on_wake reply_words request_refusal request_rules see_requests settle settle_begin settle_next settle_on_wake settlings signal_and_refuse spelling stop_of take_input time_out time_outs told_effects u32_at u32_bytes u64_at u64_bytes value_rules within_turn
watch_that_writes = refl

pub free_by_asking :
    broken_by (two_machines ++ acquire ∷ codes "do 1 1" ∷ codes "do 1 2" ∷ codes "do 1 3" ∷ codes "do 1 4" ∷ []) 1 hidden_free ≡ ((5 ∷ []) ∷ [])
unfolding after_answer after_answer_of after_bytes after_end after_free after_input after_join_answer after_lease_answer after_renewal after_request_read after_see_request after_survey after_value_read area_next before_input begin_next begin_recoveries begin_recovery begins block_rules carry_decision carry_delta carry_lease checked_part count_event decided decoded delta_rules digits due due_step event_forms event_tests field_bytes fields_of finish finish_session first_change forms goes_on_with header_forms header_of header_tests initial_record instance_of join_on_wake kill_holders kills known leader_rules lease_next leave_holdings locks_after lvm_forms lvm_turn machine_of_header magic next_after_deciding next_after_first next_after_verify next_after_watch next_in_joining next_on_wake next_renewal on_exit on_line on_spawned on_wake own_rules padded_text pass_tests phase1_block phase2_block refuse renew_on_wake reply_words request_refusal request_rules see_requests settle settle_begin settle_next settle_on_wake settlings signal_and_refuse spelling stop_of take_input time_out time_outs told_effects u32_at u32_bytes u64_at u64_bytes value_rules within_turn
free_by_asking = refl

pub grant_off_its_area :
    broken_by (two_machines ++ acquire ∷ codes "do 1 1" ∷ codes "do 1 2" ∷ codes "do 1 3" ∷ codes "do 1 4" ∷ codes "do 1 5" ∷ []) 1 shifted_grant
    ≡ ((8 ∷ []) ∷ [])
unfolding after_answer after_answer_of after_bytes after_end after_free after_input after_join_answer after_lease_answer after_renewal after_request_read after_see_request after_survey after_value_read area_next before_input begin_next begin_recoveries begin_recovery begins block_rules carry_decision carry_delta carry_lease checked_part count_event decided decoded delta_rules digits due due_step event_forms event_tests field_bytes fields_of finish finish_session first_change forms goes_on_with header_forms header_of header_tests initial_record instance_of join_on_wake kill_holders kills known leader_rules lease_next leave_holdings locks_after lvm_forms lvm_turn machine_of_header magic next_after_deciding next_after_first next_after_verify next_after_watch next_in_joining next_on_wake next_renewal on_exit on_line on_spawned on_wake own_rules padded_text pass_tests phase1_block phase2_block refuse renew_on_wake reply_words request_refusal request_rules see_requests settle settle_begin settle_next settle_on_wake settlings signal_and_refuse spelling stop_of take_input time_out time_outs told_effects u32_at u32_bytes u64_at u64_bytes value_rules within_turn
grant_off_its_area = refl

-- All of them.
pub traces_are_refused : TracesAreRefused
traces_are_refused = record {
  overlapping_writes = overlapping_writes;
  freed_before_mode = freed_before_mode;
  freed_after_mode = freed_after_mode;
  below_own_block = below_own_block;
  freed_again = freed_again;
  torn_block = torn_block;
  of_another = of_another;
  not_joined = not_joined;
  equal_renewal = equal_renewal;
  rising_renewal = rising_renewal;
  vote_undone = vote_undone;
  connection_removed = connection_removed;
  expiry_too_late = expiry_too_late;
  deciding_unregistered = deciding_unregistered;
  call_after_free = call_after_free;
  value_without_holding = value_without_holding;
  connection_anew = connection_anew;
  read_before_answer = read_before_answer;
  joined_by_claim = joined_by_claim;
  watch_that_writes = watch_that_writes;
  free_by_asking = free_by_asking;
  grant_off_its_area = grant_off_its_area;
}

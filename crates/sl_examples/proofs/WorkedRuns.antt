-- The worked schedules, each with what is shown of its run: its report, that its traces keep the laws, that it is safe after each event. What is
-- said of one schedule stands in one declaration, which computes its run once.
use Rattle.sl_due.specs.Due.{after_input, before_input, due, due_step}
use Rattle.sl_due.specs.DueAnswers.{after_answer, after_answer_of}
use Rattle.sl_due.specs.DueCommands.{after_end, carry_decision, decided, on_line}
use Rattle.sl_due.specs.CarriedDelta.{after_free, after_join_answer, after_renewal, after_survey, carry_delta, see_requests}
use Rattle.sl_due.specs.DueRecovery.{begin_recoveries, begin_recovery, kill_holders, kills, signal_and_refuse}
use Rattle.sl_due.specs.DueTimeOuts.{refuse, time_out, time_outs}
use Rattle.sl_due.specs.DueInputs.{leave_holdings, on_exit, on_spawned, take_input}
use Rattle.sl_due.specs.CarriedLease.{after_lease_answer, carry_lease, settle}
use Rattle.sl_due.specs.DueRequests.{after_request_read, after_see_request, after_value_read, request_refusal}
use Rattle.sl_due.specs.DueWake.{finish, finish_session, join_on_wake, on_wake, renew_on_wake, settle_on_wake, settlings}
use Rattle.sl_trace.specs.Ballots.{instance_of, phase1_block, phase2_block, stop_of}
use Rattle.sl_trace.specs.LeaseDecisions.{after_bytes, area_next, begin_next, lease_next, settle_begin, settle_next, within_turn}
use Rattle.sl_trace.specs.Leases.{known}
use Rattle.sl_run.specs.Lvm.{begins, goes_on_with, lvm_turn}
use Rattle.sl_run.specs.LvmLines.{lvm_forms}
use Rattle.sl_report.specs.Reports.{count_event}
use Rattle.sl_report.specs.EventLines.{event_forms}
use Rattle.sl_report.specs.HeaderLines.{header_forms, header_of}
use Rattle.sl_report.specs.HeaderRefusals.{header_tests}
use Rattle.sl_run.specs.Refusals.{event_tests}
use Rattle.sl_run.specs.Premises.{pass_tests}
use Rattle.sl_run.specs.EventChanges.{first_change}
use Rattle.sl_run.specs.Locks.{locks_after, told_effects}
use Rattle.sl_run.specs.Worlds.{initial_record, machine_of_header}
use Rattle.sl_sector.specs.FieldBytes.{u32_at, u32_bytes, u64_at, u64_bytes}
use Rattle.sl_sector.specs.SectorLayouts.{block_rules, checked_part, decoded, delta_rules, field_bytes, fields_of, leader_rules, magic, own_rules, request_rules, spelling, value_rules}
use Rattle.sl_trace.specs.DeltaDecisions.{next_after_deciding, next_after_first, next_after_verify, next_after_watch, next_in_joining, next_on_wake, next_renewal}
use Rattle.sl_text.specs.Names.{padded_text}
use Rattle.sl_trace.specs.CommandForms.{forms}
use Rattle.sl_trace.specs.EffectTexts.{reply_words}
use Rattle.std.specs.Fmt.{digits}
use Rattle.sl_examples.specs.LaterSchedules.{orphan_kept, orphan_stops_leaving, converted_both_ways, conversion_refused, kill_program_not_started, kill_program_by_request, group_lock, volume_held_elsewhere}
use Rattle.sl_examples.specs.WorkedSchedules.{Row, failing, acquire_and_release, answer_after_its_session, crash_with_holder, late_landing, leaving, owner_reset_then_taken_over, recovery, recovery_with_write, refusals, request, rival, settled_win, shared, torn_phase2, torn_twice, torn_value, torn_with_pairs, two_claims}
use Rattle.sl_examples.specs.WorldTests.{keeps_laws, replays, stays_safe}
use Rattle.std.proofs.Common.{ap, ◌∙◌}
use Rattle.std.specs.Prelude.{Bool, List, cond, filter, map, not, refl, true, [], ◌∷◌, ◌≡◌}

-- Each row passes.
abbrev pub EachPasses : (Row → Bool) → List Row → Type 0
EachPasses p [] = Unit {0}
EachPasses p (r ∷ rows) = (p r ≡ true) × EachPasses p rows

-- A row that passes is none of those that fail.
passed : (p : Row → Bool) (r : Row) (rows : List Row) → p r ≡ true → failing p (r ∷ rows) ≡ failing p rows
passed p r rows is = ap (λ b. map (λ (q : Row). q.name) (cond (not b) (r ∷ filter (λ q. not (p q)) rows) (filter (λ q. not (p q)) rows))) is

pub none_fails : (p : Row → Bool) (rows : List Row) → EachPasses p rows → failing p rows ≡ []
none_fails p [] all = refl
none_fails p (r ∷ rows) (is, rest) = passed p r rows is ∙ none_fails p rows rest

-- What is shown of a whole run.
pub record IsShown (r : Row) : Type 0 where
  pub replayed : replays r ≡ true
  pub lawful : keeps_laws r ≡ true
  pub safe : stays_safe r ≡ true

pub acquire_and_release_shown : IsShown acquire_and_release
unfolding after_answer after_answer_of after_bytes after_end after_free after_input after_join_answer after_lease_answer after_renewal after_request_read after_see_request after_survey after_value_read area_next before_input begin_next begin_recoveries begin_recovery begins block_rules carry_decision carry_delta carry_lease checked_part count_event decided decoded delta_rules digits due due_step event_forms event_tests field_bytes fields_of finish finish_session first_change forms goes_on_with header_forms header_of header_tests initial_record instance_of join_on_wake kill_holders kills known leader_rules lease_next leave_holdings locks_after lvm_forms lvm_turn machine_of_header magic next_after_deciding next_after_first next_after_verify next_after_watch next_in_joining next_on_wake next_renewal on_exit on_line on_spawned on_wake own_rules padded_text pass_tests phase1_block phase2_block refuse renew_on_wake reply_words request_refusal request_rules see_requests settle settle_begin settle_next settle_on_wake settlings signal_and_refuse spelling stop_of take_input time_out time_outs told_effects u32_at u32_bytes u64_at u64_bytes value_rules within_turn
acquire_and_release_shown = record { replayed = refl; lawful = refl; safe = refl }

pub settled_win_shown : IsShown settled_win
unfolding after_answer after_answer_of after_bytes after_end after_free after_input after_join_answer after_lease_answer after_renewal after_request_read after_see_request after_survey after_value_read area_next before_input begin_next begin_recoveries begin_recovery begins block_rules carry_decision carry_delta carry_lease checked_part count_event decided decoded delta_rules digits due due_step event_forms event_tests field_bytes fields_of finish finish_session first_change forms goes_on_with header_forms header_of header_tests initial_record instance_of join_on_wake kill_holders kills known leader_rules lease_next leave_holdings locks_after lvm_forms lvm_turn machine_of_header magic next_after_deciding next_after_first next_after_verify next_after_watch next_in_joining next_on_wake next_renewal on_exit on_line on_spawned on_wake own_rules padded_text pass_tests phase1_block phase2_block refuse renew_on_wake reply_words request_refusal request_rules see_requests settle settle_begin settle_next settle_on_wake settlings signal_and_refuse spelling stop_of take_input time_out time_outs told_effects u32_at u32_bytes u64_at u64_bytes value_rules within_turn
settled_win_shown = record { replayed = refl; lawful = refl; safe = refl }

pub rival_shown : IsShown rival
unfolding after_answer after_answer_of after_bytes after_end after_free after_input after_join_answer after_lease_answer after_renewal after_request_read after_see_request after_survey after_value_read area_next before_input begin_next begin_recoveries begin_recovery begins block_rules carry_decision carry_delta carry_lease checked_part count_event decided decoded delta_rules digits due due_step event_forms event_tests field_bytes fields_of finish finish_session first_change forms goes_on_with header_forms header_of header_tests initial_record instance_of join_on_wake kill_holders kills known leader_rules lease_next leave_holdings locks_after lvm_forms lvm_turn machine_of_header magic next_after_deciding next_after_first next_after_verify next_after_watch next_in_joining next_on_wake next_renewal on_exit on_line on_spawned on_wake own_rules padded_text pass_tests phase1_block phase2_block refuse renew_on_wake reply_words request_refusal request_rules see_requests settle settle_begin settle_next settle_on_wake settlings signal_and_refuse spelling stop_of take_input time_out time_outs told_effects u32_at u32_bytes u64_at u64_bytes value_rules within_turn
rival_shown = record { replayed = refl; lawful = refl; safe = refl }

pub torn_phase2_shown : IsShown torn_phase2
unfolding after_answer after_answer_of after_bytes after_end after_free after_input after_join_answer after_lease_answer after_renewal after_request_read after_see_request after_survey after_value_read area_next before_input begin_next begin_recoveries begin_recovery begins block_rules carry_decision carry_delta carry_lease checked_part count_event decided decoded delta_rules digits due due_step event_forms event_tests field_bytes fields_of finish finish_session first_change forms goes_on_with header_forms header_of header_tests initial_record instance_of join_on_wake kill_holders kills known leader_rules lease_next leave_holdings locks_after lvm_forms lvm_turn machine_of_header magic next_after_deciding next_after_first next_after_verify next_after_watch next_in_joining next_on_wake next_renewal on_exit on_line on_spawned on_wake own_rules padded_text pass_tests phase1_block phase2_block refuse renew_on_wake reply_words request_refusal request_rules see_requests settle settle_begin settle_next settle_on_wake settlings signal_and_refuse spelling stop_of take_input time_out time_outs told_effects u32_at u32_bytes u64_at u64_bytes value_rules within_turn
torn_phase2_shown = record { replayed = refl; lawful = refl; safe = refl }

pub refusals_replayed : replays refusals ≡ true
unfolding after_answer after_answer_of after_bytes after_end after_free after_input after_join_answer after_lease_answer after_renewal after_request_read after_see_request after_survey after_value_read area_next before_input begin_next begin_recoveries begin_recovery begins block_rules carry_decision carry_delta carry_lease checked_part count_event decided decoded delta_rules digits due due_step event_forms event_tests field_bytes fields_of finish finish_session first_change forms goes_on_with header_forms header_of header_tests initial_record instance_of join_on_wake kill_holders kills known leader_rules lease_next leave_holdings locks_after lvm_forms lvm_turn machine_of_header magic next_after_deciding next_after_first next_after_verify next_after_watch next_in_joining next_on_wake next_renewal on_exit on_line on_spawned on_wake own_rules padded_text pass_tests phase1_block phase2_block refuse renew_on_wake reply_words request_refusal request_rules see_requests settle settle_begin settle_next settle_on_wake settlings signal_and_refuse spelling stop_of take_input time_out time_outs told_effects u32_at u32_bytes u64_at u64_bytes value_rules within_turn
refusals_replayed = refl

pub two_claims_shown : IsShown two_claims
unfolding after_answer after_answer_of after_bytes after_end after_free after_input after_join_answer after_lease_answer after_renewal after_request_read after_see_request after_survey after_value_read area_next before_input begin_next begin_recoveries begin_recovery begins block_rules carry_decision carry_delta carry_lease checked_part count_event decided decoded delta_rules digits due due_step event_forms event_tests field_bytes fields_of finish finish_session first_change forms goes_on_with header_forms header_of header_tests initial_record instance_of join_on_wake kill_holders kills known leader_rules lease_next leave_holdings locks_after lvm_forms lvm_turn machine_of_header magic next_after_deciding next_after_first next_after_verify next_after_watch next_in_joining next_on_wake next_renewal on_exit on_line on_spawned on_wake own_rules padded_text pass_tests phase1_block phase2_block refuse renew_on_wake reply_words request_refusal request_rules see_requests settle settle_begin settle_next settle_on_wake settlings signal_and_refuse spelling stop_of take_input time_out time_outs told_effects u32_at u32_bytes u64_at u64_bytes value_rules within_turn
two_claims_shown = record { replayed = refl; lawful = refl; safe = refl }

pub answer_after_its_session_replayed : replays answer_after_its_session ≡ true
unfolding after_answer after_answer_of after_bytes after_end after_free after_input after_join_answer after_lease_answer after_renewal after_request_read after_see_request after_survey after_value_read area_next before_input begin_next begin_recoveries begin_recovery begins block_rules carry_decision carry_delta carry_lease checked_part count_event decided decoded delta_rules digits due due_step event_forms event_tests field_bytes fields_of finish finish_session first_change forms goes_on_with header_forms header_of header_tests initial_record instance_of join_on_wake kill_holders kills known leader_rules lease_next leave_holdings locks_after lvm_forms lvm_turn machine_of_header magic next_after_deciding next_after_first next_after_verify next_after_watch next_in_joining next_on_wake next_renewal on_exit on_line on_spawned on_wake own_rules padded_text pass_tests phase1_block phase2_block refuse renew_on_wake reply_words request_refusal request_rules see_requests settle settle_begin settle_next settle_on_wake settlings signal_and_refuse spelling stop_of take_input time_out time_outs told_effects u32_at u32_bytes u64_at u64_bytes value_rules within_turn
answer_after_its_session_replayed = refl

pub owner_reset_replayed : replays owner_reset_then_taken_over ≡ true
unfolding after_answer after_answer_of after_bytes after_end after_free after_input after_join_answer after_lease_answer after_renewal after_request_read after_see_request after_survey after_value_read area_next before_input begin_next begin_recoveries begin_recovery begins block_rules carry_decision carry_delta carry_lease checked_part count_event decided decoded delta_rules digits due due_step event_forms event_tests field_bytes fields_of finish finish_session first_change forms goes_on_with header_forms header_of header_tests initial_record instance_of join_on_wake kill_holders kills known leader_rules lease_next leave_holdings locks_after lvm_forms lvm_turn machine_of_header magic next_after_deciding next_after_first next_after_verify next_after_watch next_in_joining next_on_wake next_renewal on_exit on_line on_spawned on_wake own_rules padded_text pass_tests phase1_block phase2_block refuse renew_on_wake reply_words request_refusal request_rules see_requests settle settle_begin settle_next settle_on_wake settlings signal_and_refuse spelling stop_of take_input time_out time_outs told_effects u32_at u32_bytes u64_at u64_bytes value_rules within_turn
owner_reset_replayed = refl

pub owner_reset_lawful : keeps_laws owner_reset_then_taken_over ≡ true
unfolding after_answer after_answer_of after_bytes after_end after_free after_input after_join_answer after_lease_answer after_renewal after_request_read after_see_request after_survey after_value_read area_next before_input begin_next begin_recoveries begin_recovery begins block_rules carry_decision carry_delta carry_lease checked_part count_event decided decoded delta_rules digits due due_step event_forms event_tests field_bytes fields_of finish finish_session first_change forms goes_on_with header_forms header_of header_tests initial_record instance_of join_on_wake kill_holders kills known leader_rules lease_next leave_holdings locks_after lvm_forms lvm_turn machine_of_header magic next_after_deciding next_after_first next_after_verify next_after_watch next_in_joining next_on_wake next_renewal on_exit on_line on_spawned on_wake own_rules padded_text pass_tests phase1_block phase2_block refuse renew_on_wake reply_words request_refusal request_rules see_requests settle settle_begin settle_next settle_on_wake settlings signal_and_refuse spelling stop_of take_input time_out time_outs told_effects u32_at u32_bytes u64_at u64_bytes value_rules within_turn
owner_reset_lawful = refl

pub owner_reset_safe : stays_safe owner_reset_then_taken_over ≡ true
unfolding after_answer after_answer_of after_bytes after_end after_free after_input after_join_answer after_lease_answer after_renewal after_request_read after_see_request after_survey after_value_read area_next before_input begin_next begin_recoveries begin_recovery begins block_rules carry_decision carry_delta carry_lease checked_part count_event decided decoded delta_rules digits due due_step event_forms event_tests field_bytes fields_of finish finish_session first_change forms goes_on_with header_forms header_of header_tests initial_record instance_of join_on_wake kill_holders kills known leader_rules lease_next leave_holdings locks_after lvm_forms lvm_turn machine_of_header magic next_after_deciding next_after_first next_after_verify next_after_watch next_in_joining next_on_wake next_renewal on_exit on_line on_spawned on_wake own_rules padded_text pass_tests phase1_block phase2_block refuse renew_on_wake reply_words request_refusal request_rules see_requests settle settle_begin settle_next settle_on_wake settlings signal_and_refuse spelling stop_of take_input time_out time_outs told_effects u32_at u32_bytes u64_at u64_bytes value_rules within_turn
owner_reset_safe = refl

pub crash_with_holder_replayed : replays crash_with_holder ≡ true
unfolding after_answer after_answer_of after_bytes after_end after_free after_input after_join_answer after_lease_answer after_renewal after_request_read after_see_request after_survey after_value_read area_next before_input begin_next begin_recoveries begin_recovery begins block_rules carry_decision carry_delta carry_lease checked_part count_event decided decoded delta_rules digits due due_step event_forms event_tests field_bytes fields_of finish finish_session first_change forms goes_on_with header_forms header_of header_tests initial_record instance_of join_on_wake kill_holders kills known leader_rules lease_next leave_holdings locks_after lvm_forms lvm_turn machine_of_header magic next_after_deciding next_after_first next_after_verify next_after_watch next_in_joining next_on_wake next_renewal on_exit on_line on_spawned on_wake own_rules padded_text pass_tests phase1_block phase2_block refuse renew_on_wake reply_words request_refusal request_rules see_requests settle settle_begin settle_next settle_on_wake settlings signal_and_refuse spelling stop_of take_input time_out time_outs told_effects u32_at u32_bytes u64_at u64_bytes value_rules within_turn
crash_with_holder_replayed = refl

pub late_landing_shown : IsShown late_landing
unfolding after_answer after_answer_of after_bytes after_end after_free after_input after_join_answer after_lease_answer after_renewal after_request_read after_see_request after_survey after_value_read area_next before_input begin_next begin_recoveries begin_recovery begins block_rules carry_decision carry_delta carry_lease checked_part count_event decided decoded delta_rules digits due due_step event_forms event_tests field_bytes fields_of finish finish_session first_change forms goes_on_with header_forms header_of header_tests initial_record instance_of join_on_wake kill_holders kills known leader_rules lease_next leave_holdings locks_after lvm_forms lvm_turn machine_of_header magic next_after_deciding next_after_first next_after_verify next_after_watch next_in_joining next_on_wake next_renewal on_exit on_line on_spawned on_wake own_rules padded_text pass_tests phase1_block phase2_block refuse renew_on_wake reply_words request_refusal request_rules see_requests settle settle_begin settle_next settle_on_wake settlings signal_and_refuse spelling stop_of take_input time_out time_outs told_effects u32_at u32_bytes u64_at u64_bytes value_rules within_turn
late_landing_shown = record { replayed = refl; lawful = refl; safe = refl }

pub shared_shown : IsShown shared
unfolding after_answer after_answer_of after_bytes after_end after_free after_input after_join_answer after_lease_answer after_renewal after_request_read after_see_request after_survey after_value_read area_next before_input begin_next begin_recoveries begin_recovery begins block_rules carry_decision carry_delta carry_lease checked_part count_event decided decoded delta_rules digits due due_step event_forms event_tests field_bytes fields_of finish finish_session first_change forms goes_on_with header_forms header_of header_tests initial_record instance_of join_on_wake kill_holders kills known leader_rules lease_next leave_holdings locks_after lvm_forms lvm_turn machine_of_header magic next_after_deciding next_after_first next_after_verify next_after_watch next_in_joining next_on_wake next_renewal on_exit on_line on_spawned on_wake own_rules padded_text pass_tests phase1_block phase2_block refuse renew_on_wake reply_words request_refusal request_rules see_requests settle settle_begin settle_next settle_on_wake settlings signal_and_refuse spelling stop_of take_input time_out time_outs told_effects u32_at u32_bytes u64_at u64_bytes value_rules within_turn
shared_shown = record { replayed = refl; lawful = refl; safe = refl }

pub recovery_shown : IsShown recovery
unfolding after_answer after_answer_of after_bytes after_end after_free after_input after_join_answer after_lease_answer after_renewal after_request_read after_see_request after_survey after_value_read area_next before_input begin_next begin_recoveries begin_recovery begins block_rules carry_decision carry_delta carry_lease checked_part count_event decided decoded delta_rules digits due due_step event_forms event_tests field_bytes fields_of finish finish_session first_change forms goes_on_with header_forms header_of header_tests initial_record instance_of join_on_wake kill_holders kills known leader_rules lease_next leave_holdings locks_after lvm_forms lvm_turn machine_of_header magic next_after_deciding next_after_first next_after_verify next_after_watch next_in_joining next_on_wake next_renewal on_exit on_line on_spawned on_wake own_rules padded_text pass_tests phase1_block phase2_block refuse renew_on_wake reply_words request_refusal request_rules see_requests settle settle_begin settle_next settle_on_wake settlings signal_and_refuse spelling stop_of take_input time_out time_outs told_effects u32_at u32_bytes u64_at u64_bytes value_rules within_turn
recovery_shown = record { replayed = refl; lawful = refl; safe = refl }

pub recovery_with_write_replayed : replays recovery_with_write ≡ true
unfolding after_answer after_answer_of after_bytes after_end after_free after_input after_join_answer after_lease_answer after_renewal after_request_read after_see_request after_survey after_value_read area_next before_input begin_next begin_recoveries begin_recovery begins block_rules carry_decision carry_delta carry_lease checked_part count_event decided decoded delta_rules digits due due_step event_forms event_tests field_bytes fields_of finish finish_session first_change forms goes_on_with header_forms header_of header_tests initial_record instance_of join_on_wake kill_holders kills known leader_rules lease_next leave_holdings locks_after lvm_forms lvm_turn machine_of_header magic next_after_deciding next_after_first next_after_verify next_after_watch next_in_joining next_on_wake next_renewal on_exit on_line on_spawned on_wake own_rules padded_text pass_tests phase1_block phase2_block refuse renew_on_wake reply_words request_refusal request_rules see_requests settle settle_begin settle_next settle_on_wake settlings signal_and_refuse spelling stop_of take_input time_out time_outs told_effects u32_at u32_bytes u64_at u64_bytes value_rules within_turn
recovery_with_write_replayed = refl

pub leaving_shown : (replays leaving ≡ true) × (keeps_laws leaving ≡ true)
unfolding after_answer after_answer_of after_bytes after_end after_free after_input after_join_answer after_lease_answer after_renewal after_request_read after_see_request after_survey after_value_read area_next before_input begin_next begin_recoveries begin_recovery begins block_rules carry_decision carry_delta carry_lease checked_part count_event decided decoded delta_rules digits due due_step event_forms event_tests field_bytes fields_of finish finish_session first_change forms goes_on_with header_forms header_of header_tests initial_record instance_of join_on_wake kill_holders kills known leader_rules lease_next leave_holdings locks_after lvm_forms lvm_turn machine_of_header magic next_after_deciding next_after_first next_after_verify next_after_watch next_in_joining next_on_wake next_renewal on_exit on_line on_spawned on_wake own_rules padded_text pass_tests phase1_block phase2_block refuse renew_on_wake reply_words request_refusal request_rules see_requests settle settle_begin settle_next settle_on_wake settlings signal_and_refuse spelling stop_of take_input time_out time_outs told_effects u32_at u32_bytes u64_at u64_bytes value_rules within_turn
leaving_shown = (refl, refl)

pub request_shown : IsShown request
unfolding after_answer after_answer_of after_bytes after_end after_free after_input after_join_answer after_lease_answer after_renewal after_request_read after_see_request after_survey after_value_read area_next before_input begin_next begin_recoveries begin_recovery begins block_rules carry_decision carry_delta carry_lease checked_part count_event decided decoded delta_rules digits due due_step event_forms event_tests field_bytes fields_of finish finish_session first_change forms goes_on_with header_forms header_of header_tests initial_record instance_of join_on_wake kill_holders kills known leader_rules lease_next leave_holdings locks_after lvm_forms lvm_turn machine_of_header magic next_after_deciding next_after_first next_after_verify next_after_watch next_in_joining next_on_wake next_renewal on_exit on_line on_spawned on_wake own_rules padded_text pass_tests phase1_block phase2_block refuse renew_on_wake reply_words request_refusal request_rules see_requests settle settle_begin settle_next settle_on_wake settlings signal_and_refuse spelling stop_of take_input time_out time_outs told_effects u32_at u32_bytes u64_at u64_bytes value_rules within_turn
request_shown = record { replayed = refl; lawful = refl; safe = refl }

pub torn_value_shown : (replays torn_value ≡ true) × (keeps_laws torn_value ≡ true)
unfolding after_answer after_answer_of after_bytes after_end after_free after_input after_join_answer after_lease_answer after_renewal after_request_read after_see_request after_survey after_value_read area_next before_input begin_next begin_recoveries begin_recovery begins block_rules carry_decision carry_delta carry_lease checked_part count_event decided decoded delta_rules digits due due_step event_forms event_tests field_bytes fields_of finish finish_session first_change forms goes_on_with header_forms header_of header_tests initial_record instance_of join_on_wake kill_holders kills known leader_rules lease_next leave_holdings locks_after lvm_forms lvm_turn machine_of_header magic next_after_deciding next_after_first next_after_verify next_after_watch next_in_joining next_on_wake next_renewal on_exit on_line on_spawned on_wake own_rules padded_text pass_tests phase1_block phase2_block refuse renew_on_wake reply_words request_refusal request_rules see_requests settle settle_begin settle_next settle_on_wake settlings signal_and_refuse spelling stop_of take_input time_out time_outs told_effects u32_at u32_bytes u64_at u64_bytes value_rules within_turn
torn_value_shown = (refl, refl)

pub torn_with_pairs_shown : IsShown torn_with_pairs
unfolding after_answer after_answer_of after_bytes after_end after_free after_input after_join_answer after_lease_answer after_renewal after_request_read after_see_request after_survey after_value_read area_next before_input begin_next begin_recoveries begin_recovery begins block_rules carry_decision carry_delta carry_lease checked_part count_event decided decoded delta_rules digits due due_step event_forms event_tests field_bytes fields_of finish finish_session first_change forms goes_on_with header_forms header_of header_tests initial_record instance_of join_on_wake kill_holders kills known leader_rules lease_next leave_holdings locks_after lvm_forms lvm_turn machine_of_header magic next_after_deciding next_after_first next_after_verify next_after_watch next_in_joining next_on_wake next_renewal on_exit on_line on_spawned on_wake own_rules padded_text pass_tests phase1_block phase2_block refuse renew_on_wake reply_words request_refusal request_rules see_requests settle settle_begin settle_next settle_on_wake settlings signal_and_refuse spelling stop_of take_input time_out time_outs told_effects u32_at u32_bytes u64_at u64_bytes value_rules within_turn
torn_with_pairs_shown = record { replayed = refl; lawful = refl; safe = refl }

pub torn_twice_shown : IsShown torn_twice
unfolding after_answer after_answer_of after_bytes after_end after_free after_input after_join_answer after_lease_answer after_renewal after_request_read after_see_request after_survey after_value_read area_next before_input begin_next begin_recoveries begin_recovery begins block_rules carry_decision carry_delta carry_lease checked_part count_event decided decoded delta_rules digits due due_step event_forms event_tests field_bytes fields_of finish finish_session first_change forms goes_on_with header_forms header_of header_tests initial_record instance_of join_on_wake kill_holders kills known leader_rules lease_next leave_holdings locks_after lvm_forms lvm_turn machine_of_header magic next_after_deciding next_after_first next_after_verify next_after_watch next_in_joining next_on_wake next_renewal on_exit on_line on_spawned on_wake own_rules padded_text pass_tests phase1_block phase2_block refuse renew_on_wake reply_words request_refusal request_rules see_requests settle settle_begin settle_next settle_on_wake settlings signal_and_refuse spelling stop_of take_input time_out time_outs told_effects u32_at u32_bytes u64_at u64_bytes value_rules within_turn
torn_twice_shown = record { replayed = refl; lawful = refl; safe = refl }

pub orphan_kept_shown : (keeps_laws orphan_kept ≡ true) × (stays_safe orphan_kept ≡ true)
unfolding after_answer after_answer_of after_bytes after_end after_free after_input after_join_answer after_lease_answer after_renewal after_request_read after_see_request after_survey after_value_read area_next before_input begin_next begin_recoveries begin_recovery begins block_rules carry_decision carry_delta carry_lease checked_part count_event decided decoded delta_rules digits due due_step event_forms event_tests field_bytes fields_of finish finish_session first_change forms goes_on_with header_forms header_of header_tests initial_record instance_of join_on_wake kill_holders kills known leader_rules lease_next leave_holdings locks_after lvm_forms lvm_turn machine_of_header magic next_after_deciding next_after_first next_after_verify next_after_watch next_in_joining next_on_wake next_renewal on_exit on_line on_spawned on_wake own_rules padded_text pass_tests phase1_block phase2_block refuse renew_on_wake reply_words request_refusal request_rules see_requests settle settle_begin settle_next settle_on_wake settlings signal_and_refuse spelling stop_of take_input time_out time_outs told_effects u32_at u32_bytes u64_at u64_bytes value_rules within_turn
orphan_kept_shown = (refl, refl)

pub orphan_stops_leaving_shown : (keeps_laws orphan_stops_leaving ≡ true) × (stays_safe orphan_stops_leaving ≡ true)
unfolding after_answer after_answer_of after_bytes after_end after_free after_input after_join_answer after_lease_answer after_renewal after_request_read after_see_request after_survey after_value_read area_next before_input begin_next begin_recoveries begin_recovery begins block_rules carry_decision carry_delta carry_lease checked_part count_event decided decoded delta_rules digits due due_step event_forms event_tests field_bytes fields_of finish finish_session first_change forms goes_on_with header_forms header_of header_tests initial_record instance_of join_on_wake kill_holders kills known leader_rules lease_next leave_holdings locks_after lvm_forms lvm_turn machine_of_header magic next_after_deciding next_after_first next_after_verify next_after_watch next_in_joining next_on_wake next_renewal on_exit on_line on_spawned on_wake own_rules padded_text pass_tests phase1_block phase2_block refuse renew_on_wake reply_words request_refusal request_rules see_requests settle settle_begin settle_next settle_on_wake settlings signal_and_refuse spelling stop_of take_input time_out time_outs told_effects u32_at u32_bytes u64_at u64_bytes value_rules within_turn
orphan_stops_leaving_shown = (refl, refl)

pub converted_both_ways_shown : (keeps_laws converted_both_ways ≡ true) × (stays_safe converted_both_ways ≡ true)
unfolding after_answer after_answer_of after_bytes after_end after_free after_input after_join_answer after_lease_answer after_renewal after_request_read after_see_request after_survey after_value_read area_next before_input begin_next begin_recoveries begin_recovery begins block_rules carry_decision carry_delta carry_lease checked_part count_event decided decoded delta_rules digits due due_step event_forms event_tests field_bytes fields_of finish finish_session first_change forms goes_on_with header_forms header_of header_tests initial_record instance_of join_on_wake kill_holders kills known leader_rules lease_next leave_holdings locks_after lvm_forms lvm_turn machine_of_header magic next_after_deciding next_after_first next_after_verify next_after_watch next_in_joining next_on_wake next_renewal on_exit on_line on_spawned on_wake own_rules padded_text pass_tests phase1_block phase2_block refuse renew_on_wake reply_words request_refusal request_rules see_requests settle settle_begin settle_next settle_on_wake settlings signal_and_refuse spelling stop_of take_input time_out time_outs told_effects u32_at u32_bytes u64_at u64_bytes value_rules within_turn
converted_both_ways_shown = (refl, refl)

pub conversion_refused_shown : (keeps_laws conversion_refused ≡ true) × (stays_safe conversion_refused ≡ true)
unfolding after_answer after_answer_of after_bytes after_end after_free after_input after_join_answer after_lease_answer after_renewal after_request_read after_see_request after_survey after_value_read area_next before_input begin_next begin_recoveries begin_recovery begins block_rules carry_decision carry_delta carry_lease checked_part count_event decided decoded delta_rules digits due due_step event_forms event_tests field_bytes fields_of finish finish_session first_change forms goes_on_with header_forms header_of header_tests initial_record instance_of join_on_wake kill_holders kills known leader_rules lease_next leave_holdings locks_after lvm_forms lvm_turn machine_of_header magic next_after_deciding next_after_first next_after_verify next_after_watch next_in_joining next_on_wake next_renewal on_exit on_line on_spawned on_wake own_rules padded_text pass_tests phase1_block phase2_block refuse renew_on_wake reply_words request_refusal request_rules see_requests settle settle_begin settle_next settle_on_wake settlings signal_and_refuse spelling stop_of take_input time_out time_outs told_effects u32_at u32_bytes u64_at u64_bytes value_rules within_turn
conversion_refused_shown = (refl, refl)

pub kill_program_not_started_lawful : keeps_laws kill_program_not_started ≡ true
unfolding after_answer after_answer_of after_bytes after_end after_free after_input after_join_answer after_lease_answer after_renewal after_request_read after_see_request after_survey after_value_read area_next before_input begin_next begin_recoveries begin_recovery begins block_rules carry_decision carry_delta carry_lease checked_part count_event decided decoded delta_rules digits due due_step event_forms event_tests field_bytes fields_of finish finish_session first_change forms goes_on_with header_forms header_of header_tests initial_record instance_of join_on_wake kill_holders kills known leader_rules lease_next leave_holdings locks_after lvm_forms lvm_turn machine_of_header magic next_after_deciding next_after_first next_after_verify next_after_watch next_in_joining next_on_wake next_renewal on_exit on_line on_spawned on_wake own_rules padded_text pass_tests phase1_block phase2_block refuse renew_on_wake reply_words request_refusal request_rules see_requests settle settle_begin settle_next settle_on_wake settlings signal_and_refuse spelling stop_of take_input time_out time_outs told_effects u32_at u32_bytes u64_at u64_bytes value_rules within_turn
kill_program_not_started_lawful = refl

pub kill_program_by_request_lawful : keeps_laws kill_program_by_request ≡ true
unfolding after_answer after_answer_of after_bytes after_end after_free after_input after_join_answer after_lease_answer after_renewal after_request_read after_see_request after_survey after_value_read area_next before_input begin_next begin_recoveries begin_recovery begins block_rules carry_decision carry_delta carry_lease checked_part count_event decided decoded delta_rules digits due due_step event_forms event_tests field_bytes fields_of finish finish_session first_change forms goes_on_with header_forms header_of header_tests initial_record instance_of join_on_wake kill_holders kills known leader_rules lease_next leave_holdings locks_after lvm_forms lvm_turn machine_of_header magic next_after_deciding next_after_first next_after_verify next_after_watch next_in_joining next_on_wake next_renewal on_exit on_line on_spawned on_wake own_rules padded_text pass_tests phase1_block phase2_block refuse renew_on_wake reply_words request_refusal request_rules see_requests settle settle_begin settle_next settle_on_wake settlings signal_and_refuse spelling stop_of take_input time_out time_outs told_effects u32_at u32_bytes u64_at u64_bytes value_rules within_turn
kill_program_by_request_lawful = refl

pub group_lock_lawful : keeps_laws group_lock ≡ true
unfolding after_answer after_answer_of after_bytes after_end after_free after_input after_join_answer after_lease_answer after_renewal after_request_read after_see_request after_survey after_value_read area_next before_input begin_next begin_recoveries begin_recovery begins block_rules carry_decision carry_delta carry_lease checked_part count_event decided decoded delta_rules digits due due_step event_forms event_tests field_bytes fields_of finish finish_session first_change forms goes_on_with header_forms header_of header_tests initial_record instance_of join_on_wake kill_holders kills known leader_rules lease_next leave_holdings locks_after lvm_forms lvm_turn machine_of_header magic next_after_deciding next_after_first next_after_verify next_after_watch next_in_joining next_on_wake next_renewal on_exit on_line on_spawned on_wake own_rules padded_text pass_tests phase1_block phase2_block refuse renew_on_wake reply_words request_refusal request_rules see_requests settle settle_begin settle_next settle_on_wake settlings signal_and_refuse spelling stop_of take_input time_out time_outs told_effects u32_at u32_bytes u64_at u64_bytes value_rules within_turn
group_lock_lawful = refl

pub volume_held_elsewhere_lawful : keeps_laws volume_held_elsewhere ≡ true
unfolding after_answer after_answer_of after_bytes after_end after_free after_input after_join_answer after_lease_answer after_renewal after_request_read after_see_request after_survey after_value_read area_next before_input begin_next begin_recoveries begin_recovery begins block_rules carry_decision carry_delta carry_lease checked_part count_event decided decoded delta_rules digits due due_step event_forms event_tests field_bytes fields_of finish finish_session first_change forms goes_on_with header_forms header_of header_tests initial_record instance_of join_on_wake kill_holders kills known leader_rules lease_next leave_holdings locks_after lvm_forms lvm_turn machine_of_header magic next_after_deciding next_after_first next_after_verify next_after_watch next_in_joining next_on_wake next_renewal on_exit on_line on_spawned on_wake own_rules padded_text pass_tests phase1_block phase2_block refuse renew_on_wake reply_words request_refusal request_rules see_requests settle settle_begin settle_next settle_on_wake settlings signal_and_refuse spelling stop_of take_input time_out time_outs told_effects u32_at u32_bytes u64_at u64_bytes value_rules within_turn
volume_held_elsewhere_lawful = refl

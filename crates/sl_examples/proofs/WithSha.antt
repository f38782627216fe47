-- Worked schedules with the program's own digest.
use Rattle.sha2.specs.Sha256.{compress, digest_bytes, first_words, hash_after, rounds, schedule, sha256}
use Rattle.sl_due.specs.Due.{after_input, before_input, due, due_step}
use Rattle.sl_due.specs.DueAnswers.{after_answer, after_answer_of}
use Rattle.sl_due.specs.DueCommands.{after_end, carry_decision, decided, on_line}
use Rattle.sl_due.specs.CarriedDelta.{after_free, after_join_answer, after_renewal, after_survey, carry_delta, see_requests}
use Rattle.sl_due.specs.DueRecovery.{begin_recoveries, begin_recovery, kill_holders, kills, signal_and_refuse}
use Rattle.sl_due.specs.DueTimeOuts.{refuse, time_out, time_outs}
use Rattle.sl_due.specs.DueInputs.{leave_holdings, on_exit, on_spawned, take_input}
use Rattle.sl_due.specs.CarriedLease.{after_lease_answer, carry_lease, settle}
use Rattle.sl_due.specs.DueRequests.{after_request_read, after_see_request, after_value_read, request_refusal}
use Rattle.sl_due.specs.DueWake.{finish, finish_session, join_on_wake, on_wake, renew_on_wake, settle_on_wake, settlings}
use Rattle.sl_examples.specs.WorkedSchedules.{failing, settled_win}
use Rattle.sl_examples.specs.WorldTests.{replays_with_sha}
use Rattle.sl_trace.specs.Ballots.{instance_of, phase1_block, phase2_block, stop_of}
use Rattle.sl_trace.specs.LeaseDecisions.{after_bytes, area_next, begin_next, lease_next, settle_begin, settle_next, within_turn}
use Rattle.sl_trace.specs.Leases.{known}
use Rattle.sl_run.specs.Lvm.{begins, goes_on_with, lvm_turn}
use Rattle.sl_run.specs.LvmLines.{lvm_forms}
use Rattle.sl_report.specs.Languages.{whole_language}
use Rattle.sl_report.specs.Reports.{count_event}
use Rattle.sl_report.specs.EventLines.{event_forms}
use Rattle.sl_report.specs.HeaderLines.{header_forms, header_of}
use Rattle.sl_report.specs.HeaderRefusals.{header_tests}
use Rattle.sl_report.specs.Schedules.{replay_lines}
use Rattle.sl_run.specs.Refusals.{event_tests}
use Rattle.sl_run.specs.Premises.{pass_tests}
use Rattle.sl_run.specs.EventChanges.{first_change}
use Rattle.sl_run.specs.Locks.{locks_after, told_effects}
use Rattle.sl_run.specs.Worlds.{initial_record, machine_of_header}
use Rattle.sl_sector.specs.FieldBytes.{u32_at, u32_bytes, u64_at, u64_bytes}
use Rattle.sl_sector.specs.SectorLayouts.{block_rules, checked_part, decoded, delta_rules, field_bytes, fields_of, leader_rules, magic, own_rules, request_rules, spelling, value_rules}
use Rattle.sl_trace.specs.DeltaDecisions.{next_after_deciding, next_after_first, next_after_verify, next_after_watch, next_in_joining, next_on_wake, next_renewal}
use Rattle.sl_text.specs.Names.{padded_text}
use Rattle.sl_trace.specs.CommandForms.{forms}
use Rattle.sl_trace.specs.EffectTexts.{reply_words}
use Rattle.std.specs.Fmt.{digits}
use Rattle.std.specs.Prelude.{codes, refl, [], ◌∷◌, ◌≡◌}

pub settling : failing replays_with_sha (settled_win ∷ []) ≡ []
unfolding after_answer after_answer_of after_bytes after_end after_free after_input after_join_answer after_lease_answer after_renewal after_request_read after_see_request after_survey after_value_read area_next before_input begin_next begin_recoveries begin_recovery begins block_rules carry_decision carry_delta carry_lease checked_part compress count_event decided decoded delta_rules digest_bytes digits due due_step event_forms event_tests field_bytes fields_of finish finish_session first_change first_words forms goes_on_with hash_after header_forms header_of header_tests initial_record instance_of join_on_wake kill_holders kills known leader_rules lease_next leave_holdings locks_after lvm_forms lvm_turn machine_of_header magic next_after_deciding next_after_first next_after_verify next_after_watch next_in_joining next_on_wake next_renewal on_exit on_line on_spawned on_wake own_rules padded_text pass_tests phase1_block phase2_block refuse renew_on_wake reply_words request_refusal request_rules rounds schedule see_requests settle settle_begin settle_next settle_on_wake settlings sha256 signal_and_refuse spelling stop_of take_input time_out time_outs told_effects u32_at u32_bytes u64_at u64_bytes value_rules within_turn
settling = refl

pub empty_source : replay_lines whole_language [] ≡ (codes "line 1 syntax" ∷ [])
unfolding after_answer after_answer_of after_bytes after_end after_free after_input after_join_answer after_lease_answer after_renewal after_request_read after_see_request after_survey after_value_read area_next before_input begin_next begin_recoveries begin_recovery begins block_rules carry_decision carry_delta carry_lease checked_part compress count_event decided decoded delta_rules digest_bytes digits due due_step event_forms event_tests field_bytes fields_of finish finish_session first_change first_words forms goes_on_with hash_after header_forms header_of header_tests initial_record instance_of join_on_wake kill_holders kills known leader_rules lease_next leave_holdings locks_after lvm_forms lvm_turn machine_of_header magic next_after_deciding next_after_first next_after_verify next_after_watch next_in_joining next_on_wake next_renewal on_exit on_line on_spawned on_wake own_rules padded_text pass_tests phase1_block phase2_block refuse renew_on_wake reply_words request_refusal request_rules rounds schedule see_requests settle settle_begin settle_next settle_on_wake settlings sha256 signal_and_refuse spelling stop_of take_input time_out time_outs told_effects u32_at u32_bytes u64_at u64_bytes value_rules within_turn
empty_source = refl

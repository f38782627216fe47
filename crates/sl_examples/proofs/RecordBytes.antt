-- Bytes of a fresh leader, and what a changed byte is refused for.
use Rattle.sha2.specs.Sha256.{compress, digest_bytes, first_words, hash_after, rounds, schedule, sha256}
use Rattle.sl_area.specs.AreaSizes.{Layout, layout_of, record_in, sector_with}
use Rattle.sl_area.specs.AreaRecords.{fresh_leader}
use Rattle.sl_due.specs.Due.{after_input, before_input, due, due_step}
use Rattle.sl_due.specs.DueAnswers.{after_answer, after_answer_of}
use Rattle.sl_due.specs.DueCommands.{after_end, carry_decision, decided, on_line}
use Rattle.sl_due.specs.CarriedDelta.{after_free, after_join_answer, after_renewal, after_survey, carry_delta, see_requests}
use Rattle.sl_due.specs.DueRecovery.{begin_recoveries, begin_recovery, kill_holders, kills, signal_and_refuse}
use Rattle.sl_due.specs.DueTimeOuts.{refuse, time_out, time_outs}
use Rattle.sl_due.specs.DueInputs.{leave_holdings, on_exit, on_spawned, take_input}
use Rattle.sl_due.specs.CarriedLease.{after_lease_answer, carry_lease, settle}
use Rattle.sl_due.specs.DueRequests.{after_request_read, after_see_request, after_value_read, request_refusal}
use Rattle.sl_due.specs.DueWake.{finish, finish_session, join_on_wake, on_wake, renew_on_wake, settle_on_wake, settlings}
use Rattle.sl_trace.specs.Ballots.{instance_of, phase1_block, phase2_block, stop_of}
use Rattle.sl_trace.specs.LeaseDecisions.{after_bytes, area_next, begin_next, lease_next, settle_begin, settle_next, within_turn}
use Rattle.sl_trace.specs.Leases.{known}
use Rattle.sl_run.specs.Lvm.{begins, goes_on_with, lvm_turn}
use Rattle.sl_run.specs.LvmLines.{lvm_forms}
use Rattle.sl_report.specs.Reports.{count_event}
use Rattle.sl_report.specs.EventLines.{event_forms}
use Rattle.sl_report.specs.HeaderLines.{header_forms, header_of}
use Rattle.sl_report.specs.HeaderRefusals.{header_tests}
use Rattle.sl_run.specs.Refusals.{event_tests}
use Rattle.sl_run.specs.Premises.{pass_tests}
use Rattle.sl_run.specs.EventChanges.{first_change}
use Rattle.sl_run.specs.Locks.{locks_after, told_effects}
use Rattle.sl_run.specs.Worlds.{initial_record, machine_of_header}
use Rattle.sl_sector.specs.FieldBytes.{u32_at, u32_bytes, u64_at, u64_bytes}
use Rattle.sl_sector.specs.RecordTexts.{record_text}
use Rattle.sl_sector.specs.SectorLayouts.{block_rules, checked_part, decoded, delta_rules, field_bytes, fields_of, leader_rules, magic, own_rules, request_rules, spelling, value_rules}
use Rattle.sl_sector.specs.declared.sector.Bad.TheVariants.{BadCheck, BadField, BadKind, BadMagic, BadPad}
use Rattle.sl_sector.specs.declared.sector.Rec.TheVariants.{BlockIs, LeaderIs}
use Rattle.sl_sector.specs.declared.sector.Rec.{Rec}
use Rattle.sl_trace.specs.DeltaDecisions.{next_after_deciding, next_after_first, next_after_verify, next_after_watch, next_in_joining, next_on_wake, next_renewal}
use Rattle.sl_text.specs.Names.{padded_text}
use Rattle.sl_trace.specs.CommandForms.{forms}
use Rattle.sl_trace.specs.EffectTexts.{reply_words}
use Rattle.std.specs.Fmt.{digits}
use Rattle.std.specs.Prelude.{Err, Ok, codes, false, refl, replicate, slice_index, slice_set, take, [], ◌-◌, ◌∷◌, ◌≡◌}

abbrev two_hosts : Layout
two_hosts = layout_of (record { sector = 512; area = 1048576; hosts = 2; paired = false })

abbrev leader : Rec
leader = LeaderIs (fresh_leader two_hosts (codes "ls") (codes "r"))

-- One declaration, so that the leader's digest is computed once.
pub record BytesAre : Type 0 where
  pub front : take 16 (sector_with two_hosts leader) ≡ (0x53 ∷ 0x4c ∷ 0x4b ∷ 0x31 ∷ 0 ∷ 0 ∷ 0 ∷ 2 ∷ 0 ∷ 0 ∷ 0 ∷ 0 ∷ 0 ∷ 0 ∷ 0 ∷ 2 ∷ [])
  pub again : record_in two_hosts (sector_with two_hosts leader) ≡ Ok leader
  pub padding : record_in two_hosts (slice_set (sector_with two_hosts leader) 200 1) ≡ Err (BadPad 200)
  pub check : record_in two_hosts (slice_set (sector_with two_hosts leader) 511 (255 - slice_index (sector_with two_hosts leader) 511)) ≡ Err BadCheck
  pub zeros : record_in two_hosts (replicate 512 0) ≡ Err BadMagic
  pub kind_nine : record_in two_hosts (slice_set (sector_with two_hosts leader) 7 9) ≡ Err BadKind
  pub state_two : record_in two_hosts (slice_set (sector_with two_hosts leader) 11 2) ≡ Err (BadField 8)
  pub stamp : u64_bytes 1701 ≡ (0 ∷ 0 ∷ 0 ∷ 0 ∷ 0 ∷ 0 ∷ 6 ∷ 0xa5 ∷ [])
  pub block_text : record_text (BlockIs (record { host = 1; shared = false; lver = 1; mbal = 1; bal = 1; inp_gen = 1; mode_gen = 0; inp = 1 }))
      ≡ codes "block 1 lver 1 mbal 1 bal 1 inp 1 1 mode 0 0"

pub bytes_are : BytesAre
unfolding after_answer after_answer_of after_bytes after_end after_free after_input after_join_answer after_lease_answer after_renewal after_request_read after_see_request after_survey after_value_read area_next before_input begin_next begin_recoveries begin_recovery begins block_rules carry_decision carry_delta carry_lease checked_part compress count_event decided decoded delta_rules digest_bytes digits due due_step event_forms event_tests field_bytes fields_of finish finish_session first_change first_words forms goes_on_with hash_after header_forms header_of header_tests initial_record instance_of join_on_wake kill_holders kills known leader_rules lease_next leave_holdings locks_after lvm_forms lvm_turn machine_of_header magic next_after_deciding next_after_first next_after_verify next_after_watch next_in_joining next_on_wake next_renewal on_exit on_line on_spawned on_wake own_rules padded_text pass_tests phase1_block phase2_block refuse renew_on_wake reply_words request_refusal request_rules rounds schedule see_requests settle settle_begin settle_next settle_on_wake settlings sha256 signal_and_refuse spelling stop_of take_input time_out time_outs told_effects u32_at u32_bytes u64_at u64_bytes value_rules within_turn
bytes_are = record { front = refl; again = refl; padding = refl; check = refl; zeros = refl; kind_nine = refl; state_two = refl; stamp = refl; block_text = refl }

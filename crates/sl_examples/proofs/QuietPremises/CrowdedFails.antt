-- A run in which an acquire has all premises but that no limit is met, and is refused.
use Rattle.sl_due.specs.Due.{after_input, before_input, due, due_step}
use Rattle.sl_due.specs.DueAnswers.{after_answer, after_answer_of}
use Rattle.sl_due.specs.DueCommands.{after_end, carry_decision, decided, on_line}
use Rattle.sl_due.specs.CarriedDelta.{after_free, after_join_answer, after_renewal, after_survey, carry_delta, see_requests}
use Rattle.sl_due.specs.DueRecovery.{begin_recoveries, begin_recovery, kill_holders, kills, signal_and_refuse}
use Rattle.sl_due.specs.DueTimeOuts.{refuse, time_out, time_outs}
use Rattle.sl_due.specs.DueInputs.{leave_holdings, on_exit, on_spawned, take_input}
use Rattle.sl_due.specs.CarriedLease.{after_lease_answer, carry_lease, settle}
use Rattle.sl_due.specs.DueRequests.{after_request_read, after_see_request, after_value_read, request_refusal}
use Rattle.sl_due.specs.DueWake.{finish, finish_session, join_on_wake, on_wake, renew_on_wake, settle_on_wake, settlings}
use Rattle.sl_trace.specs.Ballots.{instance_of, phase1_block, phase2_block, stop_of}
use Rattle.sl_trace.specs.LeaseDecisions.{after_bytes, area_next, begin_next, lease_next, settle_begin, settle_next, within_turn}
use Rattle.sl_trace.specs.Leases.{known}
use Rattle.sl_run.specs.Lvm.{begins, goes_on_with, lvm_turn}
use Rattle.sl_run.specs.LvmLines.{lvm_forms}
use Rattle.sl_report.specs.Reports.{count_event}
use Rattle.sl_report.specs.EventLines.{event_forms}
use Rattle.sl_report.specs.HeaderLines.{header_forms, header_of}
use Rattle.sl_report.specs.HeaderRefusals.{header_tests}
use Rattle.sl_run.specs.Locks.{locks_after, told_effects}
use Rattle.sl_sector.specs.FieldBytes.{u32_at, u32_bytes, u64_at, u64_bytes}
use Rattle.sl_sector.specs.SectorLayouts.{block_rules, checked_part, decoded, delta_rules, field_bytes, fields_of, leader_rules, magic, own_rules, request_rules, spelling, value_rules}
use Rattle.sl_trace.specs.DeltaDecisions.{next_after_deciding, next_after_first, next_after_verify, next_after_watch, next_in_joining, next_on_wake, next_renewal}
use Rattle.sl_text.specs.Names.{padded_text}
use Rattle.sl_trace.specs.CommandForms.{forms}
use Rattle.sl_trace.specs.EffectTexts.{reply_words}
use Rattle.std.specs.Fmt.{digits}
use Rattle.sl_run.specs.Refusals.{event_tests, may_happen}
use Rattle.sl_run.specs.Premises.{pass_tests}
use Rattle.sl_run.specs.EventChanges.{first_change, happens, next_input}
use Rattle.sl_examples.specs.CheapDigest.{cheap_program}
use Rattle.sl_report.specs.DueRuns.{due_run}
use Rattle.sl_run.specs.Lawful.{Lawful}
use Rattle.sl_run.specs.Safety.{LawfulRun, world_at}
use Rattle.sl_run.specs.Worlds.{World, initial_record, machine_at, machine_of_header}
use Rattle.sl_run.specs.declared.event.Event.{Event}
use Rattle.sl_examples.proofs.Witness.QuietAcquiresShown.{FirstJob, FirstSession, seek_job, seek_session}
use Rattle.sl_examples.proofs.Witness.HeaderSearch.{seek_header}
use Rattle.sl_examples.proofs.Witness.RunSearch.{cheap_is_digest, seek_run}
use Rattle.sl_examples.proofs.Witness.ProofSearch.{found, seek_for}
use Rattle.sl_examples.proofs.Witness.TraceSearch.{seek_each_daemon}
use Rattle.sl_examples.specs.Witness.QuietRun.{exclusive_text, quiet_resource}
use Rattle.sl_examples.specs.Witness.Witness.{witness_header, witness_world}
use Rattle.sl_examples.proofs.QuietPremises.PremiseSearches.{fails, granted_behind, seek_refuses, seek_start_under, seek_stays}
use Rattle.sl_examples.specs.QuietPremises.Premises.{GrantedUnder, Premises}
use Rattle.sl_examples.specs.QuietPremises.PremisesTell.{FailsIn, crowd, crowded_run}
use Rattle.sl_run.specs.Inputs.{input_of}
use Rattle.sl_run.specs.Runs.{EachDaemon, HasSteps, IsRun, own_effects_of, world_after}
use Rattle.sl_run.specs.declared.event.Event.TheVariants.{GiveCommand, WakeUp}
use Rattle.sl_trace.specs.declared.effects.Effects.{Effects}
use Rattle.sl_trace.specs.declared.input.Input.{Input}
use Rattle.sl_words.proofs.CaseLaws.{false_is_true}
use Rattle.std.proofs.Common.{ap, arith}
use Rattle.std.specs.Prelude.{IsSome, List, None, Some, false, refl, true, [], ◌∷◌, ◌≡◌, IsTrue, Option, is_some, length, suc, take, zero, ℕ, ◌<◌, ◌≤◌}

-- ---- the first step

first_input : (w : World) (e : Event) (fx : Effects) (k : ℕ) → IsSome (input_of w e) → k < 1 → IsSome (next_input w e (take k (fx ∷ [])))
first_input w e fx zero some h = some
first_input w e fx (suc k) some h = absurd (omega (arith, h))

steps_by : (w : World) (e : Event) (fx : Effects) (o : Option Input) → input_of w e ≡ o → IsSome o
    → elim o as (λ z. Type 0) [
      | Some i ↦ (1 ≤ length (fx ∷ [])) × (next_input w e (fx ∷ []) ≡ None) × ((k : ℕ) → k < length (fx ∷ []) → IsSome (next_input w e (take k (fx ∷ []))))
      | None ↦ fx ∷ [] ≡ own_effects_of w e ∷ []
    ]
steps_by w e fx None is some = absurd (false_is_true some)
steps_by w e fx (Some i) is some = (omega arith, refl, λ k h. first_input w e fx k (ap is_some is) h)

one_step : (w : World) (e : Event) (fx : Effects) → IsSome (input_of w e) → HasSteps w e (fx ∷ [])
one_step w e fx some = steps_by w e fx (input_of w e) refl some

-- ---- the run

abbrev asked : Premises
asked = record { in_time = true; sole_writer = true; modes_over = true; no_limit = false }

abbrev crowded_world : World
crowded_world = happens witness_world (WakeUp 1) (crowd ∷ [])

abbrev asking : List Event
asking = GiveCommand 1 exclusive_text ∷ []

-- What is found by computing: the run and its traces are lawful, the acquire begins and goes on under these premises, and is refused. One
-- declaration computes the run once.
record IsShown : Type 0 where
  may_wake : IsTrue (may_happen witness_world (WakeUp 1))
  is_woken : IsSome (input_of witness_world (WakeUp 1))
  run_found : IsSome (seek_run crowded_world asking)
  laws_found : IsSome (seek_each_daemon (world_at cheap_program witness_header crowded_run))
  start_found : IsSome (seek_start_under asked crowded_world 1 exclusive_text quiet_resource false 7)
  job_found : IsSome (seek_for FirstJob (machine_at crowded_world 1) seek_job)
  session_found : IsSome (seek_for FirstSession (machine_at crowded_world 1) seek_session)
  stays_found : IsSome (seek_stays asked crowded_world (due_run crowded_world asking) 1 1 quiet_resource false 7 0)
  refuses_found : IsSome (seek_refuses (world_after crowded_world (due_run crowded_world asking)) 1 1)

shown : IsShown
unfolding after_answer after_answer_of after_bytes after_end after_free after_input after_join_answer after_lease_answer after_renewal after_request_read after_see_request after_survey after_value_read area_next before_input begin_next begin_recoveries begin_recovery begins block_rules carry_decision carry_delta carry_lease checked_part count_event decided decoded delta_rules digits due due_step event_forms event_tests field_bytes fields_of finish finish_session first_change forms goes_on_with header_forms header_of header_tests initial_record instance_of join_on_wake kill_holders kills known leader_rules lease_next leave_holdings locks_after lvm_forms lvm_turn machine_of_header magic next_after_deciding next_after_first next_after_verify next_after_watch next_in_joining next_on_wake next_renewal on_exit on_line on_spawned on_wake own_rules padded_text pass_tests phase1_block phase2_block refuse renew_on_wake reply_words request_refusal request_rules see_requests settle settle_begin settle_next settle_on_wake settlings signal_and_refuse spelling stop_of take_input time_out time_outs told_effects u32_at u32_bytes u64_at u64_bytes value_rules within_turn
shown = record { may_wake = refl; is_woken = refl; run_found = refl; laws_found = refl; start_found = refl; job_found = refl; session_found = refl; stays_found = refl; refuses_found = refl }

is_run : IsRun witness_world crowded_run
is_run = (shown.may_wake, one_step witness_world (WakeUp 1) crowd shown.is_woken, found (seek_run crowded_world asking) shown.run_found)

each : EachDaemon Lawful (world_at cheap_program witness_header crowded_run)
each = found (seek_each_daemon (world_at cheap_program witness_header crowded_run)) shown.laws_found

is_lawful : LawfulRun cheap_program witness_header crowded_run
is_lawful =
    record {
      header = found (seek_header witness_header) refl;
      digest = cheap_is_digest;
      is_run = is_run;
      lawful = λ d has. (each d has).orderly;
    }

-- ---- the acquire

refused : GrantedUnder asked witness_world crowded_run → ⊥
refused law =
    let q = found (seek_start_under asked crowded_world 1 exclusive_text quiet_resource false 7) shown.start_found in
    fails asked crowded_world [] [] exclusive_text quiet_resource false 7 1 0 q
    (found (seek_for FirstJob (machine_at crowded_world 1) seek_job) shown.job_found q.machine q.runs.0 q.daemon q.runs.1)
    (found (seek_for FirstSession (machine_at crowded_world 1) seek_session) shown.session_found q.machine q.runs.0 q.daemon q.runs.1 q.session q.named)
    (found (seek_stays asked crowded_world (due_run crowded_world asking) 1 1 quiet_resource false 7 0) shown.stays_found)
    (found (seek_refuses (world_after crowded_world (due_run crowded_world asking)) 1 1) shown.refuses_found)
    (granted_behind asked witness_world (WakeUp 1, crowd ∷ []) (due_run crowded_world asking) law)

pub crowded_fails : FailsIn asked crowded_run
crowded_fails = record { lawful = is_lawful; fails = refused }

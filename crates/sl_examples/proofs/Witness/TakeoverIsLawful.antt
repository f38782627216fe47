-- The worked run is a lawful run in which the resource passes over.
use Rattle.sl_due.specs.Due.{after_input, before_input, due, due_step}
use Rattle.sl_due.specs.DueAnswers.{after_answer, after_answer_of}
use Rattle.sl_due.specs.DueCommands.{after_end, carry_decision, decided, on_line}
use Rattle.sl_due.specs.CarriedDelta.{after_free, after_join_answer, after_renewal, after_survey, carry_delta, see_requests}
use Rattle.sl_due.specs.DueRecovery.{begin_recoveries, begin_recovery, kill_holders, kills, signal_and_refuse}
use Rattle.sl_due.specs.DueTimeOuts.{refuse, time_out, time_outs}
use Rattle.sl_due.specs.DueInputs.{leave_holdings, on_exit, on_spawned, take_input}
use Rattle.sl_due.specs.CarriedLease.{after_lease_answer, carry_lease, settle}
use Rattle.sl_due.specs.DueRequests.{after_request_read, after_see_request, after_value_read, request_refusal}
use Rattle.sl_due.specs.DueWake.{finish, finish_session, join_on_wake, on_wake, renew_on_wake, settle_on_wake, settlings}
use Rattle.sl_examples.specs.CheapDigest.{cheap_language, cheap_program}
use Rattle.sl_examples.specs.WorkedSchedules.{owner_reset_then_taken_over}
use Rattle.sl_run.specs.Lawful.{Lawful}
use Rattle.sl_trace.specs.Ballots.{instance_of, phase1_block, phase2_block, stop_of}
use Rattle.sl_trace.specs.LeaseDecisions.{after_bytes, area_next, begin_next, lease_next, settle_begin, settle_next, within_turn}
use Rattle.sl_trace.specs.Leases.{known}
use Rattle.sl_run.specs.Lvm.{begins, goes_on_with, lvm_turn}
use Rattle.sl_run.specs.LvmLines.{lvm_forms}
use Rattle.sl_report.specs.DueRuns.{due_run, effects_of}
use Rattle.sl_report.specs.Reports.{count_event}
use Rattle.sl_report.specs.EventLines.{event_forms}
use Rattle.sl_report.specs.HeaderLines.{header_forms, header_of}
use Rattle.sl_report.specs.HeaderRefusals.{header_tests}
use Rattle.sl_report.specs.Schedules.{HeaderReading, Header_read, Header_refused, NumberedLine, event_lines_of, numbered_lines, read_header}
use Rattle.sl_run.specs.Conflicts.{holding, lingering_holding, no_holdings, world_holdings, world_lingering}
use Rattle.sl_run.specs.Refusals.{event_tests}
use Rattle.sl_run.specs.Premises.{pass_tests}
use Rattle.sl_run.specs.EventChanges.{first_change, happens}
use Rattle.sl_run.specs.Locks.{locks_after, told_effects}
use Rattle.sl_run.specs.Runs.{EachDaemon, Happening}
use Rattle.sl_run.specs.Safety.{LawfulRun, world_at}
use Rattle.sl_run.specs.Worlds.{World, initial_record, machine_of_header}
use Rattle.sl_run.specs.declared.event.Event.TheVariants.{Reset}
use Rattle.sl_sector.specs.FieldBytes.{u32_at, u32_bytes, u64_at, u64_bytes}
use Rattle.sl_sector.specs.SectorLayouts.{block_rules, checked_part, decoded, delta_rules, field_bytes, fields_of, leader_rules, magic, own_rules, request_rules, spelling, value_rules}
use Rattle.sl_trace.specs.DeltaDecisions.{next_after_deciding, next_after_first, next_after_verify, next_after_watch, next_in_joining, next_on_wake, next_renewal}
use Rattle.sl_text.specs.Forms.{as_bytes}
use Rattle.sl_text.specs.Names.{padded_text}
use Rattle.sl_trace.specs.CommandForms.{forms}
use Rattle.sl_trace.specs.EffectTexts.{reply_words}
use Rattle.sl_trace.specs.declared.effects.Grant.{Grant}
use Rattle.sl_trace.specs.declared.effects.Mode.TheVariants.{Exclusive}
use Rattle.sl_examples.proofs.Witness.HeaderSearch.{seek_header}
use Rattle.sl_examples.proofs.Witness.RunSearch.{cheap_is_digest, due_run-append, seek_run}
use Rattle.sl_examples.proofs.Witness.ProofSearch.{found}
use Rattle.sl_examples.proofs.Witness.TraceSearch.{seek_each_daemon}
use Rattle.sl_examples.specs.Witness.Witness.{HoldsAlone, IsOfTheSchedule, PassesOver, TakeoverIsLawful, owning_events, taking_events, witness_events, witness_header, witness_run, witness_world}
use Rattle.std.specs.Fmt.{digits}
use Rattle.std.specs.Prelude.{IsSome, List, Ok, codes, false, map, refl, [], ℕ, ◌++◌, ◌∷◌, ◌≡◌}

-- ---- the schedule

-- The lines behind the header.
abbrev rest_of : HeaderReading → List NumberedLine
rest_of (Header_refused n r) = []
rest_of (Header_read h rest) = rest

abbrev reading : HeaderReading
reading = read_header cheap_language [] 1 (numbered_lines (as_bytes owner_reset_then_taken_over.source))

-- A holding of the resource.
abbrev grant : ℕ → ℕ → Grant
grant process lver =
    record {
      process = process;
      session = 0;
      lockspace = codes "ls";
      resource = codes "r";
      path = codes "/d";
      offset = 1048576;
      mode = Exclusive;
      lver = lver;
      persistent = false;
    }

abbrev before : List Happening
before = due_run witness_world owning_events

abbrev world_then : World
world_then = world_at cheap_program witness_header before

-- What is found by computing: the schedule is that run, the run and its traces are lawful, and who holds the resource. One declaration computes
-- the run once.
record IsShown : Type 0 where
  reads : reading ≡ Header_read witness_header (rest_of reading)
  tells : map (λ l. l.1) (event_lines_of cheap_language witness_header (rest_of reading)) ≡ map (λ e. Ok e) witness_events
  run_found : IsSome (seek_run witness_world witness_events)
  laws_found : IsSome (seek_each_daemon (world_at cheap_program witness_header witness_run))
  owner_holds : world_holdings world_then ≡ holding 2 (grant 9 1) ∷ []
  owner_lingers : world_lingering (world_at cheap_program witness_header (before ++ (Reset 2, effects_of world_then (Reset 2)) ∷ []))
      ≡ lingering_holding 2 (record { held = grant 9 1; reset = 0 }) ∷ []
  none_lingers : world_lingering (world_at cheap_program witness_header witness_run) ≡ no_holdings
  taker_holds : world_holdings (world_at cheap_program witness_header witness_run) ≡ holding 1 (grant 7 2) ∷ []

shown : IsShown
unfolding after_answer after_answer_of after_bytes after_end after_free after_input after_join_answer after_lease_answer after_renewal after_request_read after_see_request after_survey after_value_read area_next before_input begin_next begin_recoveries begin_recovery begins block_rules carry_decision carry_delta carry_lease checked_part count_event decided decoded delta_rules digits due due_step event_forms event_tests field_bytes fields_of finish finish_session first_change forms goes_on_with header_forms header_of header_tests initial_record instance_of join_on_wake kill_holders kills known leader_rules lease_next leave_holdings locks_after lvm_forms lvm_turn machine_of_header magic next_after_deciding next_after_first next_after_verify next_after_watch next_in_joining next_on_wake next_renewal on_exit on_line on_spawned on_wake own_rules padded_text pass_tests phase1_block phase2_block refuse renew_on_wake reply_words request_refusal request_rules see_requests settle settle_begin settle_next settle_on_wake settlings signal_and_refuse spelling stop_of take_input time_out time_outs told_effects u32_at u32_bytes u64_at u64_bytes value_rules within_turn
shown = record { reads = refl; tells = refl; run_found = refl; laws_found = refl; owner_holds = refl; owner_lingers = refl; none_lingers = refl; taker_holds = refl }

is_of_the_schedule : IsOfTheSchedule
is_of_the_schedule = record { rest = rest_of reading; reads = shown.reads; tells = shown.tells }

-- ---- the run is lawful

header_found : IsSome (seek_header witness_header)
header_found = refl

each_lawful : EachDaemon Lawful (world_at cheap_program witness_header witness_run)
each_lawful = found (seek_each_daemon (world_at cheap_program witness_header witness_run)) shown.laws_found

is_lawful : LawfulRun cheap_program witness_header witness_run
is_lawful =
    record {
      header = found (seek_header witness_header) header_found;
      digest = cheap_is_digest;
      is_run = found (seek_run witness_world witness_events) shown.run_found;
      lawful = λ d has. (each_lawful d has).orderly;
    }

-- ---- the resource passes over

holds_alone : (w : World) (machine process lver : ℕ) → world_holdings w ≡ holding machine (grant process lver) ∷ [] → HoldsAlone w machine lver
holds_alone w machine process lver only =
    record { held = grant process lver; only = only; resource = (refl, refl); exclusive = refl; instance = refl }

passes_over : PassesOver witness_header witness_run
unfolding holds_alone
passes_over =
    record {
      before = before;
      effects = effects_of world_then (Reset 2);
      after = due_run (happens world_then (Reset 2) (effects_of world_then (Reset 2))) taking_events;
      resets = due_run-append witness_world owning_events (Reset 2 ∷ taking_events);
      first = holds_alone world_then 2 9 1 shown.owner_holds;
      lingers = shown.owner_lingers;
      passed = shown.none_lingers;
      last = holds_alone (world_at cheap_program witness_header witness_run) 1 7 2 shown.taker_holds;
    }

pub takeover_is_lawful : TakeoverIsLawful
takeover_is_lawful = record { schedule = is_of_the_schedule; lawful = is_lawful; each = each_lawful; passes = passes_over }

-- For each premise a run in which an acquire has all others and is refused.
use Rattle.sl_due.specs.Due.{after_input, before_input, due, due_step}
use Rattle.sl_due.specs.DueAnswers.{after_answer, after_answer_of}
use Rattle.sl_due.specs.DueCommands.{after_end, carry_decision, decided, on_line}
use Rattle.sl_due.specs.CarriedDelta.{after_free, after_join_answer, after_renewal, after_survey, carry_delta, see_requests}
use Rattle.sl_due.specs.DueRecovery.{begin_recoveries, begin_recovery, kill_holders, kills, signal_and_refuse}
use Rattle.sl_due.specs.DueTimeOuts.{refuse, time_out, time_outs}
use Rattle.sl_due.specs.DueInputs.{leave_holdings, on_exit, on_spawned, take_input}
use Rattle.sl_due.specs.CarriedLease.{after_lease_answer, carry_lease, settle}
use Rattle.sl_due.specs.DueRequests.{after_request_read, after_see_request, after_value_read, request_refusal}
use Rattle.sl_due.specs.DueWake.{finish, finish_session, join_on_wake, on_wake, renew_on_wake, settle_on_wake, settlings}
use Rattle.sl_trace.specs.Ballots.{instance_of, phase1_block, phase2_block, stop_of}
use Rattle.sl_trace.specs.LeaseDecisions.{after_bytes, area_next, begin_next, lease_next, settle_begin, settle_next, within_turn}
use Rattle.sl_trace.specs.Leases.{known}
use Rattle.sl_run.specs.Lvm.{begins, goes_on_with, lvm_turn}
use Rattle.sl_run.specs.LvmLines.{lvm_forms}
use Rattle.sl_report.specs.Reports.{count_event}
use Rattle.sl_report.specs.EventLines.{event_forms}
use Rattle.sl_report.specs.HeaderLines.{header_forms, header_of}
use Rattle.sl_report.specs.HeaderRefusals.{header_tests}
use Rattle.sl_run.specs.Locks.{locks_after, told_effects}
use Rattle.sl_sector.specs.FieldBytes.{u32_at, u32_bytes, u64_at, u64_bytes}
use Rattle.sl_sector.specs.SectorLayouts.{block_rules, checked_part, decoded, delta_rules, field_bytes, fields_of, leader_rules, magic, own_rules, request_rules, spelling, value_rules}
use Rattle.sl_trace.specs.DeltaDecisions.{next_after_deciding, next_after_first, next_after_verify, next_after_watch, next_in_joining, next_on_wake, next_renewal}
use Rattle.sl_text.specs.Names.{padded_text}
use Rattle.sl_trace.specs.CommandForms.{forms}
use Rattle.sl_trace.specs.EffectTexts.{reply_words}
use Rattle.std.specs.Fmt.{digits}
use Rattle.sl_run.specs.Refusals.{event_tests}
use Rattle.sl_run.specs.Premises.{pass_tests}
use Rattle.sl_run.specs.EventChanges.{first_change}
use Rattle.sl_examples.specs.CheapDigest.{cheap_program}
use Rattle.sl_examples.proofs.QuietPremises.CrowdedFails.{crowded_fails}
use Rattle.sl_examples.proofs.QuietPremises.DueRedone.{IsRedone, IsSet, made_by}
use Rattle.sl_examples.proofs.QuietPremises.PremiseSearches.{Refuses, fails, seek_refuses, seek_start_under, seek_stays}
use Rattle.sl_examples.specs.QuietPremises.Premises.{GrantedUnder, Premises, StartUnder, StaysUnder}
use Rattle.sl_examples.specs.QuietPremises.PremisesTell.{AreTooFew, FailsIn, PremisesTell, asking_events, late_events, rival_events, sharing_events}
use Rattle.sl_report.specs.DueRuns.{due_run}
use Rattle.sl_run.specs.Lawful.{Lawful}
use Rattle.sl_run.specs.Runs.{EachDaemon, Happening, world_after}
use Rattle.sl_run.specs.Safety.{LawfulRun, world_at}
use Rattle.sl_run.specs.Worlds.{Machine, World, initial_record, machine_at, machine_of_header}
use Rattle.sl_run.specs.declared.event.Event.TheVariants.{AnswerCall, Do, GiveCommand, Land, Pass, Sample}
use Rattle.sl_run.specs.declared.event.Event.{Event}
use Rattle.sl_examples.proofs.Witness.QuietAcquiresShown.{FirstJob, FirstSession, seek_job, seek_session}
use Rattle.sl_examples.proofs.Witness.HeaderSearch.{seek_header}
use Rattle.sl_examples.proofs.Witness.RunSearch.{cheap_is_digest, seek_run}
use Rattle.sl_examples.proofs.Witness.ProofSearch.{found, seek_for}
use Rattle.sl_examples.proofs.Witness.TraceSearch.{seek_each_daemon}
use Rattle.sl_examples.specs.Witness.QuietRun.{exclusive_text, quiet_resource}
use Rattle.sl_examples.specs.Witness.Witness.{witness_header, witness_world}
use Rattle.std.specs.Prelude.{IsSome, List, None, Some, codes, false, refl, true, [], ◌++◌, ◌∷◌, ◌≡◌}

abbrev lawful_by : (es : List Event) → IsSome (seek_run witness_world es) → EachDaemon Lawful (world_at cheap_program witness_header (due_run witness_world es))
    → LawfulRun cheap_program witness_header (due_run witness_world es)
lawful_by es runs each =
    record {
      header = found (seek_header witness_header) refl;
      digest = cheap_is_digest;
      is_run = found (seek_run witness_world es) runs;
      lawful = λ d has. (each d has).orderly;
    }

-- Behind these events machine 1's first job is the acquire; it begins with nothing in its way, goes on under these premises, and is refused.
refused_behind : (asked : Premises) (before during : List Event) → (q : StartUnder asked (world_after witness_world (due_run witness_world before)) 1 exclusive_text quiet_resource false 7)
    → ((a : Machine) → machine_at (world_after witness_world (due_run witness_world before)) 1 ≡ Some a → FirstJob a)
    → ((a : Machine) → machine_at (world_after witness_world (due_run witness_world before)) 1 ≡ Some a → FirstSession a)
    → StaysUnder asked (world_after witness_world (due_run witness_world before))
    (due_run (world_after witness_world (due_run witness_world before)) (GiveCommand 1 exclusive_text ∷ during)) 1 1 quiet_resource false 7 0
    → Refuses (world_after (world_after witness_world (due_run witness_world before)) (due_run (world_after witness_world (due_run witness_world before)) (GiveCommand 1 exclusive_text ∷ during))) 1 1
    → GrantedUnder asked witness_world (due_run witness_world (before ++ GiveCommand 1 exclusive_text ∷ during)) → ⊥
refused_behind asked before during q job session stays refuses =
    fails asked witness_world before during exclusive_text quiet_resource false 7 1 0 q (job q.machine q.runs.0 q.daemon q.runs.1)
    (session q.machine q.runs.0 q.daemon q.runs.1 q.session q.named) stays refuses

-- Where it fails in a run whose daemons do what is due, the premises do not suffice.
too_few_by : (asked : Premises) (xs : List Happening) → FailsIn asked xs → IsRedone (world_at cheap_program witness_header xs) → IsSet (world_at cheap_program witness_header xs) → AreTooFew asked xs
too_few_by asked xs f redone set = record { in_run = f; too_few = λ suffices. f.fails (suffices cheap_program witness_header xs f.lawful (made_by xs f.lawful redone set)) }

-- The world in which the acquire comes.
abbrev before_asking : List Event → World
before_asking before = world_after witness_world (due_run witness_world before)

-- What is found by computing: behind these events machine 1's first job is an acquire, it begins with nothing in its way and is refused, the run
-- is lawful, and its daemons do what is due. One declaration computes the run once.
record Shown (asked : Premises) (before during : List Event) : Type 0 where
  is_run : IsSome (seek_run witness_world (before ++ GiveCommand 1 exclusive_text ∷ during))
  laws : IsSome (seek_each_daemon (world_at cheap_program witness_header (due_run witness_world (before ++ GiveCommand 1 exclusive_text ∷ during))))
  start : IsSome (seek_start_under asked (before_asking before) 1 exclusive_text quiet_resource false 7)
  job : IsSome (seek_for FirstJob (machine_at (before_asking before) 1) seek_job)
  session : IsSome (seek_for FirstSession (machine_at (before_asking before) 1) seek_session)
  stays : IsSome (seek_stays asked (before_asking before) (due_run (before_asking before) (GiveCommand 1 exclusive_text ∷ during)) 1 1 quiet_resource false 7 0)
  refuses : IsSome (seek_refuses (world_after (before_asking before) (due_run (before_asking before) (GiveCommand 1 exclusive_text ∷ during))) 1 1)
  redone : IsRedone (world_at cheap_program witness_header (due_run witness_world (before ++ GiveCommand 1 exclusive_text ∷ during)))
  set : IsSet (world_at cheap_program witness_header (due_run witness_world (before ++ GiveCommand 1 exclusive_text ∷ during)))

shown_fails : (asked : Premises) (before during : List Event) → Shown asked before during → FailsIn asked (due_run witness_world (before ++ GiveCommand 1 exclusive_text ∷ during))
shown_fails asked before during s =
    record {
      lawful = lawful_by (before ++ GiveCommand 1 exclusive_text ∷ during) s.is_run
          (found (seek_each_daemon (world_at cheap_program witness_header (due_run witness_world (before ++ GiveCommand 1 exclusive_text ∷ during)))) s.laws);
      fails = refused_behind asked before during (found (seek_start_under asked (before_asking before) 1 exclusive_text quiet_resource false 7) s.start)
          (found (seek_for FirstJob (machine_at (before_asking before) 1) seek_job) s.job) (found (seek_for FirstSession (machine_at (before_asking before) 1) seek_session) s.session)
          (found (seek_stays asked (before_asking before) (due_run (before_asking before) (GiveCommand 1 exclusive_text ∷ during)) 1 1 quiet_resource false 7 0) s.stays)
          (found (seek_refuses (world_after (before_asking before) (due_run (before_asking before) (GiveCommand 1 exclusive_text ∷ during))) 1 1) s.refuses);
    }

shown_too_few : (asked : Premises) (before during : List Event) → Shown asked before during → AreTooFew asked (due_run witness_world (before ++ GiveCommand 1 exclusive_text ∷ during))
shown_too_few asked before during s =
    too_few_by asked (due_run witness_world (before ++ GiveCommand 1 exclusive_text ∷ during)) (shown_fails asked before during s) s.redone s.set

-- ---- late

abbrev late_asked : Premises
late_asked = record { in_time = false; sole_writer = true; modes_over = true; no_limit = true }

abbrev late_during : List Event
late_during = Do 1 1 ∷ Do 1 2 ∷ Pass 100 None ∷ Do 1 3 ∷ []

late_shown : Shown late_asked [] late_during
unfolding after_answer after_answer_of after_bytes after_end after_free after_input after_join_answer after_lease_answer after_renewal after_request_read after_see_request after_survey after_value_read area_next before_input begin_next begin_recoveries begin_recovery begins block_rules carry_decision carry_delta carry_lease checked_part count_event decided decoded delta_rules digits due due_step event_forms event_tests field_bytes fields_of finish finish_session first_change forms goes_on_with header_forms header_of header_tests initial_record instance_of join_on_wake kill_holders kills known leader_rules lease_next leave_holdings locks_after lvm_forms lvm_turn machine_of_header magic next_after_deciding next_after_first next_after_verify next_after_watch next_in_joining next_on_wake next_renewal on_exit on_line on_spawned on_wake own_rules padded_text pass_tests phase1_block phase2_block refuse renew_on_wake reply_words request_refusal request_rules see_requests settle settle_begin settle_next settle_on_wake settlings signal_and_refuse spelling stop_of take_input time_out time_outs told_effects u32_at u32_bytes u64_at u64_bytes value_rules within_turn
late_shown = record { is_run = refl; laws = refl; start = refl; job = refl; session = refl; stays = refl; refuses = refl; redone = refl; set = refl }

late_too_few : AreTooFew late_asked (due_run witness_world late_events)
late_too_few = shown_too_few late_asked [] late_during late_shown

-- ---- rival

abbrev rival_asked : Premises
rival_asked = record { in_time = true; sole_writer = false; modes_over = true; no_limit = true }

abbrev rival_during : List Event
rival_during = GiveCommand 2 (codes "acquire -r ls:r:/d:1048576 -p 9") ∷ Sample 1 1 4 ∷ Sample 2 1 4 ∷ AnswerCall 1 1 true
    ∷ AnswerCall 2 1 true ∷ Land 2 2 ∷ Do 1 2 ∷ Do 1 3 ∷ []

rival_shown : Shown rival_asked [] rival_during
unfolding after_answer after_answer_of after_bytes after_end after_free after_input after_join_answer after_lease_answer after_renewal after_request_read after_see_request after_survey after_value_read area_next before_input begin_next begin_recoveries begin_recovery begins block_rules carry_decision carry_delta carry_lease checked_part count_event decided decoded delta_rules digits due due_step event_forms event_tests field_bytes fields_of finish finish_session first_change forms goes_on_with header_forms header_of header_tests initial_record instance_of join_on_wake kill_holders kills known leader_rules lease_next leave_holdings locks_after lvm_forms lvm_turn machine_of_header magic next_after_deciding next_after_first next_after_verify next_after_watch next_in_joining next_on_wake next_renewal on_exit on_line on_spawned on_wake own_rules padded_text pass_tests phase1_block phase2_block refuse renew_on_wake reply_words request_refusal request_rules see_requests settle settle_begin settle_next settle_on_wake settlings signal_and_refuse spelling stop_of take_input time_out time_outs told_effects u32_at u32_bytes u64_at u64_bytes value_rules within_turn
rival_shown = record { is_run = refl; laws = refl; start = refl; job = refl; session = refl; stays = refl; refuses = refl; redone = refl; set = refl }

rival_too_few : AreTooFew rival_asked (due_run witness_world rival_events)
rival_too_few = shown_too_few rival_asked [] rival_during rival_shown

-- ---- sharing

abbrev sharing_asked : Premises
sharing_asked = record { in_time = true; sole_writer = true; modes_over = false; no_limit = true }

abbrev sharing_during : List Event
sharing_during = Do 1 1 ∷ Do 1 2 ∷ Do 1 3 ∷ []

sharing_shown : Shown sharing_asked sharing_events sharing_during
unfolding after_answer after_answer_of after_bytes after_end after_free after_input after_join_answer after_lease_answer after_renewal after_request_read after_see_request after_survey after_value_read area_next before_input begin_next begin_recoveries begin_recovery begins block_rules carry_decision carry_delta carry_lease checked_part count_event decided decoded delta_rules digits due due_step event_forms event_tests field_bytes fields_of finish finish_session first_change forms goes_on_with header_forms header_of header_tests initial_record instance_of join_on_wake kill_holders kills known leader_rules lease_next leave_holdings locks_after lvm_forms lvm_turn machine_of_header magic next_after_deciding next_after_first next_after_verify next_after_watch next_in_joining next_on_wake next_renewal on_exit on_line on_spawned on_wake own_rules padded_text pass_tests phase1_block phase2_block refuse renew_on_wake reply_words request_refusal request_rules see_requests settle settle_begin settle_next settle_on_wake settlings signal_and_refuse spelling stop_of take_input time_out time_outs told_effects u32_at u32_bytes u64_at u64_bytes value_rules within_turn
sharing_shown = record { is_run = refl; laws = refl; start = refl; job = refl; session = refl; stays = refl; refuses = refl; redone = refl; set = refl }

sharing_too_few : AreTooFew sharing_asked (due_run witness_world (sharing_events ++ asking_events))
sharing_too_few = shown_too_few sharing_asked sharing_events sharing_during sharing_shown

pub premises_tell : PremisesTell
premises_tell = record { in_time = late_too_few; sole_writer = rival_too_few; modes_over = sharing_too_few; no_limit = crowded_fails }

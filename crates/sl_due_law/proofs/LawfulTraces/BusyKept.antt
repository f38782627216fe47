-- No job is idle.
use Rattle.sl_due_facts.proofs.Acts.AnswersAreHeeded.{step_heeds}
use Rattle.sl_due_facts.proofs.Acts.InputsKeep.{has_heard}
use Rattle.sl_due_facts.proofs.Acts.LoopsKeep.{when_keeps}
use Rattle.sl_due_facts.proofs.Acts.SessionsStay.{Stays, delta_stays, itself, refusal_stays}
use Rattle.sl_due_facts.proofs.Acts.StepsKeep.{Fixed, due_is_of}
use Rattle.sl_due_facts.proofs.Acts.TracesKeep.{due_is_seen}
use Rattle.sl_due_facts.specs.Acts.Acts.{Acts, AnswerActs, Hears, OtherActs, next_of_settling}
use Rattle.sl_due_facts.specs.Acts.TraceSoFar.{entry_of}
use Rattle.sl_area.specs.AreaLayout.{delta_offset, request_offset}
use Rattle.sl_due.specs.Due.{IsDue, IsHostTrace, due_step}
use Rattle.sl_due.specs.DueAnswers.{set_reply}
use Rattle.sl_due.specs.DueCommands.{carry_decision, decided, reply_at_once}
use Rattle.sl_due.specs.CarriedDelta.{carry_delta, end_leaving, see_request}
use Rattle.sl_due.specs.DueRecovery.{begin_recoveries, send, signal_and_refuse, signal_holders}
use Rattle.sl_due.specs.DueTimeOuts.{refuse, remove_connection, remove_of_refused}
use Rattle.sl_due.specs.DueInputs.{end_holdings, leave_holdings, refuse_jobs_of, started_reply, when_running}
use Rattle.sl_due.specs.CarriedLease.{carry_lease, next_of_lease}
use Rattle.sl_due.specs.DueRequests.{after_request_read, after_value_read, bits_due, value_reply}
use Rattle.sl_due.specs.Steps.{Step, add_call_of, add_move, add_reply, add_signal, begin_step, seen, when, with_input}
use Rattle.sl_due.specs.declared.decision.Decision.{Decision}
use Rattle.sl_due.specs.declared.decision.Decision.TheVariants.{ConvertsTo, GetsValue, GivesUp, Joins, Leaves, ReadsArea, Replies, Requests, SetsValue, Shares, TakesOver}
use Rattle.sl_due_law.proofs.LawfulTraces.ActsRest.{Heard, Rested, answer_acts_rest, other_acts_rest, rested}
use Rattle.sl_due_law.proofs.LawfulTraces.AllIsKept.{all_begins}
use Rattle.sl_due_law.proofs.LawfulTraces.BusyActs.{Busy, BusyHeard, answered_busy, lined_busy, seen_busy}
use Rattle.sl_due_law.proofs.LawfulTraces.BusyRests.{Walks, alone, asked_busy, from_busy, heard_alone, joined_busy, late_alone, replied_busy, unfound_alone, walk, walked}
use Rattle.sl_due_law.proofs.LawfulTraces.CallersStay.{callers_stay}
use Rattle.sl_due_law.proofs.LawfulTraces.CallsSuit.{all_suit, suits_begin}
use Rattle.sl_due_law.proofs.LawfulTraces.ConvertsKept.{conversions_begin}
use Rattle.sl_due_law.proofs.LawfulTraces.IdlesRest.{idles_rest}
use Rattle.sl_due_law.proofs.LawfulTraces.JobsKnown.{HeardCallers, IsLore, JobsKnown, KnowsJobs, heard_callers, jobs_known}
use Rattle.sl_due_law.proofs.LawfulTraces.LeasesRest.{leases_rest}
use Rattle.sl_due_law.proofs.LawfulTraces.LinesRest.{lines_rest}
use Rattle.sl_due_law.proofs.LawfulTraces.SessionsOfJobs.{one_session, sessions_begin_one}
use Rattle.sl_due_law.proofs.LawfulTraces.StartsAnswered.{starts_answered}
use Rattle.sl_due_facts.specs.Facts.ConcludingActs.{Concludes}
use Rattle.sl_due_law.specs.LawfulTraces.JobLore.{CallSuits, Converting, JobLore, SameSession}
use Rattle.sl_trace.specs.declared.effects.Call.{Call}
use Rattle.sl_due_law.proofs.LawfulTraces.TracesHold.{traces_are_lawful, step_holds, traces_hold}
use Rattle.sl_due_law.proofs.LawfulTraces.WaitsAtEnd.{none_idle}
use Rattle.sl_due_law.proofs.LawfulTraces.WaitsStay.{waits_called}
use Rattle.sl_due_law.specs.LawfulTraces.Busy.{AllWait, For_call, For_child, For_leaving, For_session, Waits, told_by}
use Rattle.sl_due_law.specs.LawfulTraces.CarriedFacts.{Holds, Kept}
use Rattle.sl_due_law.specs.LawfulTraces.TraceLaws.{DueIsWellWith, EntriesAreCaused, MayRest, NoneIsIdle}
use Rattle.sl_due_facts.proofs.Jobs.JobFactsAreKept.{lone_of}
use Rattle.sl_due_facts.proofs.Jobs.AnsweredCallsFit.{both_of}
use Rattle.sl_due_facts.proofs.Jobs.CallsHaveFacts.{sessions_bare}
use Rattle.sl_due_facts.proofs.Jobs.CallsOfJobsFit.{joining_of}
use Rattle.sl_due_facts.proofs.Jobs.EffectsAreAllowed.{DecisionAllowed, decision, delta, ended, exited, lease, left, refusal, removal, removal_of_refused, said, sent, signalled, stopped}
use Rattle.sl_due_facts.proofs.Jobs.JobsAreNumbered.{found_before}
use Rattle.sl_due_leases.proofs.Grants.Values.ReadsByInputs.{has_number, woken}
use Rattle.sl_due_facts.proofs.Jobs.LinesAreAllowed.{IsBegun}
use Rattle.sl_due_facts.proofs.Jobs.NearlyPlainActs.{AnyMove, AnyStart, Anything, NoLook, decision_plain, free_plain, freed_plain, joining_plain, lease_plain, renewal_plain, renewed_plain}
use Rattle.sl_due_facts.proofs.Jobs.RepliesComeAfter.{joining_late, wake_late}
use Rattle.sl_due_facts.proofs.Jobs.SessionsStand.{reply_stops}
use Rattle.sl_run.specs.Caused.{IsCaused}
use Rattle.sl_run.specs.Lawful.{IsSetting}
use Rattle.sl_trace.specs.Jobs.{command_numbered, job_of_start}
use Rattle.sl_trace.specs.Leases.{spot_of_call}
use Rattle.sl_trace.specs.declared.lease.LeaseNext.{LeaseNext}
use Rattle.sl_words.proofs.Lists.{contains_none, find_inside, head_is}
use Rattle.sl_words.proofs.Options.{some_of}
use Rattle.sl_due_law.proofs.Recovery.FreesConclude.{free_written}
use Rattle.sl_due_law.proofs.Recovery.StopsBegin.{IsDenial, Says, begun_says, with_said}
use Rattle.sl_due_law.proofs.Recovery.StopsConclude.{old_session}
use Rattle.sl_trace.specs.DeltaDecisions.{delta_known, delta_of_session, next_after_free, next_after_renewal, next_free, next_in_joining, next_on_wake, next_renewal}
use Rattle.sl_trace.specs.Sessions.{calls_of, generation_of, is_present, recovery_of, session_numbered, sessions}
use Rattle.sl_trace.specs.declared.delta.DeltaNext.{DeltaNext}
use Rattle.sl_trace.specs.declared.session.Session.{Session}
use Rattle.sl_due_facts.specs.Facts.HeardCall.{heard_by}
use Rattle.sl_due_facts.specs.Facts.JobFacts.{FitsCommand}
use Rattle.sl_due_facts.specs.Facts.AllFacts.{Whole}
use Rattle.sl_trace.specs.WatchdogConnections.{is_registered}
use Rattle.sl_trace.specs.Traces.{FollowsTrace, Job, Replied, Setting, Submitted, Trace, call_numbered, child_after, children, is_running, job_of, jobs, new_child, next_job, reply_in, reply_to, submitted, work_job}
use Rattle.sl_trace.specs.declared.command.Command.{Command}
use Rattle.sl_trace.specs.declared.command.LockspaceArg.{LockspaceArg}
use Rattle.sl_trace.specs.declared.effects.Entry.{Entry}
use Rattle.sl_trace.specs.declared.effects.JoinStep.TheVariants.{FirstRead}
use Rattle.sl_trace.specs.declared.effects.Move.TheVariants.{Unregister}
use Rattle.sl_trace.specs.declared.effects.Op.TheVariants.{ReadSectors}
use Rattle.sl_trace.specs.declared.effects.Purpose.TheVariants.{Joining, RequestRead, SeeRequest}
use Rattle.sl_trace.specs.declared.effects.Signal.TheVariants.{Kill, Term}
use Rattle.sl_trace.specs.declared.effects.Work.TheVariants.{Settling}
use Rattle.sl_trace.specs.declared.input.Answer.{Answer}
use Rattle.sl_trace.specs.declared.input.Answer.TheVariants.{Failed, Read, Written}
use Rattle.sl_trace.specs.declared.input.Input.{Input}
use Rattle.sl_trace.specs.declared.input.Input.TheVariants.{Answer as Told, Exit, Line, Number, Spawned, Wake}
use Rattle.sl_trace.specs.declared.reply.Reply.{Reply}
use Rattle.sl_trace.specs.declared.reply.Reply.TheVariants.{BadCommand as Misread, Done, IoFault, IoTimeout, SpawnFault}
use Rattle.sl_words.proofs.CaseLaws.{false_is_true, none_some, not_both, some_value}
use Rattle.std.proofs.Common.{ap, inl, inr, refl, subst, sym, ◌∙◌}
use Rattle.std.proofs.lemmas.List.{append-nil}
use Rattle.std.specs.Prelude.{Bool, Contains, List, None, Ok, Option, Some, [], false, find, is_none, is_some, map, true, ℕ, ◌==◌, ◌∷◌, ◌≡◌, ◌⊎◌}

abbrev Waiting : Step → Type 0
Waiting x = Rested x × Busy x

abbrev HeardWaiting : Step → Type 0
HeardWaiting x = Heard x × BusyHeard x

record HeardJobs (x : Step) : Type 0 where
  known : JobsKnown x
  callers : HeardCallers x

abbrev HeardKnowing : Step → Type 0
HeardKnowing x = HeardWaiting x × HeardJobs x

abbrev Knowing : Step → Type 0
Knowing x = Waiting x × JobsKnown x

-- ---- acts but those of an answer

carried_walk : (x : Step) (text : List ℕ) (c : Command) (d : Decision) → x.input ≡ Wake → x.effects.calls ≡ [] → Busy x
    → Walks (Line text) (Some (next_job x.setting (seen x))) (carry_decision (next_job x.setting (seen x)) c d (with_input (Line text) x))
unfolding carry_decision
carried_walk x text c d wake bare h = by (decision_plain K w j c d) where
  w : Step
  w = with_input (Line text) x

  j : ℕ
  j = next_job x.setting (seen x)

  K : Step → Type 0
  K = Walks (Line text) (Some (next_job x.setting (seen x)))

  lined : Walks (Line text) (Some (next_job x.setting (seen x))) (with_input (Line text) x)
  lined = (refl, lined_busy x text wake bare h)

  begins : (n : ℕ) (a : LockspaceArg) → Walks (Line text) (Some (next_job x.setting (seen x))) (carry_decision (next_job x.setting (seen x)) c (Joins n a) (with_input (Line text) x))
  begins n a =
      let y : Step = add_call_of n a.path (Joining (next_job x.setting (seen x)) FirstRead) (delta_offset x.setting.layout a.offset a.id) (ReadSectors 1) (with_input (Line text) x) in (
        refl,
        λ i there runs other.
            waits_called (with_input (Line text) x) None n a.path (Joining (next_job x.setting (seen x)) FirstRead) (delta_offset x.setting.layout a.offset a.id) (ReadSectors 1) i.number
            (λ s inside. old_session y s (subst (λ ss. Contains ss s) (sessions_bare (with_input (Line text) x) bare) inside)) (lined_busy x text wake bare h i there runs other),
      )

  begun : (z : Decision) → IsBegun z → Walks (Line text) (Some (next_job x.setting (seen x))) (carry_decision (next_job x.setting (seen x)) c z (with_input (Line text) x))
  begun (Joins n a) k = begins n a
  begun (Leaves s) k = absurd k
  begun (Replies r) k = absurd k
  begun (ReadsArea s r) k = absurd k
  begun (Shares s lver) k = absurd k
  begun (GivesUp s g) k = absurd k
  begun (TakesOver s g) k = absurd k
  begun (ConvertsTo s r mode) k = absurd k
  begun (Requests s r) k = absurd k
  begun (SetsValue s spot v) k = absurd k
  begun (GetsValue s spot) k = absurd k

  by : IsBegun d ⊎ DecisionAllowed (Walks (Line text) (Some (next_job x.setting (seen x)))) Anything NoLook AnyStart (with_input (Line text) x) (next_job x.setting (seen x)) c d
      → Walks (Line text) (Some (next_job x.setting (seen x))) (carry_decision (next_job x.setting (seen x)) c d (with_input (Line text) x))
  by (inr may) =
      decision (Walks (Line text) (Some (next_job x.setting (seen x)))) (Walks (Line text) (Some (next_job x.setting (seen x)))) Anything NoLook AnyStart AnyMove (walk (Line text) (Some (next_job x.setting (seen x))))
      (with_input (Line text) x) (next_job x.setting (seen x)) c d may (λ n a joins. begins n a) lined
  by (inl k) = begun d k

other_acts_wait : OtherActs Waiting
other_acts_wait =
    let r : OtherActs Rested = other_acts_rest in
    record {
      kills = λ x s has due h.
          (r.kills x s has due h.0, alone (signal_holders Kill s x) x.input (signalled (Walks x.input None) (Walks x.input None) Anything NoLook AnyStart AnyMove (walk x.input None) tt x Kill s (from_busy x h.1)));
      times_out = λ x j m wake bare runs waits late_one h. (
        r.times_out x j m wake bare runs waits late_one h.0,
        alone (refuse j (IoTimeout m.call.number m.reading x.reading) x) x.input (refusal (Walks x.input None) (Walks x.input None) Anything NoLook AnyStart AnyMove (walk x.input None) x j (IoTimeout m.call.number m.reading x.reading) tt (λ z is. tt) (from_busy x h.1)),
      );
      counts = λ x text wake bare h. (r.counts x text wake bare h.0, seen_busy x (Number text) wake bare refl h.1);
      exits = λ x n wake bare one h.
          let w : Step = with_input (Exit n) x in (
            r.exits x n wake bare one h.0,
            alone (refuse_jobs_of n (leave_holdings n w)) (Exit n) (exited (Walks (Exit n) None) (Walks (Exit n) None) Anything NoLook AnyStart AnyMove (walk (Exit n) None) (leave_holdings n w) n (λ j there. tt)
                (left (Walks (Exit n) None) (Walks (Exit n) None) Anything NoLook AnyStart AnyMove (walk (Exit n) None) w n (from_busy w (seen_busy x (Exit n) wake bare refl h.1)))),
          );
      exits_as_none = λ x n wake bare none h. (r.exits_as_none x n wake bare none h.0, seen_busy x (Exit n) wake bare refl h.1);
      starts = λ x n ok wake bare expected h. (r.starts x n ok wake bare expected h.0, seen_busy x (Spawned n ok) wake bare refl h.1);
      fails_to_start = λ x n input h. (
        r.fails_to_start x n input h.0,
        alone (when_running (job_of_start (seen x) n) SpawnFault (end_holdings n x)) x.input (said (Walks x.input None) (Walks x.input None) Anything NoLook AnyStart AnyMove (walk x.input None) (end_holdings n x) (job_of_start (seen x) n) SpawnFault (λ j is. tt)
            (ended (Walks x.input None) (Walks x.input None) Anything NoLook AnyStart AnyMove (walk x.input None) x n (from_busy x h.1))),
      );
      signals_instead = λ x n o input stood h. (r.signals_instead x n o input stood h.0, alone (add_signal o Term x) x.input ((walk x.input None).signals x o Term (from_busy x h.1)));
      says_started = λ x n j input is runs h.
          (r.says_started x n j input is runs h.0, alone (add_reply j (started_reply (seen x) n) x) x.input ((walk x.input None).replies x j (started_reply (seen x) n) tt (from_busy x h.1)));
      misreads = λ x text column wake bare says h. (r.misreads x text column wake bare says h.0, answered_busy x text (Misread column) wake bare h.1);
      answers = λ x text c q wake bare says is h. (r.answers x text c q wake bare says is h.0, answered_busy x text q wake bare h.1);
      carries = λ x text c d wake bare says is more h. (
        r.carries x text c d wake bare says is more h.0,
        walked (carry_decision (next_job x.setting (seen x)) c d (with_input (Line text) x)) (Line text) (Some (next_job x.setting (seen x))) (carried_walk x text c d wake bare h.1)
            (λ j its runs. line_rests x text c d j h.0.0 wake bare says is more its runs),
      );
      joins_in_time = λ x s j has wake is runs h.
          let n : DeltaNext = next_on_wake (delta_of_session x.setting s) x.reading (calls_of (seen x) s) in (
            r.joins_in_time x s j has wake is runs h.0,
            alone (carry_delta s n x) x.input (delta (Walks x.input None) (Walks x.input None) Anything NoLook AnyStart AnyMove (walk x.input None) x s n
                (joining_plain x s n (wake_late (delta_of_session x.setting s) x.reading (calls_of (seen x) s))) (from_busy x h.1)),
          );
      renews = λ x s has wake joined h.
          let bits : List ℕ = bits_due x.setting (calls_of (seen x) s) x.reading in
          let n : DeltaNext = next_renewal (delta_of_session x.setting s) x.reading (delta_known x.setting (seen x) s) bits in (
            r.renews x s has wake joined h.0,
            alone (carry_delta s n x) x.input (delta (Walks x.input None) (Walks x.input None) Anything NoLook AnyStart AnyMove (walk x.input None) x s n
                (renewal_plain x s (delta_of_session x.setting s) x.reading (delta_known x.setting (seen x) s) bits) (from_busy x h.1)),
          );
      settles = λ x s spot has wake active whole none h.
          let n : LeaseNext = next_of_settling x.setting (seen x) s spot in (
            r.settles x s spot has wake active whole none h.0,
            alone (carry_lease s spot Settling n x) x.input (lease (Walks x.input None) (Walks x.input None) Anything NoLook AnyStart AnyMove (walk x.input None) x s spot Settling n (lease_plain x s spot Settling n) (from_busy x h.1)),
          );
      parts = λ x s p1 p2 p3 p4 p5 h.
          (r.parts x s p1 p2 p3 p4 p5 h.0, alone (remove_connection s.lockspace x) x.input (removal (Walks x.input None) (Walks x.input None) Anything NoLook AnyStart AnyMove (walk x.input None) x s.lockspace tt (from_busy x h.1)));
      frees = λ x s p1 p2 p3 p4 p5 h.
          let n : DeltaNext = next_free (delta_of_session x.setting s) x.reading (delta_known x.setting (seen x) s) in (
            r.frees x s p1 p2 p3 p4 p5 h.0,
            alone (carry_delta s n x) x.input (delta (Walks x.input None) (Walks x.input None) Anything NoLook AnyStart AnyMove (walk x.input None) x s n
                (free_plain x s (delta_of_session x.setting s) x.reading (delta_known x.setting (seen x) s)) (from_busy x h.1)),
          );
    } where
      line_rests : (x : Step) (text : List ℕ) (c : Command) (d : Decision) (j : ℕ) → Kept x → x.input ≡ Wake → x.effects.calls ≡ [] → x.setting.read text ≡ Ok c → decided x.setting (seen x) x.reading c ≡ d → reply_at_once d ≡ None
          → Some (next_job x.setting (seen x)) ≡ Some j → MayRest (carry_decision (next_job x.setting (seen x)) c d (with_input (Line text) x)) j
      line_rests x text c d j k wake bare says is more its =
          subst (λ n. MayRest (carry_decision (next_job x.setting (seen x)) c d (with_input (Line text) x)) n) (some_value (next_job x.setting (seen x)) j its) (lines_rest x text c d k wake bare says is more)

-- ---- an answer's acts

-- What ends a leaving leaves its job done.
freed_stops : (x : Step) (s : Session) (j n : ℕ) (answer : Answer) → ((bytes : List ℕ) → answer ≡ Read bytes → ⊥) → is_running (seen (carry_delta s (next_after_free j n answer) x)) j ≡ false
unfolding carry_delta
freed_stops x s j n answer writes = by answer writes where
  ended : (r : Reply) → is_running (seen (end_leaving s j r x)) j ≡ false
  ended r = said_then (is_running (seen x) j) refl where
    before : is_running (seen (remove_connection s.lockspace x)) j ≡ is_running (seen x) j
    before = when_keeps (λ z. is_running (seen z) j ≡ is_running (seen x) j) (is_registered x.setting (seen x) s.lockspace) (add_move (Unregister s.lockspace)) x (λ up h. h) refl

    said_then : (b : Bool) → is_running (seen x) j ≡ b → is_running (seen (when b (add_reply j r) (remove_connection s.lockspace x))) j ≡ false
    said_then true runs = reply_stops (remove_connection s.lockspace x) j r
    said_then false stops = before ∙ stops

  by : (a : Answer) → ((bytes : List ℕ) → a ≡ Read bytes → ⊥) → is_running (seen (carry_delta s (next_after_free j n a) x)) j ≡ false
  by Written other = ended Done
  by Failed other = ended (IoFault n)
  by (Read bytes) other = absurd (other bytes refl)

answers_conclude : Concludes HeardKnowing Waiting Waiting
unfolding after_value_read
answers_conclude =
    let r : AnswerActs Heard Rested = answer_acts_rest in
    record {
      finds_none = λ x number answer p1 p2 h. (r.finds_none x number answer p1 p2 h.0.0, unfound_alone x number answer h.0.0.0.known.0 p1 p2 h.0.1);
      finds_nobody = λ x number answer m p1 p2 nobody h.
          let there = (find_inside (λ (z : Submitted). z.call.number == number) (submitted (seen x)) m p2).0 in
          let s = some_of (session_numbered x.setting (seen x) m.call.session) (h.0.0.0.known.0.facts.calls.owned m there) in absurd (none_some s.0 (sym nobody ∙ s.1));
      comes_late = λ x number answer m s p1 p2 p3 p4 h.
          (r.comes_late x number answer m s p1 p2 p3 p4 h.0.0, late_alone x number answer m h.0.0.0.known.0 p1 p2 h.0.1 (λ j its runs. late_rests x number answer m s j h.1.callers p1 p2 p3 p4 its runs));
      idles = λ x s m answer hears idle h. (
        r.idles x s m answer hears idle h.0.0,
        walked x (Told hears.number answer) (job_of m.call.purpose) (heard_alone x s m answer (job_of m.call.purpose) h.0.0.0.known.0 hears refl h.0.1) (λ j its runs. idles_rest x s m answer j h.0.0.0 h.1.known.lore.suit hears idle its runs),
      );
      joins_on = λ x s j step m answer hears is runs h.
          let n : DeltaNext = next_in_joining (delta_of_session x.setting s) (generation_of (seen x) s) (calls_of (seen x) s) x.reading m step answer in
          let i : Input = Told hears.number answer in
          let own : Walks i (Some j) x = heard_alone x s m answer (Some j) h.0.0.0.known.0 hears (ap (λ p. job_of p) is) h.0.1 in
          let stays : Stays x (carry_delta s n x) = delta_stays x x s n (itself x) in (
            r.joins_on x s j step m answer hears is runs h.0.0,
            joined_busy x (carry_delta s n x) i s j (delta (Walks i (Some j)) (Walks i (Some j)) Anything NoLook AnyStart AnyMove (walk i (Some j)) x s n
                (joining_plain x s n (joining_late (delta_of_session x.setting s) (generation_of (seen x) s) (calls_of (seen x) s) x.reading m step answer)) own) (stays.sessions s (has_heard x s m answer hears))
                (joining_of x s m j step (both_of x h.0.0.0.known.0) (find_inside (λ (d : Submitted). d.call.number == hears.number) (submitted (seen x)) m hears.call).0 hears.session is),
          );
      ends_joining = λ x s j step m answer hears is stops h.
          let i : Input = Told hears.number answer in
          let own : Walks i (Some j) x = heard_alone x s m answer (Some j) h.0.0.0.known.0 hears (ap (λ p. job_of p) is) h.0.1 in
          let stays : Stays x (remove_of_refused s x) = refusal_stays x x s (itself x) in (
            r.ends_joining x s j step m answer hears is stops h.0.0,
            joined_busy x (remove_of_refused s x) i s j (removal_of_refused (Walks i (Some j)) (Walks i (Some j)) Anything NoLook AnyStart AnyMove (walk i (Some j)) x s tt own) (stays.sessions s (has_heard x s m answer hears))
                (joining_of x s m j step (both_of x h.0.0.0.known.0) (find_inside (λ (d : Submitted). d.call.number == hears.number) (submitted (seen x)) m hears.call).0 hears.session is),
          );
      renewed = λ x s m answer hears is h.
          let i : Input = Told hears.number answer in
          let n : DeltaNext = next_after_renewal (is_some (recovery_of x.setting (seen x) s)) m.reading answer in (
            r.renewed x s m answer hears is h.0.0,
            alone (carry_delta s n x) i (delta (Walks i None) (Walks i None) Anything NoLook AnyStart AnyMove (walk i None) x s n (renewed_plain x s (is_some (recovery_of x.setting (seen x) s)) m.reading answer)
                (heard_alone x s m answer None h.0.0.0.known.0 hears (ap (λ p. job_of p) is) h.0.1)),
          );
      freed = λ x s j m answer hears is h.
          let i : Input = Told hears.number answer in
          let n : DeltaNext = next_after_free j m.call.number answer in (
            r.freed x s j m answer hears is h.0.0,
            walked (carry_delta s n x) i (Some j) (delta (Walks i (Some j)) (Walks i (Some j)) Anything NoLook AnyStart AnyMove (walk i (Some j)) x s n (freed_plain x s j m.call.number answer)
                (heard_alone x s m answer (Some j) h.0.0.0.known.0 hears (ap (λ p. job_of p) is) h.0.1))
                (λ k its runs. absurd (not_both (is_running (seen (carry_delta s n x)) k) runs
                (subst (λ q. is_running (seen (carry_delta s n x)) q ≡ false) (some_value j k its) (freed_stops x s j m.call.number answer (free_written x s j m answer h.0.0.0.known.0 hears is))))),
          );
      shown = λ x s m bytes hears is joined begins h.
          let i : Input = Told hears.number (Read bytes) in (
            r.shown x s m bytes hears is joined begins h.0.0,
            alone (signal_and_refuse s None x) i (stopped (Walks i None) (Walks i None) Anything NoLook AnyStart AnyMove (walk i None) tt x s None (λ z k j there. tt)
                (heard_alone x s m (Read bytes) None h.0.0.0.known.0 hears (ap (λ p. job_of p) is) h.0.1)),
          );
      sees = λ x s number bytes spot g has input held h. (
        r.sees x s number bytes spot g has input held h.0,
        alone (see_request s g x) x.input ((walk x.input None).calls x s g.path SeeRequest (request_offset x.setting.layout g.offset) (ReadSectors 1) refl (from_busy x h.1)),
      );
      leads_on = λ x s work step m answer aim hears is on aims h.
          let i : Input = Told hears.number answer in
          let n : LeaseNext = next_of_lease x.setting (seen x) s (spot_of_call x.setting.layout m) aim m step answer in (
            r.leads_on x s work step m answer aim hears is on aims h.0.0,
            walked (carry_lease s (spot_of_call x.setting.layout m) work n x) i (work_job work) (lease (Walks i (work_job work)) (Walks i (work_job work)) Anything NoLook AnyStart AnyMove (walk i (work_job work)) x s
                (spot_of_call x.setting.layout m) work n (lease_plain x s (spot_of_call x.setting.layout m) work n) (heard_alone x s m answer (work_job work) h.0.0.0.known.0 hears (ap (λ p. job_of p) is) h.0.1))
                (λ j its runs. leases_rest x s work step m answer aim j h.0.0.0 h.1.known.lore hears is on aims its runs),
          );
      fails = λ x s m j hears lone runs h.
          (r.fails x s m j hears lone runs h.0.0, replied_busy x (Told hears.number Failed) j (IoFault m.call.number) (heard_alone x s m Failed (Some j) h.0.0.0.known.0 hears (lone_of m.call.purpose j lone) h.0.1));
      has_asked = λ x s m j owner hears is runs h.
          (r.has_asked x s m j owner hears is runs h.0.0, replied_busy x (Told hears.number Written) j Done (heard_alone x s m Written (Some j) h.0.0.0.known.0 hears (ap (λ p. job_of p) is) h.0.1));
      has_set = λ x s m j hears is runs h.
          (r.has_set x s m j hears is runs h.0.0, replied_busy x (Told hears.number Written) j (set_reply m) (heard_alone x s m Written (Some j) h.0.0.0.known.0 hears (ap (λ p. job_of p) is) h.0.1));
      asks = λ x s m j bytes c hears is runs reads_one h. (
        r.asks x s m j bytes c hears is runs reads_one h.0.0,
        asks_busy x s m j bytes c h.0.0.0.known.0 hears is reads_one (heard_alone x s m (Read bytes) (Some j) h.0.0.0.known.0 hears (ap (λ p. job_of p) is) h.0.1),
      );
      tells = λ x s m j bytes hears is runs h. (
        r.tells x s m j bytes hears is runs h.0.0,
        replied_busy x (Told hears.number (Read bytes)) j (value_reply x.setting.layout bytes) (heard_alone x s m (Read bytes) (Some j) h.0.0.0.known.0 hears (ap (λ p. job_of p) is) h.0.1),
      );
      warns = λ x s m bytes g signal hears is held own says h.
          let i : Input = Told hears.number (Read bytes) in (
            r.warns x s m bytes g signal hears is held own says h.0.0,
            alone (send g.process signal x) i (sent (Walks i None) (Walks i None) Anything NoLook AnyStart AnyMove (walk i None) tt x g.process signal (heard_alone x s m (Read bytes) None h.0.0.0.known.0 hears (ap (λ p. job_of p) is) h.0.1)),
          );
      parts = other_acts_wait.parts;
      frees = other_acts_wait.frees;
    } where
      asks_busy : (x : Step) (s : Session) (m : Submitted) (j : ℕ) (bytes : List ℕ) (c : Command) → Whole x → (hears : Hears x s m (Read bytes)) → m.call.purpose ≡ RequestRead j → command_numbered x.setting (seen x) j ≡ Some c
          → Walks (Told hears.number (Read bytes)) (Some j) x → Busy (after_request_read s j bytes c x)
      asks_busy x s m j bytes c w hears is reads_one own =
          let there = (find_inside (λ (d : Submitted). d.call.number == hears.number) (submitted (seen x)) m hears.call).0 in
          let f : FitsCommand x.setting s m c m.call.purpose = w.facts.jobs.fits m j s c there (ap (λ p. job_of p) is) hears.session reads_one in
          let g : FitsCommand x.setting s m c (RequestRead j) = subst (λ p. FitsCommand x.setting s m c p) is f in
          subst (λ d. Busy (after_request_read s j bytes d x)) (sym g.3) (asked_busy x (Told hears.number (Read bytes)) s j bytes g.0 g.1 g.2 own)

      -- the session of an open call of a running job would be present
      late_rests : (x : Step) (n : ℕ) (answer : Answer) (m : Submitted) (s : Session) (j : ℕ) → HeardCallers x → x.input ≡ Told n answer → call_numbered (seen x) n ≡ Some m → session_numbered x.setting (seen x) m.call.session ≡ Some s
          → is_present (seen (with_input Wake x)) s ≡ false → job_of m.call.purpose ≡ Some j → MayRest x j
      late_rests x n answer m s j callers told found has gone its runs = absurd (not_both (is_present (seen (with_input Wake x)) s) (callers n answer m j s told found its runs has) gone)

-- ---- all acts

knows : (x : Step) → Knowing x → KnowsJobs x
knows x h = (h.0.0.0, h.1)

knows_heard : (x : Step) → HeardKnowing x → KnowsJobs x
knows_heard x h = (h.0.0.0, h.1.known)

other_acts_know : OtherActs Knowing
other_acts_know =
    let o : OtherActs Waiting = other_acts_wait in
    let a : Acts KnowsJobs JobsKnown = jobs_known in
    record {
      kills = λ x s p1 p2 h. (o.kills x s p1 p2 h.0, a.kills x s p1 p2 (knows x h));
      times_out = λ x j m p1 p2 p3 p4 p5 h. (o.times_out x j m p1 p2 p3 p4 p5 h.0, a.times_out x j m p1 p2 p3 p4 p5 (knows x h));
      counts = λ x text p1 p2 h. (o.counts x text p1 p2 h.0, a.counts x text p1 p2 (knows x h));
      exits = λ x n p1 p2 p3 h. (o.exits x n p1 p2 p3 h.0, a.exits x n p1 p2 p3 (knows x h));
      exits_as_none = λ x n p1 p2 p3 h. (o.exits_as_none x n p1 p2 p3 h.0, a.exits_as_none x n p1 p2 p3 (knows x h));
      starts = λ x n ok p1 p2 p3 h. (o.starts x n ok p1 p2 p3 h.0, a.starts x n ok p1 p2 p3 (knows x h));
      fails_to_start = λ x n p1 h. (o.fails_to_start x n p1 h.0, a.fails_to_start x n p1 (knows x h));
      signals_instead = λ x n q p1 p2 h. (o.signals_instead x n q p1 p2 h.0, a.signals_instead x n q p1 p2 (knows x h));
      says_started = λ x n j p1 p2 p3 h. (o.says_started x n j p1 p2 p3 h.0, a.says_started x n j p1 p2 p3 (knows x h));
      misreads = λ x text column p1 p2 p3 h. (o.misreads x text column p1 p2 p3 h.0, a.misreads x text column p1 p2 p3 (knows x h));
      answers = λ x text c r p1 p2 p3 p4 h. (o.answers x text c r p1 p2 p3 p4 h.0, a.answers x text c r p1 p2 p3 p4 (knows x h));
      carries = λ x text c d p1 p2 p3 p4 p5 h. (o.carries x text c d p1 p2 p3 p4 p5 h.0, a.carries x text c d p1 p2 p3 p4 p5 (knows x h));
      joins_in_time = λ x s j p1 p2 p3 p4 h. (o.joins_in_time x s j p1 p2 p3 p4 h.0, a.joins_in_time x s j p1 p2 p3 p4 (knows x h));
      renews = λ x s p1 p2 p3 h. (o.renews x s p1 p2 p3 h.0, a.renews x s p1 p2 p3 (knows x h));
      settles = λ x s spot p1 p2 p3 p4 p5 h. (o.settles x s spot p1 p2 p3 p4 p5 h.0, a.settles x s spot p1 p2 p3 p4 p5 (knows x h));
      parts = λ x s p1 p2 p3 p4 p5 h. (o.parts x s p1 p2 p3 p4 p5 h.0, a.parts x s p1 p2 p3 p4 p5 (knows x h));
      frees = λ x s p1 p2 p3 p4 p5 h. (o.frees x s p1 p2 p3 p4 p5 h.0, a.frees x s p1 p2 p3 p4 p5 (knows x h));
    }

answer_acts_know : AnswerActs HeardKnowing Knowing
answer_acts_know =
    let r : AnswerActs Heard Rested = answer_acts_rest in
    let o : Concludes HeardKnowing Waiting Waiting = answers_conclude in
    let a : Acts KnowsJobs JobsKnown = jobs_known in
    record {
      hears = λ x number answer wake bare expected h. (
        (r.hears x number answer wake bare expected h.0.0, seen_busy x (Told number answer) wake bare refl h.0.1),
        record { known = a.hears x number answer wake bare expected (knows x h); callers = heard_callers x number answer wake bare expected h.0.0.0 h.1.lore },
      );
      finds_none = λ x number answer p1 p2 h. (o.finds_none x number answer p1 p2 h, h.1.known);
      finds_nobody = λ x number answer m p1 p2 p3 h. (o.finds_nobody x number answer m p1 p2 p3 h, h.1.known);
      comes_late = λ x number answer m s p1 p2 p3 p4 h. (o.comes_late x number answer m s p1 p2 p3 p4 h, h.1.known);
      idles = λ x s m answer p1 p2 h. (o.idles x s m answer p1 p2 h, h.1.known);
      joins_on = λ x s j step m answer p1 p2 p3 h. (o.joins_on x s j step m answer p1 p2 p3 h, a.joins_on x s j step m answer p1 p2 p3 (knows_heard x h));
      ends_joining = λ x s j step m answer p1 p2 p3 h. (o.ends_joining x s j step m answer p1 p2 p3 h, a.ends_joining x s j step m answer p1 p2 p3 (knows_heard x h));
      renewed = λ x s m answer p1 p2 h. (o.renewed x s m answer p1 p2 h, a.renewed x s m answer p1 p2 (knows_heard x h));
      freed = λ x s j m answer p1 p2 h. (o.freed x s j m answer p1 p2 h, a.freed x s j m answer p1 p2 (knows_heard x h));
      shown = λ x s m bytes p1 p2 p3 p4 h. (o.shown x s m bytes p1 p2 p3 p4 h, a.shown x s m bytes p1 p2 p3 p4 (knows_heard x h));
      sees = λ x s number bytes at g p1 p2 p3 h. (o.sees x s number bytes at g p1 p2 p3 h.0, a.sees x s number bytes at g p1 p2 p3 (knows x h));
      leads_on = λ x s work step m answer aim p1 p2 p3 p4 h. (o.leads_on x s work step m answer aim p1 p2 p3 p4 h, a.leads_on x s work step m answer aim p1 p2 p3 p4 (knows_heard x h));
      fails = λ x s m j p1 p2 p3 h. (o.fails x s m j p1 p2 p3 h, a.fails x s m j p1 p2 p3 (knows_heard x h));
      has_asked = λ x s m j owner p1 p2 p3 h. (o.has_asked x s m j owner p1 p2 p3 h, a.has_asked x s m j owner p1 p2 p3 (knows_heard x h));
      has_set = λ x s m j p1 p2 p3 h. (o.has_set x s m j p1 p2 p3 h, a.has_set x s m j p1 p2 p3 (knows_heard x h));
      asks = λ x s m j bytes c p1 p2 p3 p4 h. (o.asks x s m j bytes c p1 p2 p3 p4 h, a.asks x s m j bytes c p1 p2 p3 p4 (knows_heard x h));
      tells = λ x s m j bytes p1 p2 p3 h. (o.tells x s m j bytes p1 p2 p3 h, a.tells x s m j bytes p1 p2 p3 (knows_heard x h));
      warns = λ x s m bytes g signal p1 p2 p3 p4 p5 h. (o.warns x s m bytes g signal p1 p2 p3 p4 p5 h, a.warns x s m bytes g signal p1 p2 p3 p4 p5 (knows_heard x h));
    }

-- ---- entries

-- A trace that holds, and in which each running job waits.
pub record HoldsWaiting (st : Setting) (t : Trace) : Type 0 where
  pub holds : Holds st t
  pub waits : AllWait st t None None
  pub lore : JobLore st t

busy_begins : (st : Setting) (past : Trace) (now : ℕ) → AllWait st past None None → Busy (begin_recoveries (begin_step st past now))
busy_begins st past now h = subst (λ y. Busy y) (sym said_so.is) (λ j there runs. again j (h j (subst (λ js. Contains js j) (append-nil (jobs st past)) there) (ran j.number runs))) where
  said_so : Says IsDenial (begin_step st past now) (begin_recoveries (begin_step st past now))
  said_so = begun_says st past now

  z : Step
  z = with_said (begin_step st past now) said_so.signals said_so.starts said_so.replies

  ran : (n : ℕ) → is_running (seen (with_said (begin_step st past now) said_so.signals said_so.starts said_so.replies)) n ≡ true → is_running past n ≡ true
  ran n runs = by (reply_to past n) runs where
    by : (o : Option Replied) → is_none (elim o as (λ w. Option Replied) [ Some q ↦ Some q | None ↦ reply_in n past (entry_of (with_said (begin_step st past now) said_so.signals said_so.starts said_so.replies)) ]) ≡ true → is_none o ≡ true
    by None g = refl
    by (Some q) g = absurd (false_is_true g)

  sessions_same : sessions st past ≡ sessions st (seen (with_said (begin_step st past now) said_so.signals said_so.starts said_so.replies))
  sessions_same = sym (append-nil (sessions st past))

  again : (j : Job) → Waits st past None None j.number → Waits st (seen (with_said (begin_step st past now) said_so.signals said_so.starts said_so.replies)) None None j.number
  again j (For_session s there its) = For_session s (subst (λ ss. Contains ss s) sessions_same there) its
  again j (For_call m there opens its) = For_call m there opens its
  again j (For_child k there its opens) =
      For_child k (found_before (has_number k.process) (map (child_after Wake) (children past)) (map new_child said_so.starts) k (ap (λ ks. find (has_number k.process) ks) (woken (children past)) ∙ there)) its opens
  again j (For_leaving s k there is number) =
      For_leaving s k (subst (λ ss. Contains ss s) sessions_same there) (ap (λ o. elim o as (λ w. Option Job) [ Some a ↦ Some a | None ↦ None ]) is) number

step_waits : (st : Setting) (past : Trace) (e : Entry) → FollowsTrace st past e → IsDue st past e → HoldsWaiting st past → HoldsWaiting st (e ∷ past)
step_waits st past e follows due_one h =
    record {
      holds = held;
      waits = λ j there runs. plain j runs (waits_end j there runs);
      lore = record {
        suit = all_suit st past e h.holds.whole.facts.jobs h.lore.suit suit_end;
        one = one_session st past e held.whole.facts.jobs h.lore.one sessions_end;
        converting = at_end_of (λ q t. Converting q t) known.converting;
        callers = callers_stay st past e h.holds held h.lore.callers;
      };
    } where
      held : Holds st (e ∷ past)
      held = step_holds st past e follows due_one h.holds

      fixed : Fixed st past e.reading (due_step st past e.reading e.input)
      fixed = due_is_of st past e.reading e.input

      entry : entry_of (due_step st past e.reading e.input) ≡ e
      entry = head_is (entry_of (due_step st past e.reading e.input)) e (due_step st past e.reading e.input).past past (due_is_seen st past e due_one)

      first : Step
      first = begin_recoveries (begin_step st past e.reading)

      lore_there : IsLore (begin_recoveries (begin_step st past e.reading))
      lore_there = subst (λ y. IsLore y) (sym (begun_says st past e.reading).is) h.lore

      begun : Knowing (begin_recoveries (begin_step st past e.reading))
      begun = (
        (rested first (ap (λ (y : Step). heard_by y.input) (begun_says st past e.reading).is) (all_begins st past e follows h.holds), busy_begins st past e.reading h.waits),
        record { lore = lore_there; suit = suits_begin st past e.reading; sessions = sessions_begin_one st past e.reading; converting = conversions_begin st past e.reading h.holds h.lore.converting },
      )

      end_known : Knowing (due_step st past e.reading e.input)
      end_known = step_heeds HeardKnowing Knowing other_acts_know answer_acts_know st past e.reading e.input follows.expected begun

      at_end : Busy (due_step st past e.reading e.input)
      at_end = end_known.0.1

      known : JobsKnown (due_step st past e.reading e.input)
      known = end_known.1

      at_end_of : (P : Setting → Trace → Type 0) → P (due_step st past e.reading e.input).setting (seen (due_step st past e.reading e.input)) → P st (e ∷ past)
      at_end_of P p =
          subst (λ f. P st (f ∷ past)) entry
          (subst (λ t. P st (entry_of (due_step st past e.reading e.input) ∷ t)) fixed.before (subst (λ q. P q (seen (due_step st past e.reading e.input))) fixed.setting p))

      sessions_end : (c : Call) → Contains e.effects.calls c → SameSession past c.session c.purpose
      sessions_end c there =
          subst (λ t. SameSession t c.session c.purpose) fixed.before (known.sessions.each c (subst (λ (f : Entry). Contains f.effects.calls c) (sym entry) there))

      suit_end : (c : Call) → Contains e.effects.calls c → CallSuits st (e ∷ past) c.purpose c.op
      suit_end c there =
          at_end_of (λ q t. CallSuits q t c.purpose c.op)
          (known.suit c (subst (λ (f : Entry). Contains f.effects.calls c) (sym entry) there))

      waits_end : AllWait st (e ∷ past) None (told_by e.input)
      waits_end =
          subst (λ f. AllWait st (f ∷ past) None (told_by f.input)) entry
          (subst (λ t. AllWait st (entry_of (due_step st past e.reading e.input) ∷ t) None (told_by (due_step st past e.reading e.input).input)) fixed.before
          (subst (λ k. AllWait k (seen (due_step st past e.reading e.input)) None (told_by (due_step st past e.reading e.input).input)) fixed.setting at_end))

      plain : (j : Job) → is_running (e ∷ past) j.number ≡ true → Waits st (e ∷ past) None (told_by e.input) j.number → Waits st (e ∷ past) None None j.number
      plain j runs (For_session s there its) = For_session s there its
      plain j runs (For_call m there opens its) = For_call m there opens its
      plain j runs (For_child k there its (inl opens)) = For_child k there its (inl opens)
      plain j runs (For_child k there its (inr told)) =
          absurd (not_both (is_running (e ∷ past) j.number) runs (starts_answered st past e k j.number follows due_one h.holds there its told))
      plain j runs (For_leaving s k there is number) = For_leaving s k there is number

pub traces_wait : (st : Setting) (es : Trace) → IsSetting st → IsHostTrace st es → HoldsWaiting st es
traces_wait st [] setting h =
    record {
      holds = traces_hold st [] setting h;
      waits = λ j there runs. absurd (contains_none j there);
      lore = record { suit = λ m there. absurd (contains_none m there); one = λ m d j step before there. absurd (contains_none m there); converting = λ m j step r shared p there. absurd (contains_none m there); callers = λ m j s there. absurd (contains_none m there) };
    }
traces_wait st (e ∷ past) setting h = step_waits st past e h.0.0 h.1.0 (traces_wait st past setting (h.0.1, h.1.1))

pub none_is_idle : NoneIsIdle
none_is_idle st es setting h =
    let w : HoldsWaiting st es = traces_wait st es setting h in
    none_idle st es w.holds.whole.facts.names w.holds.whole.facts.jobs w.holds.whole.lawful.orderly w.waits

-- ---- all together

all_caused : EntriesAreCaused → (st : Setting) (es : Trace) → IsSetting st → IsHostTrace st es → IsCaused st es
all_caused caused st [] setting h = tt
all_caused caused st (e ∷ past) setting h =
    (caused st past e h.0.0 h.1.0 (traces_hold st past setting (h.0.1, h.1.1)) (traces_hold st (e ∷ past) setting h), all_caused caused st past setting (h.0.1, h.1.1))

pub due_is_well_with : DueIsWellWith
due_is_well_with caused st es setting h = (traces_are_lawful st es setting h, all_caused caused st es setting h, none_is_idle st es setting h)

-- Each call of the entry so far keeps the law of delta sectors: after each act.
use Rattle.sl_due_facts.proofs.Connections.DecidedDeltasAreKept.{AnyReply, PlainWork, Plainly, called, called_plain, for_own_calls, grants_plain, heard_next, joining_calls, kept_of, lease_plain, plain_allow, plain_bare, plainly_kept, request_plain}
use Rattle.sl_due_facts.proofs.Connections.DeltasStayKept.{carry_end, carry_move, carry_removal, carry_reply, carry_signal, parts_calls}
use Rattle.sl_due_facts.proofs.Acts.AddedAtEnd.{contains_at, contains_last}
use Rattle.sl_due_facts.proofs.Acts.InputsKeep.{has_heard}
use Rattle.sl_due_facts.proofs.Acts.LoopsKeep.{for_each_keeps, when_keeps, with_some_keeps}
use Rattle.sl_due_facts.specs.Acts.Acts.{Acts, Has, Hears, next_of_conversion, next_of_release, next_of_settling}
use Rattle.sl_due_facts.specs.Acts.TraceSoFar.{entry_of}
use Rattle.sl_area.specs.AreaLayout.{area_sectors, block_offset, block_place, block_sectors, delta_offset, leader_offset, request_offset}
use Rattle.sl_area.specs.AreaRecords.{block_record, leader_record}
use Rattle.sl_due.specs.DueAnswers.{set_reply}
use Rattle.sl_due.specs.DueCommands.{answer_line, carry_decision, decided}
use Rattle.sl_due.specs.CarriedDelta.{carry_delta, move_connection, read_own_sector, register}
use Rattle.sl_due.specs.DueRecovery.{begin_recoveries, begin_recovery, begins_now, send, signal_and_refuse}
use Rattle.sl_due.specs.DueTimeOuts.{refuse, remove_connection, remove_of_refused}
use Rattle.sl_due.specs.DueInputs.{end_holdings, leave_holdings, refuse_jobs_of, started_reply, when_running}
use Rattle.sl_due.specs.CarriedLease.{carry_lease, name_on, next_of_lease, next_turn, read_for}
use Rattle.sl_due.specs.DueRequests.{after_request_read, after_value_read, bits_due, value_reply}
use Rattle.sl_due.specs.Steps.{Step, add_call_of, add_end, add_reply, begin_step, seen, with_input}
use Rattle.sl_due.specs.declared.decision.Decision.TheVariants.{ConvertsTo, GetsValue, GivesUp, Joins, Leaves, ReadsArea, Replies, Requests, SetsValue, Shares, TakesOver}
use Rattle.sl_due.specs.declared.decision.Decision.{Decision}
use Rattle.sl_due_facts.proofs.Jobs.AnsweredCallsFit.{both_of}
use Rattle.sl_due_facts.proofs.Jobs.CallsHaveFacts.{sessions_told}
use Rattle.sl_due_facts.proofs.Jobs.CallsOfJobsFit.{joining_of, list_all_inside}
use Rattle.sl_due_facts.proofs.Jobs.CallsStay.{late}
use Rattle.sl_due_facts.proofs.Jobs.DecisionsFit.{DecisionFits, decisions_fit}
use Rattle.sl_due_facts.proofs.Jobs.EffectsAreAllowed.{DecisionAllowed, DeltaAllowed, block_no_delta, decision, exited, leader_no_delta, lease, left, refusal, removal_of_refused, requested, sent, stopped, delta}
use Rattle.sl_due_facts.proofs.Jobs.JobFactsAreKept.{begun_sessions}
use Rattle.sl_due_facts.proofs.Jobs.JobsAreAllowed.{late_on_wake}
use Rattle.sl_due_facts.proofs.Jobs.JobsAreNumbered.{next_is_new}
use Rattle.sl_due_facts.proofs.Jobs.LinesAreAllowed.{IsBegun}
use Rattle.sl_due_facts.proofs.Jobs.NearlyPlainActs.{AnyMove, AnyStart}
use Rattle.sl_due_facts.proofs.Jobs.RepliesComeAfter.{on_bool, on_option}
use Rattle.sl_due_facts.proofs.Jobs.SessionsArePresent.{joined_present}
use Rattle.sl_due_facts.proofs.Jobs.SessionsHaveJobs.{one_session}
use Rattle.sl_due_facts.specs.Jobs.JobLaws.{BeginsWith}
use Rattle.sl_run.specs.LawForms.{cut_at}
use Rattle.sl_trace.specs.Jobs.{job_of_start}
use Rattle.sl_trace.specs.Leases.{spot_of, spot_of_call}
use Rattle.sl_trace.specs.declared.lease.LeaseNext.TheVariants.{AnswerJob, BecomeExclusive, BecomeShared, GrantJob, Nothing as No_lease, ReadFor, WriteBlock, WriteLeader}
use Rattle.sl_trace.specs.declared.lease.LeaseNext.{LeaseNext}
use Rattle.sl_due_facts.proofs.AddedEffects.CallsGrow.{LastPlace, OldPlace, old_or_last}
use Rattle.sl_due_facts.proofs.AddedEffects.JoinedCallsKeepOrder.{one_number}
use Rattle.sl_words.proofs.Lists.{contains_cases, contains_first, contains_none, find_inside, got_inside, kept, kept_inside}
use Rattle.sl_words.proofs.Numbers.{number_itself}
use Rattle.sl_words.proofs.Options.{not_some, some_of}
use Rattle.sl_sector.specs.Bitmaps.{no_bits}
use Rattle.sl_sector.specs.declared.sector.DeltaRec.{DeltaRec}
use Rattle.sl_sector.specs.declared.sector.DeltaState.TheVariants.{Free, Live}
use Rattle.sl_sector.specs.declared.sector.Rec.TheVariants.{DeltaIs}
use Rattle.sl_due_facts.proofs.Connections.ConnectionEffects.{move_same, reply_same}
use Rattle.sl_due_facts.proofs.Connections.DeltaCallsAreLawful.{frees_are_lawful, renewals_are_lawful}
use Rattle.sl_due_facts.proofs.Connections.DeltaReadsAreLawful.{renewed_surveys_are_lawful, verifies_are_lawful, watches_are_lawful}
use Rattle.sl_due_facts.proofs.Connections.JoiningConnections.{Working, working_alone, working_inside, working_turn}
use Rattle.sl_due_facts.proofs.Connections.JoiningDecisions.{heard_working}
use Rattle.sl_due_facts.proofs.Connections.LooksAreLawful.{looks_are_lawful}
use Rattle.sl_due_facts.proofs.Connections.OtherJobs.{other_starter}
use Rattle.sl_due_facts.proofs.Connections.SteadyActs.{Steady, steady_allow, steady_itself}
use Rattle.sl_due_facts.specs.Connections.DeltaCalls.{DeltaLawful, own_read, own_write, survey_read}
use Rattle.sl_due_facts.specs.Connections.DeltasSoFar.{CallsKept, DeltaKept, KnowsCalls}
use Rattle.sl_due_facts.proofs.Sessions.NamesAtEnd.{running_unjoined}
use Rattle.sl_trace.specs.DeltaDecisions.{delta_known, delta_of_session, delta_record, is_renewal_due, join_step_of, next_after_claim, next_after_free, next_after_renewal, next_by_time, next_free, next_in_joining, next_in_watch, next_on_wake, next_renewal, own_offset}
use Rattle.sl_trace.specs.Sessions.{calls_of, generation_of, has_open_write, holders_of, holdings_of, is_call_of, is_join_call, is_joined, joining_session, last_seq, open_calls_of, present_sessions, recovery_of, refused_after, session_numbered, session_of_job, sessions}
use Rattle.sl_trace.specs.declared.delta.DeltaKnown.{DeltaKnown}
use Rattle.sl_trace.specs.declared.delta.DeltaNext.TheVariants.{Disconnect, EndLeaving, Join, MoveConnection, Nothing, ReadOwn, RefuseJoin, RegisterAndRead, WriteClaim, WriteFirst, WriteFree, WriteRenewal}
use Rattle.sl_trace.specs.declared.delta.DeltaNext.{DeltaNext}
use Rattle.sl_trace.specs.declared.session.Session.{Session}
use Rattle.sl_due_facts.specs.Facts.SessionFacts.{ConnectionFacts, NameFacts}
use Rattle.sl_due_facts.specs.Facts.AllFacts.{Whole}
use Rattle.sl_time.specs.Times.{dead, fail, join_max, renew}
use Rattle.sl_trace.specs.Traces.{Answered, Submitted, end_of, holdings, is_running, job_numbered, line_in, mark, new_call, next_call, next_job, spot_of_grant, submitted}
use Rattle.sl_trace.specs.declared.command.Command.{Command}
use Rattle.sl_trace.specs.declared.command.LockspaceArg.{LockspaceArg}
use Rattle.sl_trace.specs.declared.effects.Call.{Call}
use Rattle.sl_trace.specs.declared.effects.Effects.{Effects}
use Rattle.sl_trace.specs.declared.effects.Entry.{Entry}
use Rattle.sl_trace.specs.declared.effects.Grant.{Grant}
use Rattle.sl_trace.specs.declared.effects.JoinStep.TheVariants.{ClaimWrite, DecidingRead, FirstRead, FirstRenewal, VerifyRead, WatchRead}
use Rattle.sl_trace.specs.declared.effects.JoinStep.{JoinStep}
use Rattle.sl_trace.specs.declared.effects.LeaseRead.TheVariants.{OfArea, OfBlock, OfFree, OfPhase1, OfPhase2}
use Rattle.sl_trace.specs.declared.effects.LeaseStep.TheVariants.{ClearMode, FreeLeader, Phase1Read, Phase1Write, Phase2Read, Phase2Write, ReadAgain, ReadArea, ReadBeforeBlock, ReadBeforeFree, SetMode, TakeLeader}
use Rattle.sl_trace.specs.declared.effects.LeaseStep.{LeaseStep}
use Rattle.sl_trace.specs.declared.effects.Move.TheVariants.{Register}
use Rattle.sl_trace.specs.declared.effects.Op.TheVariants.{ReadSectors, WriteRecord}
use Rattle.sl_trace.specs.declared.effects.Purpose.TheVariants.{Joining, Lease, Leaving, Renewal, RequestRead, RequestWrite, SeeRequest, Survey, ValueRead, ValueWrite}
use Rattle.sl_trace.specs.declared.effects.Purpose.{Purpose}
use Rattle.sl_trace.specs.declared.effects.Signal.TheVariants.{Kill, Term}
use Rattle.sl_trace.specs.declared.effects.Spot.{Spot}
use Rattle.sl_trace.specs.declared.effects.Work.TheVariants.{ForJob, Settling}
use Rattle.sl_trace.specs.declared.input.Answer.TheVariants.{Failed, Read, Written}
use Rattle.sl_trace.specs.declared.input.Answer.{Answer}
use Rattle.sl_trace.specs.declared.input.Input.TheVariants.{Answer as Told, Exit, Line, Number, Spawned, Wake}
use Rattle.sl_trace.specs.declared.reply.Reply.TheVariants.{BadCommand as Misread, Done, IdLate, IoFault, IoTimeout, SpawnFault}
use Rattle.sl_trace.specs.declared.reply.Reply.{Reply}
use Rattle.sl_run_law.proofs.Leases.NumberLaws.{number_is_place}
use Rattle.sl_run_law.proofs.Sessions.CallsAreMade.{old_stays}
use Rattle.sl_run_law.specs.Sessions.SessionLaws.{all_done, fits, has_reply, is_in_turn}
use Rattle.sl_words.proofs.CaseLaws.{false_is_true, none_some, some_value}
use Rattle.sl_words.proofs.WordLaws.{and_true}
use Rattle.sl_words.specs.Words.{some_is}
use Rattle.std.proofs.Common.{ap, ap₂, arith, inl, inr, refl, subst, sym, ◌∙◌}
use Rattle.std.proofs.lemmas.Bool.{eqb-true}
use Rattle.std.proofs.lemmas.Option.{slice_get_within}
use Rattle.std.specs.Prelude.{Bool, Contains, List, None, Ok, Option, Some, [], false, filter, fold, is_none, is_some, length, nat_le, nat_lt, not, slice_get, true, ℕ, ◌&&◌, ◌++◌, ◌+◌, ◌<◌, ◌==◌, ◌∷◌, ◌≡◌, ◌⊎◌}

-- ---- a joining whose newest call is answered has made none in this entry

new_call_inside : (at reading : ℕ) (cs : List Call) (ms : List Submitted) (c : Call) → Contains cs c → Contains (fold (λ ds d. new_call at reading d ∷ ds) ms cs) (new_call at reading c)
new_call_inside at reading [] ms c there = absurd (contains_none c there)
new_call_inside at reading (d ∷ cs) ms c there = by (contains_cases d cs c there) (λ old. new_call_inside at reading cs (new_call at reading d ∷ ms) c old) where
  by : (d ≡ c) ⊎ Contains cs c → (Contains cs c → Contains (fold (λ ds b. new_call at reading b ∷ ds) (new_call at reading d ∷ ms) cs) (new_call at reading c))
      → Contains (fold (λ ds b. new_call at reading b ∷ ds) (new_call at reading d ∷ ms) cs) (new_call at reading c)
  by (inl is) next = subst (λ b. Contains (fold (λ ds z. new_call at reading z ∷ ds) (new_call at reading d ∷ ms) cs) (new_call at reading b)) is (old_stays at reading cs (new_call at reading d ∷ ms) (new_call at reading d) (contains_first (new_call at reading d) ms))
  by (inr old) next = next old

no_new : (x : Step) (s : Session) (m : Submitted) (ms : List Submitted) (a : Answered) → is_in_turn (calls_of (seen x) s) ≡ true → calls_of (seen x) s ≡ m ∷ ms → m.answer ≡ Some a → (k : ℕ) (c : Call) → slice_get x.effects.calls k ≡ Some c → (c.session == s.number) ≡ true → ⊥
no_new x s m ms a turn are is k c at mine =
    by (contains_cases m ms new (subst (λ ks. Contains ks new) are (kept (is_call_of s) (submitted (seen x)) new mine (new_call_inside (length x.past) x.reading x.effects.calls (mark x.past (entry_of x) x.input (submitted x.past)) c (got_inside x.effects.calls k c at))))) where
      new : Submitted
      new = new_call (length x.past) x.reading c

      by : (m ≡ new) ⊎ Contains ms new → ⊥
      by (inl one) = none_some a (ap (λ (q : Submitted). q.answer) (sym one) ∙ is)
      by (inr old) =
          let both = and_true (fits m) (all_done ms) (subst (λ ks. is_in_turn ks ≡ true) are turn) in
          false_is_true (and_true (fits new) (has_reply new) (list_all_inside (λ z. fits z && has_reply z) ms new both.1 old)).1

-- ---- on a wake

abbrev NextWoken : Step → Session → ℕ → DeltaNext → Type 0
NextWoken x s j Nothing = Unit {0}
NextWoken x s j (RefuseJoin r) = (k : ℕ) (c : Call) → slice_get x.effects.calls k ≡ Some c → (c.session == s.number) ≡ true → ⊥
NextWoken x s j (ReadOwn step) = (is_join_call FirstRead (Joining j step) ≡ false) × DeltaLawful x.setting (seen x) s (own_read x s (Joining j step))
NextWoken x s j (RegisterAndRead step) = (is_join_call FirstRead (Joining j step) ≡ false) × DeltaLawful x.setting (seen (register s x)) s (own_read (register s x) s (Joining j step))
NextWoken x s j n = ⊥

refused_calls : (x : Step) (s : Session) (j : ℕ) (r : Reply) → Working x s j → x.input ≡ Wake → ((k : ℕ) (c : Call) → slice_get x.effects.calls k ≡ Some c → (c.session == s.number) ≡ true → ⊥) → CallsKept x → CallsKept (refuse j r x)
unfolding refuse
refused_calls x s j r w wake none h =
    with_some_keeps CallsKept (session_of_job x.setting (seen x) j) remove_of_refused (add_reply j r x)
    (λ q is g. when_keeps CallsKept (is_some (refused_after (seen (add_reply j r x)) q) && not (has_open_write (seen (add_reply j r x)) q)) (remove_connection q.lockspace) (add_reply j r x)
    (λ go f. carry_removal (add_reply j r x) q.lockspace (λ k c z at its delta same joined. never q is k c z at its same joined (s.number == z.number) refl) f) g)
    (carry_reply x j r (late_on_wake x r wake) (ap (λ i. line_in i) wake) (λ k c z at its delta also. mine k c z at its (one_session x.setting (seen x) z s j (got_inside (sessions x.setting (seen x)) c.session z its) there also w.its)) h)
  where
    there : Contains (sessions x.setting (seen x)) s
    there = working_inside x s j w

    mine : (k : ℕ) (c : Call) (z : Session) → slice_get x.effects.calls k ≡ Some c → session_numbered x.setting (seen x) c.session ≡ Some z → z ≡ s → ⊥
    mine k c z at its one = none k c at (ap (λ n. n == s.number) (sym (number_is_place x.setting (seen x) c.session z its)) ∙ (ap (λ (q : Session). q.number == s.number) one ∙ number_itself s.number))

    some_job : (o : Option ℕ) → some_is (λ i. i == j) o ≡ true → o ≡ Some j
    some_job None is = absurd (false_is_true is)
    some_job (Some i) is = ap (λ n. Some n) (eqb-true i j is)

    never : (q : Session) → session_of_job x.setting (seen x) j ≡ Some q → (k : ℕ) (c : Call) (z : Session) → slice_get x.effects.calls k ≡ Some c → session_numbered x.setting (seen x) c.session ≡ Some z → z.lockspace ≡ q.lockspace
        → is_joined (seen (add_reply j r x)) z ≡ true → (b : Bool) → (s.number == z.number) ≡ b → ⊥
    never q is k c z at its same joined true one = mine k c z at its (one_number x.setting (seen x) s.number s z w.has (got_inside (sessions x.setting (seen x)) c.session z its) one)
    never q is k c z at its same joined false away =
        let inside : Contains (sessions x.setting (seen x)) z = got_inside (sessions x.setting (seen x)) c.session z its in
        let found = find_inside (λ (p : Session). some_is (λ i. i == j) p.job) (sessions x.setting (seen x)) q is in
        let its_own : q ≡ s = one_session x.setting (seen x) q s j found.0 there (some_job q.job found.1) w.its in
        let kept_same = reply_same x j r z (late_on_wake x r wake) (λ also. mine k c z at its (one_session x.setting (seen x) z s j inside there also w.its)) in
        let was : is_joined (seen x) z ≡ true = ap₂ (λ (a b : Option ℕ). is_some a && is_none b) (sym kept_same.joined) (sym kept_same.removed) ∙ joined in
        mine k c z at its (working_alone x s j w z inside (joined_present (seen x) z was) (same ∙ ap (λ (p : Session). p.lockspace) its_own))

woken_carried : (x : Step) (s : Session) (j : ℕ) (n : DeltaNext) → Working x s j → x.input ≡ Wake → NextWoken x s j n → CallsKept x → CallsKept (carry_delta s n x)
unfolding carry_delta
woken_carried x s j Nothing w wake may h = h
woken_carried x s j (RefuseJoin r) w wake may h = for_own_calls x s j (λ i. refuse i r) w.its (refused_calls x s j r w wake may h)
woken_carried x s j (ReadOwn step) w wake may h =
    for_own_calls x s j (λ i. read_own_sector s (Joining i step)) w.its
    (called x s s.path (Joining j step) (own_offset x.setting s) (ReadSectors 1) may.0 w.has h (kept_of x.setting (seen x) s (own_read x s (Joining j step)) refl may.0 may.1))
woken_carried x s j (RegisterAndRead step) w wake may h =
    for_own_calls x s j (λ i y. read_own_sector s (Joining i step) (register s y)) w.its
    (called (register s x) s s.path (Joining j step) (own_offset x.setting s) (ReadSectors 1) may.0 w.has
    (carry_move x (Register s.lockspace (x.reading + fail x.setting.timing)) (λ k c z at its delta. (move_same x (Register s.lockspace (x.reading + fail x.setting.timing)) z refl).removed) h)
    (kept_of x.setting (seen (register s x)) s (own_read (register s x) s (Joining j step)) refl may.0 may.1))
woken_carried x s j (WriteClaim d) w wake may h = absurd may
woken_carried x s j Disconnect w wake may h = absurd may
woken_carried x s j (WriteFirst d) w wake may h = absurd may
woken_carried x s j (Join generation renewed) w wake may h = absurd may
woken_carried x s j (MoveConnection renewed) w wake may h = absurd may
woken_carried x s j (WriteRenewal d) w wake may h = absurd may
woken_carried x s j (WriteFree i d) w wake may h = absurd may
woken_carried x s j (EndLeaving i r) w wake may h = absurd may

woken_next : (x : Step) (s : Session) (j : ℕ) → Whole x → NameFacts x.setting x.past None → ConnectionFacts x.setting x.past None → Has x s → x.input ≡ Wake → s.job ≡ Some j → is_running (seen x) j ≡ true
    → NextWoken x s j (next_on_wake (delta_of_session x.setting s) x.reading (calls_of (seen x) s))
unfolding next_on_wake
woken_next x s j h names connections has wake its runs = by (calls_of (seen x) s) refl where
  w : Working x s j
  w = record { has = has; its = its; runs = runs; names = h.facts.names; orderly = h.orderly }

  reads_on : (m : Submitted) (ms : List Submitted) (a : Answered) (step : JoinStep) → calls_of (seen x) s ≡ m ∷ ms → m.answer ≡ Some a → m.call.purpose ≡ Joining j step → (step ≡ FirstRead) ⊎ (step ≡ WatchRead)
      → NextWoken x s j (next_in_watch (delta_of_session x.setting s) x.reading a.reading)
  reads_on m ms a step are is for which = on_bool (NextWoken x s j) (nat_le (a.reading + renew x.setting.timing) x.reading) Nothing (ReadOwn WatchRead) tt (refl, watches_are_lawful x s j step m ms a w are is for which)

  by_time : (m : Submitted) (ms : List Submitted) (a : Answered) (step : JoinStep) → calls_of (seen x) s ≡ m ∷ ms → m.answer ≡ Some a → m.call.purpose ≡ Joining j step → NextWoken x s j (next_by_time (delta_of_session x.setting s) x.reading m.reading a.reading step)
  by_time m ms a FirstRead are is for = reads_on m ms a FirstRead are is for (inl refl)
  by_time m ms a WatchRead are is for = reads_on m ms a WatchRead are is for (inr refl)
  by_time m ms a ClaimWrite are is for =
      on_bool P (nat_le (a.reading + dead x.setting.timing) x.reading) Nothing
      (elim (nat_lt (m.reading + join_max x.setting.timing) x.reading) [ true ↦ RefuseJoin (IdLate m.reading x.reading) | false ↦ RegisterAndRead VerifyRead ]) (λ e. tt)
      (on_bool P (nat_lt (m.reading + join_max x.setting.timing) x.reading) (RegisterAndRead VerifyRead) (RefuseJoin (IdLate m.reading x.reading))
      (λ e. (refl, verifies_are_lawful x s j m ms a h names connections has wake its runs are is for e)) (λ e. no_new x s m ms a (working_turn x s j w) are is)) refl
    where
      P : DeltaNext → Type 0
      P n = next_after_claim (delta_of_session x.setting s) x.reading m.reading a.reading ≡ n → NextWoken x s j n
  by_time m ms a DecidingRead are is for = tt
  by_time m ms a VerifyRead are is for = tt
  by_time m ms a FirstRenewal are is for = tt

  by_step : (m : Submitted) (ms : List Submitted) (a : Answered) (p : Purpose) → calls_of (seen x) s ≡ m ∷ ms → m.answer ≡ Some a → m.call.purpose ≡ p
      → NextWoken x s j (elim (join_step_of p) as (λ z. DeltaNext) [ None ↦ Nothing | Some step ↦ next_by_time (delta_of_session x.setting s) x.reading m.reading a.reading step ])
  by_step m ms a (Joining i step) are is for =
      let there = kept_inside (is_call_of s) (submitted (seen x)) m (subst (λ ks. Contains ks m) (sym are) (contains_first m ms)) in
      let session : session_numbered x.setting (seen x) m.call.session ≡ Some s = subst (λ n. session_numbered x.setting (seen x) n ≡ Some s) (sym (eqb-true m.call.session s.number there.1)) has in
      let job : s.job ≡ Some i = joining_of x s m i step (both_of x h) there.0 session for in
      by_time m ms a step are is (for ∙ ap (λ n. Joining n step) (some_value i j (sym job ∙ its)))
  by_step m ms a Renewal are is for = tt
  by_step m ms a Survey are is for = tt
  by_step m ms a (Leaving i) are is for = tt
  by_step m ms a (Lease work step) are is for = tt
  by_step m ms a (RequestRead i) are is for = tt
  by_step m ms a (RequestWrite i owner) are is for = tt
  by_step m ms a SeeRequest are is for = tt
  by_step m ms a (ValueWrite i) are is for = tt
  by_step m ms a (ValueRead i) are is for = tt

  by : (ks : List Submitted) → calls_of (seen x) s ≡ ks → NextWoken x s j (next_on_wake (delta_of_session x.setting s) x.reading ks)
  by [] are = tt
  by (m ∷ ms) are = answered m.answer refl where
    answered : (o : Option Answered) → m.answer ≡ o
        → NextWoken x s j (elim o as (λ z. DeltaNext) [ None ↦ Nothing | Some a ↦ elim (join_step_of m.call.purpose) as (λ z. DeltaNext) [ None ↦ Nothing | Some step ↦ next_by_time (delta_of_session x.setting s) x.reading m.reading a.reading step ] ])
    answered None is = tt
    answered (Some a) is = by_step m ms a m.call.purpose are is refl

-- ---- a session begins

with_calls : Entry → List Call → Entry
with_calls e cs = let fx : Effects = e.effects in record e { effects = record fx { calls = cs } }

begun_calls : (x : Step) (text : List ℕ) (c : Command) (n : ℕ) (a : LockspaceArg) → x.input ≡ Wake → x.effects.calls ≡ [] → x.setting.read text ≡ Ok c → DecisionFits x.setting (seen x) c (Joins n a) → Whole x
    → CallsKept (carry_decision (next_job x.setting (seen x)) c (Joins n a) (with_input (Line text) x))
unfolding carry_decision with_calls
begun_calls x text c n a wake bare says f h k d z at its = by (old_or_last x.effects.calls made d k at) where
  w : Step
  w = with_input (Line text) x

  new : Session
  new = joining_session n (next_job x.setting (seen x)) a

  made : Call
  made = record { number = next_call x.setting (seen (with_input (Line text) x)); session = n; purpose = Joining (next_job x.setting (seen x)) FirstRead; path = a.path; offset = delta_offset x.setting.layout a.offset a.id; op = ReadSectors 1 }

  y : Step
  y = add_call_of n a.path (Joining (next_job x.setting (seen x)) FirstRead) (delta_offset x.setting.layout a.offset a.id) (ReadSectors 1) (with_input (Line text) x)

  grown : sessions x.setting (seen y) ≡ sessions x.setting (seen w) ++ new ∷ []
  grown = begun_sessions x text n a made wake bare (says ∙ ap (λ q. Ok q) f.0) f.1 refl

  last : n ≡ length (sessions x.setting (seen w))
  last = f.1 ∙ ap (λ ss. length ss) (sym (sessions_told x (Line text) bare))

  runs : is_running (seen w) (next_job x.setting (seen x)) ≡ true
  runs = to (is_running (seen x) (next_job x.setting (seen x))) refl where
    to : (b : Bool) → is_running (seen x) (next_job x.setting (seen x)) ≡ b → b ≡ true
    to true q = refl
    to false q =
        let i = some_of (job_numbered x.setting (seen x) (next_job x.setting (seen x))) (h.facts.jobs.replied (next_job x.setting (seen x)) q) in absurd (none_some i.0 (sym (next_is_new x.setting (seen x)) ∙ i.1))

  whose : d.session ≡ n → Contains (sessions x.setting (seen w)) z ⊎ (new ≡ z) → new ≡ z
  whose is (inr one) = one
  whose is (inl old) =
      let place = contains_at (sessions x.setting (seen w)) z old in
      let number : z.number ≡ place.0 = number_is_place x.setting (seen w) place.0 z place.1 in
      let low : place.0 < length (sessions x.setting (seen w)) = slice_get_within (sessions x.setting (seen w)) place.0 z place.1 in
      let own : z.number ≡ d.session = number_is_place x.setting (seen y) d.session z its in absurd (omega (arith, number, low, own, is, last))

  kept_one : DeltaKept x.setting (entry_of (with_input (Line text) x) ∷ x.past) (joining_session n (next_job x.setting (seen x)) a)
      (new_call (length x.past) x.reading (record { number = next_call x.setting (seen (with_input (Line text) x)); session = n; purpose = Joining (next_job x.setting (seen x)) FirstRead; path = a.path; offset = delta_offset x.setting.layout a.offset a.id; op = ReadSectors 1 }))
  kept_one =
      let g = looks_are_lawful x text c n a h wake bare says f in
      record { delta = g.delta; placed = g.placed; alone = g.alone; well = λ is. absurd (false_is_true is); early = λ is. running_unjoined (seen w) new (next_job x.setting (seen x)) refl runs }

  by : OldPlace x.effects.calls made d k ⊎ LastPlace x.effects.calls made d k → DeltaKept x.setting (cut_at k (entry_of y) ∷ x.past) z (new_call (length x.past) x.reading d)
  by (inl o) = absurd (none_some d (ap (λ cs. slice_get cs k) (sym bare) ∙ o.old))
  by (inr l) =
      let one : new ≡ z = whose (ap (λ (q : Call). q.session) (sym l.new)) (contains_last (sessions x.setting (seen w)) new z (subst (λ ss. Contains ss z) grown (got_inside (sessions x.setting (seen y)) d.session z its))) in
      subst (λ cs. DeltaKept x.setting (with_calls (entry_of w) cs ∷ x.past) z (new_call (length x.past) x.reading d)) l.front
      (subst (λ (q : Call). DeltaKept x.setting (entry_of w ∷ x.past) z (new_call (length x.past) x.reading q)) l.new
      (subst (λ (q : Session). DeltaKept x.setting (entry_of w ∷ x.past) q (new_call (length x.past) x.reading made)) one kept_one))

-- ---- other acts

decision_calls : (y : Step) (j : ℕ) (c : Command) (d : Decision) → IsBegun d ⊎ DecisionAllowed Plainly AnyReply PlainWork AnyStart y j c d
decision_calls y j c (Replies r) = inr tt
decision_calls y j c (Joins n a) = inl tt
decision_calls y j c (Leaves s) = inr (tt, λ z k i there. tt)
decision_calls y j c (ReadsArea s r) = inr (refl, refl)
decision_calls y j c (Shares s lver) = inr (grants_plain j lver c)
decision_calls y j c (GivesUp s g) = inr (tt, lease_plain (add_end (end_of g) y) s (spot_of_grant g) (ForJob j) (next_of_release y.setting (seen (add_end (end_of g) y)) s (spot_of_grant g) g))
decision_calls y j c (TakesOver s g) = inr (grants_plain j g.lver c)
decision_calls y j c (ConvertsTo s r mode) = inr (lease_plain y s (spot_of r) (ForJob j) (next_of_conversion y.setting (seen y) s (spot_of r) mode r.name))
decision_calls y j c (Requests s r) = inr (refl, refl)
decision_calls y j c (SetsValue s at v) = inr (refl, refl)
decision_calls y j c (GetsValue s at) = inr (refl, refl)

carried_all : (x : Step) (text : List ℕ) (c : Command) (d : Decision) → x.input ≡ Wake → x.effects.calls ≡ [] → x.setting.read text ≡ Ok c → decided x.setting (seen x) x.reading c ≡ d → Whole x
    → CallsKept (carry_decision (next_job x.setting (seen x)) c d (with_input (Line text) x))
carried_all x text c d wake bare says is h = by d (subst (λ z. DecisionFits x.setting (seen x) c z) is (decisions_fit x.setting (seen x) x.reading c)) (decision_calls (with_input (Line text) x) (next_job x.setting (seen x)) c d) where
  begun : (z : Decision) → IsBegun z → DecisionFits x.setting (seen x) c z → CallsKept (carry_decision (next_job x.setting (seen x)) c z (with_input (Line text) x))
  begun (Joins n a) k f = begun_calls x text c n a wake bare says f h
  begun (Replies r) k f = absurd k
  begun (Leaves s) k f = absurd k
  begun (ReadsArea s r) k f = absurd k
  begun (Shares s lver) k f = absurd k
  begun (GivesUp s g) k f = absurd k
  begun (TakesOver s g) k f = absurd k
  begun (ConvertsTo s r mode) k f = absurd k
  begun (Requests s r) k f = absurd k
  begun (SetsValue s spot v) k f = absurd k
  begun (GetsValue s spot) k f = absurd k

  no_begin : (z : Decision) → (IsBegun z → ⊥) ⊎ IsBegun z
  no_begin (Joins n a) = inr tt
  no_begin (Replies r) = inl (λ k. k)
  no_begin (Leaves s) = inl (λ k. k)
  no_begin (ReadsArea s r) = inl (λ k. k)
  no_begin (Shares s lver) = inl (λ k. k)
  no_begin (GivesUp s g) = inl (λ k. k)
  no_begin (TakesOver s g) = inl (λ k. k)
  no_begin (ConvertsTo s r mode) = inl (λ k. k)
  no_begin (Requests s r) = inl (λ k. k)
  no_begin (SetsValue s spot v) = inl (λ k. k)
  no_begin (GetsValue s spot) = inl (λ k. k)

  by : (z : Decision) → DecisionFits x.setting (seen x) c z → IsBegun z ⊎ DecisionAllowed Plainly AnyReply PlainWork AnyStart (with_input (Line text) x) (next_job x.setting (seen x)) c z
      → CallsKept (carry_decision (next_job x.setting (seen x)) c z (with_input (Line text) x))
  by z f (inl k) = begun z k f
  by z f (inr may) = either (no_begin z) where
    either : (IsBegun z → ⊥) ⊎ IsBegun z → CallsKept (carry_decision (next_job x.setting (seen x)) c z (with_input (Line text) x))
    either (inr k) = begun z k f
    either (inl none) =
        plainly_kept (carry_decision (next_job x.setting (seen x)) c z (with_input (Line text) x))
        (decision Plainly Plainly AnyReply PlainWork AnyStart AnyMove plain_allow (with_input (Line text) x) (next_job x.setting (seen x)) c z may (λ n a joins. absurd (none (subst (λ q. IsBegun q) (sym joins) tt))) (plain_bare (with_input (Line text) x) bare))

renewed_calls : (x : Step) (s : Session) (m : Submitted) (answer : Answer) → Hears x s m answer → m.call.purpose ≡ Renewal → Whole x → CallsKept (carry_delta s (next_after_renewal (is_some (recovery_of x.setting (seen x) s)) m.reading answer) x)
unfolding carry_delta
renewed_calls x s m Failed hears is h = plainly_kept x (plain_bare x hears.bare)
renewed_calls x s m (Read bytes) hears is h = plainly_kept x (plain_bare x hears.bare)
renewed_calls x s m Written hears is h = by (is_some (recovery_of x.setting (seen x) s)) refl where
  by : (b : Bool) → is_some (recovery_of x.setting (seen x) s) ≡ b → CallsKept (carry_delta s (elim b as (λ z. DeltaNext) [ true ↦ Nothing | false ↦ MoveConnection m.reading ]) x)
  by true ill = plainly_kept x (plain_bare x hears.bare)
  by false well =
      let z : Step = move_connection s m.reading x in
      let g : DeltaLawful x.setting (seen (move_connection s m.reading x)) s (survey_read (move_connection s m.reading x) s) = renewed_surveys_are_lawful x s m Written m.reading h hears is in
      called z s s.path Survey s.offset (ReadSectors x.setting.layout.hosts) refl (has_heard x s m Written hears) (plainly_kept z (plain_bare z hears.bare))
      (record { delta = g.delta; placed = g.placed; alone = g.alone; well = λ is_one. not_some (recovery_of x.setting (seen x) s) well; early = λ is_one. absurd (false_is_true is_one) })

freed_calls : (x : Step) (s : Session) (j : ℕ) (m : Submitted) (answer : Answer) → Hears x s m answer → CallsKept (carry_delta s (next_after_free j m.call.number answer) x)
freed_calls x s j m answer hears = plainly_kept (carry_delta s (next_after_free j m.call.number answer) x) (delta Plainly Plainly AnyReply PlainWork AnyStart AnyMove plain_allow x s (next_after_free j m.call.number answer) (may answer) (plain_bare x hears.bare)) where
  may : (a : Answer) → DeltaAllowed AnyReply PlainWork AnyMove x s (next_after_free j m.call.number a)
  may Written = (tt, tt)
  may Failed = (tt, tt)
  may (Read bytes) = tt

renewing_calls : (x : Step) (s : Session) (bits : List ℕ) → Has x s → is_joined (seen x) s ≡ true → Whole x → CallsKept x → CallsKept (carry_delta s (next_renewal (delta_of_session x.setting s) x.reading (delta_known x.setting (seen x) s) bits) x)
unfolding next_renewal carry_delta
renewing_calls x s bits has joined w h =
    on_bool (λ n. next_renewal (delta_of_session x.setting s) x.reading (delta_known x.setting (seen x) s) bits ≡ n → CallsKept (carry_delta s n x)) (is_renewal_due (delta_of_session x.setting s) x.reading (delta_known x.setting (seen x) s)) Nothing (WriteRenewal d)
    (λ e. h) (λ e. called x s s.path Renewal (own_offset x.setting s) (WriteRecord (DeltaIs d)) refl has h (kept_of x.setting (seen x) s (own_write x s Renewal d) refl refl (renewals_are_lawful x s bits d w has joined e))) refl
  where
    d : DeltaRec
    d = delta_record (delta_of_session x.setting s) Live (generation_of (seen x) s) (last_seq (seen x) s + 1) x.reading bits

freeing_calls : (x : Step) (s : Session) → Has x s → is_joined (seen x) s ≡ true → is_some (recovery_of x.setting (seen x) s) ≡ false → holdings_of (seen x) s ≡ [] → open_calls_of (seen x) s ≡ [] → CallsKept x
    → CallsKept (carry_delta s (next_free (delta_of_session x.setting s) x.reading (delta_known x.setting (seen x) s)) x)
unfolding carry_delta
freeing_calls x s has joined well free quiet h = by (next_free (delta_of_session x.setting s) x.reading (delta_known x.setting (seen x) s)) refl (shape (delta_known x.setting (seen x) s)) where
  Frees : DeltaNext → Type 0
  Frees n = (n ≡ Nothing) ⊎ ((j : ℕ) × (d : DeltaRec) × (n ≡ WriteFree j d))

  shape : (k : DeltaKnown) → Frees (next_free (delta_of_session x.setting s) x.reading k)
  shape k =
      on_option Frees k.leaving Nothing (λ j. elim k.freed [ true ↦ Nothing | false ↦ WriteFree j (delta_record (delta_of_session x.setting s) Free k.generation (k.seq + 1) x.reading no_bits) ]) (inl refl)
      (λ j. on_bool Frees k.freed (WriteFree j (delta_record (delta_of_session x.setting s) Free k.generation (k.seq + 1) x.reading no_bits)) Nothing (inr (j, delta_record (delta_of_session x.setting s) Free k.generation (k.seq + 1) x.reading no_bits, refl)) (inl refl))

  by : (n : DeltaNext) → next_free (delta_of_session x.setting s) x.reading (delta_known x.setting (seen x) s) ≡ n → Frees n → CallsKept (carry_delta s n x)
  by n is (inl none) = subst (λ q. CallsKept (carry_delta s q x)) (sym none) h
  by n is (inr f) =
      subst (λ q. CallsKept (carry_delta s q x)) (sym f.2)
      (called x s s.path (Leaving f.0) (own_offset x.setting s) (WriteRecord (DeltaIs f.1)) refl has h
      (kept_of x.setting (seen x) s (own_write x s (Leaving f.0) f.1) refl refl (frees_are_lawful x s f.0 f.1 has joined well free quiet (is ∙ f.2))))

settled_calls : (x : Step) (s : Session) (at : Spot) (n : LeaseNext) → CallsKept x → CallsKept (carry_lease s at Settling n x)
unfolding carry_lease
settled_calls x s at No_lease h = h
settled_calls x s at (ReadFor step) h = by step where
  by : (p : LeaseStep) → CallsKept (read_for s at Settling p x)
  by (ReadArea name) = called_plain x s at.path (Lease Settling (ReadArea name)) at.base (ReadSectors (area_sectors x.setting.layout)) (refl, refl) h
  by ReadBeforeFree = called_plain x s at.path (Lease Settling ReadBeforeFree) at.base (ReadSectors (area_sectors x.setting.layout)) (refl, refl) h
  by (ReadAgain (OfArea name)) = called_plain x s at.path (Lease Settling (ReadAgain (OfArea name))) at.base (ReadSectors (area_sectors x.setting.layout)) (refl, refl) h
  by (ReadAgain OfFree) = called_plain x s at.path (Lease Settling (ReadAgain OfFree)) at.base (ReadSectors (area_sectors x.setting.layout)) (refl, refl) h
  by ReadBeforeBlock = called_plain x s at.path (Lease Settling ReadBeforeBlock) (block_offset x.setting.layout at.base 1) (ReadSectors (block_sectors x.setting.layout)) (refl, refl) h
  by (ReadAgain OfBlock) = called_plain x s at.path (Lease Settling (ReadAgain OfBlock)) (block_offset x.setting.layout at.base 1) (ReadSectors (block_sectors x.setting.layout)) (refl, refl) h
  by (ReadAgain OfPhase1) = called_plain x s at.path (Lease Settling (ReadAgain OfPhase1)) (block_offset x.setting.layout at.base 1) (ReadSectors (block_sectors x.setting.layout)) (refl, refl) h
  by (ReadAgain OfPhase2) = called_plain x s at.path (Lease Settling (ReadAgain OfPhase2)) (block_offset x.setting.layout at.base 1) (ReadSectors (block_sectors x.setting.layout)) (refl, refl) h
  by Phase1Write = called_plain x s at.path (Lease Settling Phase1Write) (block_offset x.setting.layout at.base 1) (ReadSectors (block_sectors x.setting.layout)) (refl, refl) h
  by Phase1Read = called_plain x s at.path (Lease Settling Phase1Read) (block_offset x.setting.layout at.base 1) (ReadSectors (block_sectors x.setting.layout)) (refl, refl) h
  by Phase2Write = called_plain x s at.path (Lease Settling Phase2Write) (block_offset x.setting.layout at.base 1) (ReadSectors (block_sectors x.setting.layout)) (refl, refl) h
  by Phase2Read = called_plain x s at.path (Lease Settling Phase2Read) (block_offset x.setting.layout at.base 1) (ReadSectors (block_sectors x.setting.layout)) (refl, refl) h
  by TakeLeader = called_plain x s at.path (Lease Settling TakeLeader) (block_offset x.setting.layout at.base 1) (ReadSectors (block_sectors x.setting.layout)) (refl, refl) h
  by SetMode = called_plain x s at.path (Lease Settling SetMode) (block_offset x.setting.layout at.base 1) (ReadSectors (block_sectors x.setting.layout)) (refl, refl) h
  by FreeLeader = called_plain x s at.path (Lease Settling FreeLeader) (block_offset x.setting.layout at.base 1) (ReadSectors (block_sectors x.setting.layout)) (refl, refl) h
  by ClearMode = called_plain x s at.path (Lease Settling ClearMode) (block_offset x.setting.layout at.base 1) (ReadSectors (block_sectors x.setting.layout)) (refl, refl) h
settled_calls x s at (WriteBlock step b) h = called_plain x s at.path (Lease Settling step) (block_place x.setting.layout at.base s.id (next_turn x.setting (seen x) s at))
    (WriteRecord (block_record x.setting.layout (next_turn x.setting (seen x) s at) s.lockspace (name_on x.setting (seen x) s at) b))
    (refl, (block_no_delta x.setting.layout (next_turn x.setting (seen x) s at) s.lockspace (name_on x.setting (seen x) s at) b)) h
settled_calls x s at (WriteLeader step l) h = called_plain x s at.path (Lease Settling step) (leader_offset at.base) (WriteRecord (leader_record x.setting.layout l)) (refl, leader_no_delta x.setting.layout l) h
settled_calls x s at (AnswerJob r) h = h
settled_calls x s at (GrantJob mode lver) h = h
settled_calls x s at (BecomeShared lver l) h = called_plain x s at.path (Lease Settling FreeLeader) (leader_offset at.base) (WriteRecord (leader_record x.setting.layout l)) (refl, leader_no_delta x.setting.layout l) h
settled_calls x s at (BecomeExclusive lver b) h = called_plain x s at.path (Lease Settling ClearMode) (block_place x.setting.layout at.base s.id (next_turn x.setting (seen x) s at))
    (WriteRecord (block_record x.setting.layout (next_turn x.setting (seen x) s at) s.lockspace (name_on x.setting (seen x) s at) b))
    (refl, (block_no_delta x.setting.layout (next_turn x.setting (seen x) s at) s.lockspace (name_on x.setting (seen x) s at) b)) h

unstarted_calls : (x : Step) (n : ℕ) → x.input ≡ Spawned n false → Whole x → CallsKept x → CallsKept (when_running (job_of_start (seen x) n) SpawnFault (end_holdings n x))
unstarted_calls x n input w h = by (job_of_start (seen x) n) refl where
  y : Step
  y = end_holdings n x

  both : CallsKept y × Steady x y
  both =
      for_each_keeps (λ z. CallsKept z × Steady x z) (filter (λ (g : Grant). g.process == n) (holdings (seen x))) (λ g. add_end (end_of g)) x
      (λ g there z k. (carry_end z (end_of g) k.0, (steady_allow x).ends z (end_of g) k.1)) (h, steady_itself x)

  by : (o : Option ℕ) → job_of_start (seen x) n ≡ o → CallsKept (when_running o SpawnFault (end_holdings n x))
  by None is = both.0
  by (Some j) is =
      when_keeps CallsKept (is_running (seen y) j) (add_reply j SpawnFault) y
      (λ runs k. carry_reply y j SpawnFault (late y SpawnFault refl) (ap (λ i. line_in i) (both.1.input ∙ input))
      (λ i c z at its delta also. other_starter x n j w.facts.jobs is z (subst (λ ss. Contains ss z) both.1.all (got_inside (sessions y.setting (seen y)) c.session z its)) also) k) both.0

-- ---- all acts

pub calls_are_kept : Acts KnowsCalls CallsKept
unfolding after_value_read
calls_are_kept =
    record {
      kills = λ x s has due h. for_each_keeps CallsKept (holders_of (seen x) s) (λ q. send q Kill) x (λ q there z k. carry_signal z q Kill k) h.kept;
      times_out = λ x j m wake bare runs waits late_one h.
          plainly_kept (refuse j (IoTimeout m.call.number m.reading x.reading) x) (refusal Plainly Plainly AnyReply PlainWork AnyStart AnyMove plain_allow x j (IoTimeout m.call.number m.reading x.reading) tt (λ z is. tt) (plain_bare x bare));
      hears = λ x number answer wake bare expected h. plainly_kept (with_input (Told number answer) x) (plain_bare (with_input (Told number answer) x) bare);
      counts = λ x text wake bare h. plainly_kept (with_input (Number text) x) (plain_bare (with_input (Number text) x) bare);
      exits = λ x n wake bare one h.
          let w : Step = with_input (Exit n) x in
          plainly_kept (refuse_jobs_of n (leave_holdings n w))
          (exited Plainly Plainly AnyReply PlainWork AnyStart AnyMove plain_allow (leave_holdings n w) n (λ j there. tt) (left Plainly Plainly AnyReply PlainWork AnyStart AnyMove plain_allow w n (plain_bare w bare)));
      exits_as_none = λ x n wake bare none h. plainly_kept (with_input (Exit n) x) (plain_bare (with_input (Exit n) x) bare);
      starts = λ x n ok wake bare expected h. plainly_kept (with_input (Spawned n ok) x) (plain_bare (with_input (Spawned n ok) x) bare);
      fails_to_start = λ x n input h. unstarted_calls x n input h.whole h.kept;
      signals_instead = λ x n o input stood_for h. carry_signal x o Term h.kept;
      says_started = λ x n j input is runs h.
          carry_reply x j (started_reply (seen x) n) (late x (started_reply (seen x) n) refl) (ap (λ i. line_in i) input)
          (λ k c z at its delta also. other_starter x n j h.whole.facts.jobs is z (got_inside (sessions x.setting (seen x)) c.session z its) also) h.kept;
      misreads = λ x text column wake bare says h.
          plainly_kept (answer_line text (next_job x.setting (seen x)) (Misread column) x) (plain_bare (answer_line text (next_job x.setting (seen x)) (Misread column) x) bare);
      answers = λ x text c r wake bare says is h. plainly_kept (answer_line text (next_job x.setting (seen x)) r x) (plain_bare (answer_line text (next_job x.setting (seen x)) r x) bare);
      carries = λ x text c d wake bare says is more h. carried_all x text c d wake bare says is h.whole;
      joins_on = λ x s j step m answer hears is runs h.
          let w : Working x s j = heard_working x s j step m answer h.whole hears is runs in
          joining_calls x s j (next_in_joining (delta_of_session x.setting s) (generation_of (seen x) s) (calls_of (seen x) s) x.reading m step answer) w.its w.has hears.bare (heard_next x s j step m answer h.whole h.reads hears is runs);
      ends_joining = λ x s j step m answer hears is stops h. plainly_kept (remove_of_refused s x) (removal_of_refused Plainly Plainly AnyReply PlainWork AnyStart AnyMove plain_allow x s tt (plain_bare x hears.bare));
      renewed = λ x s m answer hears is h. renewed_calls x s m answer hears is h.whole;
      freed = λ x s j m answer hears is h. freed_calls x s j m answer hears;
      shown = λ x s m bytes hears is joined begins h.
          plainly_kept (signal_and_refuse s None x) (stopped Plainly Plainly AnyReply PlainWork AnyStart AnyMove plain_allow tt x s None (λ z k j there. tt) (plain_bare x hears.bare));
      sees = λ x s number bytes spot g has input held h. called_plain x s g.path SeeRequest (request_offset x.setting.layout g.offset) (ReadSectors 1) (refl, refl) h.kept;
      leads_on = λ x s work step m answer aim hears is on aims h.
          let n : LeaseNext = next_of_lease x.setting (seen x) s (spot_of_call x.setting.layout m) aim m step answer in
          plainly_kept (carry_lease s (spot_of_call x.setting.layout m) work n x)
          (lease Plainly Plainly AnyReply PlainWork AnyStart AnyMove plain_allow x s (spot_of_call x.setting.layout m) work n (lease_plain x s (spot_of_call x.setting.layout m) work n) (plain_bare x hears.bare));
      fails = λ x s m j hears lone runs h. plainly_kept (add_reply j (IoFault m.call.number) x) (plain_bare (add_reply j (IoFault m.call.number) x) hears.bare);
      has_asked = λ x s m j owner hears is runs h. plainly_kept (add_reply j Done x) (plain_bare (add_reply j Done x) hears.bare);
      has_set = λ x s m j hears is runs h. plainly_kept (add_reply j (set_reply m) x) (plain_bare (add_reply j (set_reply m) x) hears.bare);
      asks = λ x s m j bytes c hears is runs reads_one h.
          plainly_kept (after_request_read s j bytes c x) (requested Plainly Plainly AnyReply PlainWork AnyStart AnyMove plain_allow x s j bytes c (request_plain x s j bytes c) (plain_bare x hears.bare));
      tells = λ x s m j bytes hears is runs h. plainly_kept (add_reply j (value_reply x.setting.layout bytes) x) (plain_bare (add_reply j (value_reply x.setting.layout bytes) x) hears.bare);
      warns = λ x s m bytes g signal hears is held own says h. plainly_kept (send g.process signal x) (sent Plainly Plainly AnyReply PlainWork AnyStart AnyMove plain_allow tt x g.process signal (plain_bare x hears.bare));
      joins_in_time = λ x s j has wake its runs h.
          woken_carried x s j (next_on_wake (delta_of_session x.setting s) x.reading (calls_of (seen x) s)) (record { has = has; its = its; runs = runs; names = h.whole.facts.names; orderly = h.whole.orderly }) wake
          (woken_next x s j h.whole h.past.names h.past.connections has wake its runs) h.kept;
      renews = λ x s has wake joined h. renewing_calls x s (bits_due x.setting (calls_of (seen x) s) x.reading) has joined h.whole h.kept;
      settles = λ x s spot has wake active whole none h. settled_calls x s spot (next_of_settling x.setting (seen x) s spot) h.kept;
      parts = λ x s has joined ill free quiet h. parts_calls x s has joined ill h.whole h.kept;
      frees = λ x s has joined well free quiet h. freeing_calls x s has joined well free quiet h.kept;
    }

-- ---- once a step has begun nothing was called

pub calls_begin : BeginsWith CallsKept
unfolding begin_recoveries begin_recovery
calls_begin st past e follows w =
    let x : Step = begin_step st past e.reading in
    plainly_kept (begin_recoveries x)
    (for_each_keeps Plainly (present_sessions st (seen x)) begin_recovery x
    (λ s there y k. when_keeps Plainly (begins_now (seen y) (recovery_of y.setting (seen y) s)) (signal_and_refuse s None) y
    (λ begins f. stopped Plainly Plainly AnyReply PlainWork AnyStart AnyMove plain_allow tt y s None (λ z g j inside. tt) f) k) (plain_bare x refl))
